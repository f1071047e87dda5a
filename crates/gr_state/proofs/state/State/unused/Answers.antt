use Rattle.std.proofs.Common.{arith, refl}
use Rattle.std.proofs.lemmas.Grind.{common_steps}
use Rattle.gr_state.proofs.state.State.unused.Goals as goal

pub returns-clause-seen : goal.returns-clause-seen
returns-clause-seen c =
    let words = c.in_ok-store.ensures.words c.args.setup c.requires.deals in
    let vectors = c.in_ok-vectors.ensures c.args.code.now.program c.args.setup c.objects.ensures refl in
    grind (arith, common_steps, words, vectors)
