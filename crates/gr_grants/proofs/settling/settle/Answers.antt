use Rattle.std.proofs.Common.{◌%◌, ◌∙◌, ap, arith}
use Rattle.std.proofs.lemmas.Result.{on_ok_weaker}
use Rattle.gr_turns.specs.LineView.{turn_in, vector_in, vectors_in}
use Rattle.gr_machine.specs.declared.setup.Setup.{Setup}
use Rattle.gr_state.specs.StateView.{seen_of}
use Rattle.gr_grants.proofs.Turning.{settled}
use Rattle.gr_grants.proofs.settling.settle.Goals as goal

pub returns : goal.returns
returns c =
    let there = vector_in c.in-Some.there.now in
    let turn = turn_in c.in-Some-turn.turn.now in
    let resumed = c.as_slice.ensures ∙ c.in_ok-answers.ensures in
    let marked = c.as_slice-2.ensures ∙ c.in_ok-answers.ensures in
    let home = ap (λ (setup : Setup). c.args.vector % setup.cores) c.setup.ensures.value in
    on_ok_weaker _ (settled (seen_of c.args.state.now) (seen_of c.send.new.self) (seen_of c.resume_all.new.state) (seen_of c.mark_all.new.state)
    c.args.vector _ there turn (vectors_in c.finish.new.self) c.as_slice.result.now c.as_slice-2.result.now c.ends_after-ends.result
    c.in-Some.ensures c.in-Some-turn.ensures (omega (arith, c.left.ensures)) resumed marked c.ends_after-ends.ensures home
    c.finish.ensures c.in_ok-resume_all.ensures c.in_ok-mark_all.ensures) c.send.ensures
