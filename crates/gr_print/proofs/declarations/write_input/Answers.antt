use Rattle.std.proofs.Common.{rules, arith}
use Rattle.std.proofs.lemmas.Grind.{common_steps}
use Rattle.gr_print.proofs.Texts.{text_input}
use Rattle.gr_print.proofs.declarations.write_input.Goals as goal

pub returns : goal.returns
returns c =
    let parts = text_input c.args.name.now c.args.values.now in
    first_of (search rules, grind (arith, common_steps))
