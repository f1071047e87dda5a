use Rattle.std.proofs.Common.{rules, arith}
use Rattle.std.proofs.lemmas.Grind.{common_steps}
use Rattle.gr_print.proofs.Texts.{text_assignment}
use Rattle.gr_print.proofs.statements.write_assignment.Goals as goal

pub returns : goal.returns
returns c =
    let parts = text_assignment c.args.fresh c.args.targets.now c.args.right.now in
    first_of (search rules, grind (arith, common_steps))
