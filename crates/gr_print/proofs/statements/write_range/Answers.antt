use Rattle.std.proofs.Common.{rules, arith}
use Rattle.std.proofs.lemmas.Grind.{common_steps}
use Rattle.gr_print.proofs.Texts.{text_range}
use Rattle.gr_print.proofs.statements.write_range.Goals as goal

pub returns : goal.returns
returns c =
    let parts = text_range c.args.lo.now c.args.hi.now c.args.grain.now in
    first_of (search rules, grind (arith, common_steps))
