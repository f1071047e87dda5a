use Rattle.std.proofs.Common.{rules, arith}
use Rattle.std.proofs.lemmas.Grind.{common_steps}
use Rattle.gr_print.proofs.Texts.{text_not, text_two}
use Rattle.gr_print.proofs.expressions.+write_below.Goals as goal

pub returns-in_ok-push_str-in-Not : goal.returns-in_ok-push_str-in-Not
returns-in_ok-push_str-in-Not t c =
    let same = text_not c.args.level c.in-Not.inner c.args.value.now c.in-Not.is in
    first_of (search rules, grind (arith, common_steps))

pub returns-in_ok-write_below-in-Two-2 : goal.returns-in_ok-write_below-in-Two-2
returns-in_ok-write_below-in-Two-2 t c =
    let same = text_two c.args.level c.in-Two.op c.in-Two.left c.in-Two.right c.args.value.now c.in-Two.is in
    first_of (search rules, grind (arith, common_steps))
