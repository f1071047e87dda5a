use Rattle.std.proofs.Common.{rules, arith, ◌+◌, map, drop}
use Rattle.std.proofs.lemmas.Grind.{common_steps}
use Rattle.gr_print.specs.Layout.{expr, behind}
use Rattle.gr_print.proofs.Texts.{bytes_of-append}
use Rattle.gr_print.proofs.parts.write_exprs.Goals as goal

pub each-init : goal.each-init
each-init c =
    let parts = bytes_of-append (expr c.in-Some.first.now) (behind (map expr c.in-Some.others.now)) in
    first_of (search rules, grind (arith, common_steps))

pub each-preserved : goal.each-preserved
each-preserved c =
    let parts = bytes_of-append (expr c.value-item.result) (behind (map expr (drop (c.each.value-index + 1) c.in-Some.others.now))) in
    first_of (search rules, grind (arith, common_steps))
