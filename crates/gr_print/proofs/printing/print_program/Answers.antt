use Rattle.std.proofs.Common.{rules, arith, ◌≡◌, ℕ, ◌+◌, List, drop, sym, subst}
use Rattle.std.proofs.lemmas.Grind.{common_steps}
use Rattle.gr_print.specs.Layout.{item, program, program_text}
use Rattle.gr_print.specs.Printed.{IsLeast}
use Rattle.gr_print.proofs.Exactly.{least}
use Rattle.gr_print.proofs.Texts.{text_line}
use Rattle.gr_print.proofs.printing.print_program.Goals as goal

pub each-preserved : goal.each-preserved
each-preserved c =
    let parts = text_line 0 (item c.item-item.result) (program (drop (c.each.item-index + 1) c.as_slice-item-items.result.now)) in
    first_of (search rules, grind (arith, common_steps))

pub returns-clause-least : goal.returns-clause-least
returns-clause-least c = λ h.
    let text : c.into_bytes.result.items ≡ program_text c.args.program.now = first_of (search rules, grind (arith, common_steps)) in
    subst (λ (bytes : List ℕ). IsLeast bytes c.args.program.now) (sym text) (least c.args.program.now h)
