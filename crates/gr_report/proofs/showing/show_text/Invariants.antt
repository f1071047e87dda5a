use Rattle.std.proofs.Common.{◌≡◌, ◌++◌, drop}
use Rattle.std.specs.Prelude.{string_bytes}
use Rattle.gr_report.specs.Showing.{shown_items}
use Rattle.gr_report.proofs.showing.show_text.Given as goal

abbrev pub invariant-loop-item : goal.invariant-loop-item
invariant-loop-item l = string_bytes l.text ++ shown_items l.program l.contents (drop l.item-index l.program.items) ≡ shown_items l.program l.contents l.program.items
