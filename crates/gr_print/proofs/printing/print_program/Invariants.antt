use Rattle.std.proofs.Common.{◌≡◌, ◌++◌, drop, string_bytes}
use Rattle.gr_print.specs.Pieces.{bytes_of}
use Rattle.gr_print.specs.Layout.{program}
use Rattle.gr_print.proofs.printing.print_program.Given as goal

abbrev pub invariant-each : goal.invariant-each
invariant-each l = string_bytes l.text ++ bytes_of (program (drop l.item-index l.program.items)) ≡ bytes_of (program l.program.items)
