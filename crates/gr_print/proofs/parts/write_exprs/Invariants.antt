use Rattle.std.proofs.Common.{◌≡◌, ◌++◌, map, drop, string_bytes}
use Rattle.gr_print.specs.Pieces.{bytes_of}
use Rattle.gr_print.specs.Layout.{expr, exprs, behind}
use Rattle.gr_print.proofs.parts.write_exprs.Given as goal

abbrev pub invariant-each : goal.invariant-each
invariant-each l = string_bytes l.out ++ bytes_of (behind (map expr (drop l.value-index l.others))) ≡ string_bytes l.fn.out ++ bytes_of (exprs l.values)
