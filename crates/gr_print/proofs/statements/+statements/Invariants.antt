use Rattle.std.proofs.Common.{◌≡◌, ◌++◌, map, drop, string_bytes}
use Rattle.gr_print.specs.Pieces.{bytes_of}
use Rattle.gr_print.specs.Layout.{lines, stmt}
use Rattle.gr_print.proofs.statements.+statements.Given as goal

abbrev pub invariant-write_lines-each : goal.invariant-write_lines-each
invariant-write_lines-each l = string_bytes l.out ++ bytes_of (lines (map stmt (drop l.stmt-index l.block)) l.margin) ≡ string_bytes l.fn.out ++ bytes_of (lines (map stmt l.block) l.margin)
