use Rattle.std.proofs.Common.{◌≡◌, ◌++◌, [], ◌∷◌, map, drop, string_bytes}
use Rattle.gr_syntax.specs.declared.syntax.Number.{Number}
use Rattle.gr_print.specs.Pieces.{bytes_of, number}
use Rattle.gr_print.specs.Layout.{numbers, behind}
use Rattle.gr_print.proofs.parts.write_numbers.Given as goal

abbrev pub invariant-each : goal.invariant-each
invariant-each l = string_bytes l.out ++ bytes_of (behind (map (λ (n : Number). number n ∷ []) (drop l.number-index l.others))) ≡ string_bytes l.fn.out ++ bytes_of (numbers l.numbers)
