use Rattle.std.proofs.Common.{◌≡◌, ◌++◌, [], ◌∷◌, map, drop, string_bytes}
use Rattle.gr_syntax.specs.declared.syntax.Name.{Name}
use Rattle.gr_print.specs.Pieces.{bytes_of, name}
use Rattle.gr_print.specs.Layout.{names, behind}
use Rattle.gr_print.proofs.parts.write_names.Given as goal

abbrev pub invariant-each : goal.invariant-each
invariant-each l = string_bytes l.out ++ bytes_of (behind (map (λ (n : Name). name n ∷ []) (drop l.name-index l.others))) ≡ string_bytes l.fn.out ++ bytes_of (names l.names)
