-- What a list of locals stands for.
use Rattle.std.specs.Prelude.{ℕ, List, map}
use Rattle.gr_steps.specs.declared.locals.Local.{Local}
use Rattle.gr_lang.specs.Locals.{Locals}

-- A local with its word.
abbrev pub pair_of : Local → List ℕ × ℕ
pair_of l = (l.name.now, l.word)

-- The locals in their order.
abbrev pub locals_of : List Local → Locals
locals_of = map pair_of
