-- The words by which traps are told.
use Rattle.std.specs.Prelude.{ℕ, List, codes}
use Rattle.gr_lang.specs.declared.action.TrapKind.{TrapKind}
use Rattle.gr_lang.specs.declared.action.TrapKind.TheVariants as trap

abbrev pub trap_word : TrapKind → List ℕ
trap_word trap.Div = codes "div"
trap_word trap.Place = codes "place"
trap_word trap.Core = codes "core"
trap_word trap.Steps = codes "steps"
