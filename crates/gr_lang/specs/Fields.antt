-- When two replies, ways to spawn or traps are the same, as tests.
use Rattle.std.specs.Prelude.{◌==◌, Bool, true, false, ◌&&◌}
use Rattle.gr_lang.specs.declared.action.Reply.{Reply}
use Rattle.gr_lang.specs.declared.action.How.{How}
use Rattle.gr_lang.specs.declared.action.How.TheVariants as how
use Rattle.gr_lang.specs.declared.action.TrapKind.{TrapKind}
use Rattle.gr_lang.specs.declared.action.TrapKind.TheVariants as trap

abbrev pub same_reply : Reply → Reply → Bool
same_reply one other = one.first == other.first && one.second == other.second

abbrev pub same_how : How → How → Bool
same_how how.Here how.Here = true
same_how (how.At core) (how.At other) = core == other
same_how how.Offer how.Offer = true
same_how _ _ = false

abbrev pub same_trap : TrapKind → TrapKind → Bool
same_trap trap.Div trap.Div = true
same_trap trap.Place trap.Place = true
same_trap trap.Core trap.Core = true
same_trap trap.Steps trap.Steps = true
same_trap _ _ = false
