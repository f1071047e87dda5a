-- What stands at an action: the call, this spawn, the opening of a `finish`, its end, this loop, the end of the body, this trap.
use Rattle.std.specs.Prelude.{ℕ, Bool, false, true, not, ◌&&◌, ◌==◌, List, Option, Some, None}
use Rattle.std.specs.Str.{bytes_eq}
use Rattle.gr_lang.specs.declared.action.Action.{Action}
use Rattle.gr_lang.specs.declared.action.Action.TheVariants as action
use Rattle.gr_lang.specs.declared.action.Op.{Op}
use Rattle.gr_lang.specs.declared.action.How.{How}
use Rattle.gr_lang.specs.declared.action.TrapKind.{TrapKind}
use Rattle.gr_lang.specs.declared.action.TrapKind.TheVariants as trap
use Rattle.gr_lang.specs.Fields.{same_how, same_trap}
use Rattle.gr_lang.specs.Steps.{has_core}

abbrev pub call_in : Action → Option Op
call_in (action.Call op) = Some op
call_in _ = None

abbrev pub is_spawn : Action → How → ℕ → List ℕ → Bool
is_spawn (action.Spawn how target args) how2 target2 args2 = same_how how how2 && (target == target2) && bytes_eq args args2
is_spawn _ how target args = false

abbrev pub is_finish : Action → Bool
is_finish action.Finish = true
is_finish _ = false

abbrev pub is_arrive : Action → Bool
is_arrive action.Arrive = true
is_arrive _ = false

abbrev pub is_loop : Action → ℕ → ℕ → ℕ → ℕ → List ℕ → Bool
is_loop (action.Loop lo hi grain target args) lo2 hi2 grain2 target2 args2 = lo == lo2 && hi == hi2 && grain == grain2 && target == target2 && bytes_eq args args2
is_loop _ lo hi grain target args = false

abbrev pub is_end : Action → Bool
is_end action.End = true
is_end _ = false

-- A spawn at a core that there isn't is a trap too.
abbrev pub is_trap : ℕ → Action → TrapKind → Bool
is_trap cores (action.Trap kind) kind2 = same_trap kind kind2
is_trap cores (action.Spawn how target args) trap.Core = not (has_core cores how)
is_trap cores _ kind = false
