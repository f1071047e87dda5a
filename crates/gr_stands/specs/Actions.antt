-- What the next action of a task of an accepted program names: a place that the object has, an object that has the call, a reducer that there is, and a
-- task with as many parameters as words are given.
use Rattle.std.specs.Prelude.{◌≡◌, ℕ, ◌+◌, ◌<◌, true, length, Some, is_some}
use Rattle.std.specs.FinMap as fin
use Rattle.gr_lang.specs.declared.action.Action.{Action}
use Rattle.gr_lang.specs.declared.action.Action.TheVariants as action
use Rattle.gr_lang.specs.declared.action.Op.{Op}
use Rattle.gr_lang.specs.declared.action.Op.TheVariants as op
use Rattle.gr_lang.specs.declared.action.TaskId.{TaskId}
use Rattle.gr_lang.specs.Objects.{address}
use Rattle.gr_lang.specs.States.{Task, State}
use Rattle.gr_machine.specs.Machines.{Machine, thing, has_task}
use Rattle.gr_machine.specs.Openings.{is_vector}
use Rattle.gr_machine.specs.Calls.{is_reducer, is_keyed}
use Rattle.gr_stands.specs.Worlds.{Given, machine_in}

-- The object has this place.
abbrev pub HasPlace : Machine → ℕ → ℕ → Type 0
HasPlace machine object place = is_some (address machine.code.objects object place) ≡ true

-- The set or map has the call.
abbrev pub HasKeyed : Machine → ℕ → Op → Type 0
HasKeyed machine object call = is_keyed call (thing machine object) ≡ true

-- The object is a vector.
abbrev pub HasLine : Machine → ℕ → Type 0
HasLine machine object = is_vector (thing machine object) ≡ true

abbrev pub CallFits : Machine → Op → Type 0
CallFits machine (op.Read object place) = HasPlace machine object place
CallFits machine (op.Write object place word) = HasPlace machine object place
CallFits machine (op.Add object place word) = HasPlace machine object place
CallFits machine (op.Cas object place old new) = HasPlace machine object place
CallFits machine (op.Reduce object reducer place word) = (is_reducer reducer ≡ true) × HasPlace machine object place
CallFits machine (op.Insert object key) = HasKeyed machine object (op.Insert object key)
CallFits machine (op.Remove object key) = HasKeyed machine object (op.Remove object key)
CallFits machine (op.Has object key) = HasKeyed machine object (op.Has object key)
CallFits machine (op.Put object key word) = HasKeyed machine object (op.Put object key word)
CallFits machine (op.Get object key) = HasKeyed machine object (op.Get object key)
CallFits machine (op.Erase object key) = HasKeyed machine object (op.Erase object key)
CallFits machine (op.Merge object reducer key word) = HasKeyed machine object (op.Merge object reducer key word)
CallFits machine (op.Push object word) = HasLine machine object
CallFits machine (op.Pop object) = HasLine machine object
CallFits machine (op.Dequeue object) = HasLine machine object
CallFits machine (op.Alloc count) = Unit
CallFits machine (op.Free place) = Unit
CallFits machine (op.Print word) = Unit

-- A loop's task gets the index before the words.
abbrev pub ActionFits : Machine → Action → Type 0
ActionFits machine (action.Call call) = CallFits machine call
ActionFits machine (action.Spawn way target args) = has_task machine target (length args) ≡ true
ActionFits machine (action.Loop lo hi grain target args) = (has_task machine target (length args + 1) ≡ true) × (0 < grain)
ActionFits machine _ = Unit

-- The next action of each task of the plain state is such. So it is in each state of a history of an accepted program.
abbrev pub ActionsFit : Given → State → Type 0
ActionsFit given state = (id : TaskId) (task : Task) → fin.get state.tasks id ≡ Some task → ActionFits (machine_in given) task.action
