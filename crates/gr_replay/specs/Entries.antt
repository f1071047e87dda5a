-- The entry that a line of a history text names in a program; a name that the program doesn't have, or words that the operation doesn't take, name none.
use Rattle.std.specs.Prelude.{ℕ, ◌==◌, Bool, true, ◌&&◌, if◌then◌else◌, List, [], ◌∷◌, length, Option, Some, None, is_some, unwrap_or}
use Rattle.std.specs.Option.{option_map, option_and_then}
use Rattle.std.specs.Bool.{beq}
use Rattle.gr_syntax.specs.declared.limits.TheConstants.{HEAP}
use Rattle.gr_syntax.specs.declared.syntax.Program.{Program}
use Rattle.gr_syntax.specs.Items.{object_named, task_named}
use Rattle.gr_accept.specs.declared.operation.Operation.{Operation}
use Rattle.gr_accept.specs.declared.operation.Operation.TheVariants as operation
use Rattle.gr_accept.specs.Operations.{argument_count, result_count, takes_reducer}
use Rattle.gr_lang.specs.declared.action.Entry.{Entry}
use Rattle.gr_lang.specs.declared.action.Entry.TheVariants as entry
use Rattle.gr_lang.specs.declared.action.Op.TheVariants as op
use Rattle.gr_lang.specs.declared.action.Reply.{Reply}
use Rattle.gr_lang.specs.declared.action.TaskId.{TaskId}
use Rattle.gr_lang.specs.Effects.{nothing, one, reply}
use Rattle.gr_lang.specs.Parts.{op_of}
use Rattle.gr_hist.specs.declared.text.NamedEntry.{NamedEntry}
use Rattle.gr_hist.specs.declared.text.NamedEntry.TheVariants as line

-- Whether so many numbers, reply words and reducers are what the operation takes and gives.
abbrev pub has_counts : Operation → Option ℕ → List ℕ → List ℕ → Bool
has_counts operation reducer numbers words =
    length numbers == argument_count operation && length words == result_count operation && beq (is_some reducer) (takes_reducer operation)

-- A word that isn't there is 0.
abbrev pub reply_of : List ℕ → Reply
reply_of [] = nothing
reply_of (first ∷ []) = one first
reply_of (first ∷ second ∷ more) = reply first second

-- An operation that only the heap has names no other object.
abbrev pub is_at : Operation → ℕ → Bool
is_at operation.Alloc object = object == HEAP
is_at operation.Free object = object == HEAP
is_at _ object = true

-- The call of that object, where the operation takes and gives such words there.
abbrev pub call_at : TaskId → Operation → Option ℕ → List ℕ → List ℕ → ℕ → Option Entry
call_at task operation reducer numbers words object =
    if has_counts operation reducer numbers words && is_at operation object
    then Some (entry.Call task (op_of operation object (unwrap_or reducer 0) numbers) (reply_of words)) else None

-- The entry of a line that names no object and no task.
abbrev pub nameless : NamedEntry → Option Entry
nameless (line.Print task word) = Some (entry.Call task (op.Print word) nothing)
nameless (line.Finish task) = Some (entry.Finish task)
nameless (line.Begin owner index child) = Some (entry.Begin owner index child)
nameless (line.Pass task) = Some (entry.Pass task)
nameless (line.End task) = Some (entry.End task)
nameless (line.Trap task kind) = Some (entry.Trap task kind)
nameless line.Over = Some entry.Over
nameless _ = None

-- The entry that a line names.
unfoldable pub entry_in : Program → NamedEntry → Option Entry
entry_in program (line.Call task object operation reducer numbers words) =
    option_and_then (call_at task operation reducer numbers words) (object_named program object)
entry_in program (line.Spawn task how target args child) = option_map (λ number. entry.Spawn task how number args child) (task_named program target)
entry_in program (line.Loop task lo hi grain target args) = option_map (λ number. entry.Loop task lo hi grain number args) (task_named program target)
entry_in program other = nameless other
