-- An operation taken apart, and put together from its parts.
use Rattle.std.specs.Prelude.{ℕ, ◌==◌, Bool, false, ◌&&◌, List, [], ◌∷◌, slice_index, Some, None, unwrap_or}
use Rattle.std.specs.Str.{bytes_eq}
use Rattle.gr_accept.specs.Operations.{same_operation}
use Rattle.gr_accept.specs.declared.operation.Operation.{Operation}
use Rattle.gr_accept.specs.declared.operation.Operation.TheVariants as operation
use Rattle.gr_syntax.specs.declared.limits.TheConstants.{HEAP}
use Rattle.gr_lang.specs.declared.action.Op.{Op}
use Rattle.gr_lang.specs.declared.action.Op.TheVariants as op
use Rattle.gr_lang.specs.declared.action.Parts.{Parts}
use Rattle.gr_lang.specs.declared.action.Parts.TheVariants as parts

-- A call without a reducer, and one with a reducer. A word that the operation doesn't take is 0.
abbrev pub plain : Operation → ℕ → (first second third : ℕ) → Parts
plain operation object first second third = parts.Call operation object None (first ∷ second ∷ third ∷ [])

abbrev pub reducing : Operation → ℕ → ℕ → (first second : ℕ) → Parts
reducing operation object reducer first second = parts.Call operation object (Some reducer) (first ∷ second ∷ 0 ∷ [])

-- The operation's name, object, reducer and words. The blocks of the heap are those of the object with the heap's number.
abbrev pub parts_of : Op → Parts
parts_of (op.Read object place) = plain operation.Read object place 0 0
parts_of (op.Write object place word) = plain operation.Write object place word 0
parts_of (op.Add object place word) = plain operation.Add object place word 0
parts_of (op.Cas object place old new) = plain operation.Cas object place old new
parts_of (op.Reduce object reducer place word) = reducing operation.Reduce object reducer place word
parts_of (op.Insert object key) = plain operation.Insert object key 0 0
parts_of (op.Remove object key) = plain operation.Remove object key 0 0
parts_of (op.Has object key) = plain operation.Has object key 0 0
parts_of (op.Put object key word) = plain operation.Put object key word 0
parts_of (op.Get object key) = plain operation.Get object key 0 0
parts_of (op.Erase object key) = plain operation.Erase object key 0 0
parts_of (op.Merge object reducer key word) = reducing operation.Merge object reducer key word
parts_of (op.Push object word) = plain operation.Push object word 0 0
parts_of (op.Pop object) = plain operation.Pop object 0 0 0
parts_of (op.Dequeue object) = plain operation.Dequeue object 0 0 0
parts_of (op.Alloc count) = plain operation.Alloc HEAP count 0 0
parts_of (op.Free place) = plain operation.Free HEAP place 0 0
parts_of (op.Print word) = parts.Print word

-- The operation on an object, with its reducer and its words. A word that isn't there is 0.
abbrev pub op_of : Operation → ℕ → ℕ → List ℕ → Op
op_of operation.Read object reducer words = op.Read object (slice_index words 0)
op_of operation.Write object reducer words = op.Write object (slice_index words 0) (slice_index words 1)
op_of operation.Add object reducer words = op.Add object (slice_index words 0) (slice_index words 1)
op_of operation.Cas object reducer words = op.Cas object (slice_index words 0) (slice_index words 1) (slice_index words 2)
op_of operation.Reduce object reducer words = op.Reduce object reducer (slice_index words 0) (slice_index words 1)
op_of operation.Insert object reducer words = op.Insert object (slice_index words 0)
op_of operation.Remove object reducer words = op.Remove object (slice_index words 0)
op_of operation.Has object reducer words = op.Has object (slice_index words 0)
op_of operation.Put object reducer words = op.Put object (slice_index words 0) (slice_index words 1)
op_of operation.Merge object reducer words = op.Merge object reducer (slice_index words 0) (slice_index words 1)
op_of operation.Get object reducer words = op.Get object (slice_index words 0)
op_of operation.Erase object reducer words = op.Erase object (slice_index words 0)
op_of operation.Push object reducer words = op.Push object (slice_index words 0)
op_of operation.Pop object reducer words = op.Pop object
op_of operation.Dequeue object reducer words = op.Dequeue object
op_of operation.Alloc object reducer words = op.Alloc (slice_index words 0)
op_of operation.Free object reducer words = op.Free (slice_index words 0)

-- The operation with these parts.
abbrev pub op_in : Parts → Op
op_in (parts.Call operation object reducer words) = op_of operation object (unwrap_or reducer 0) words
op_in (parts.Print word) = op.Print word

-- The same operation of the same object, with the same reducer and words; or the same word printed.
abbrev pub same_parts : Parts → Parts → Bool
same_parts (parts.Call one object reducer words) (parts.Call other object2 reducer2 words2) =
    same_operation one other && object == object2 && unwrap_or reducer 0 == unwrap_or reducer2 0 && bytes_eq words words2
same_parts (parts.Print word) (parts.Print word2) = word == word2
same_parts _ _ = false

abbrev pub same_op : Op → Op → Bool
same_op one other = same_parts (parts_of one) (parts_of other)
