-- What a batch on an object does, and where its home is, told by the object's shape.
use Rattle.std.specs.Prelude.{ℕ, ◌==◌, if◌then◌else◌, Option, Some, None}
use Rattle.gr_syntax.specs.declared.limits.TheConstants.{HEAP}
use Rattle.gr_lang.specs.declared.action.Effect.{Effect}
use Rattle.gr_code.specs.declared.shapes.Shape.{Shape}
use Rattle.gr_code.specs.declared.shapes.Shape.TheVariants as shape
use Rattle.gr_machine.specs.Machines.{Machine, home, numbered_home}
use Rattle.gr_machine.specs.States.{Body}
use Rattle.gr_machine.specs.Outcomes.{Outcome}
use Rattle.gr_machine.specs.BatchServes.{is_of_map, is_of_set, key_batch, word_batch}

-- The home of a batch: that of its key in a set or map, and else that of the word at the address.
abbrev pub batch_home_by : Machine → Option Shape → ℕ → ℕ
batch_home_by machine (Some shape.Set) key = numbered_home machine key
batch_home_by machine (Some shape.Map) key = numbered_home machine key
batch_home_by machine _ key = home machine key

-- A batch on an array, a set, a map or the heap, which has no shape.
abbrev pub batched_by : Machine → ℕ → Body → ℕ → ℕ → ℕ → Effect → ℕ → Option Shape → Option Outcome
batched_by machine me body from object key what batch (Some (shape.Words start count)) = word_batch machine me body from key what batch
batched_by machine me body from object key what batch (Some shape.Set) = key_batch body from object key what batch (is_of_set what)
batched_by machine me body from object key what batch (Some shape.Map) = key_batch body from object key what batch (is_of_map what)
batched_by machine me body from object key what batch (Some shape.Vector) = None
batched_by machine me body from object key what batch None = if object == HEAP then word_batch machine me body from key what batch else None
