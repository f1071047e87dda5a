-- What an object of the memory stands for, and the objects after a change of one of them.
use Rattle.std.specs.Prelude.{ℕ, List, slice_get, slice_set, Option, Some, None}
use Rattle.gr_lang.specs.Objects.{Object, array, keys, pairs, line}
use Rattle.gr_memory.specs.declared.things.Held.{Held}
use Rattle.gr_memory.specs.declared.things.Held.TheVariants as held

abbrev pub object_of : Held → Object
object_of (held.Array from count) = array from count
object_of (held.Set its) = keys its
object_of (held.Map its) = pairs its
object_of (held.Vector its) = line its

abbrev pub with_changed : List Object → ℕ → (Object → Object) → Option Object → List Object
with_changed objects number change None = objects
with_changed objects number change (Some object) = slice_set objects number (change object)

-- The objects with the one of this number changed, where there is one.
abbrev pub changed_at : List Object → ℕ → (Object → Object) → List Object
changed_at objects number change = with_changed objects number change (slice_get objects number)
