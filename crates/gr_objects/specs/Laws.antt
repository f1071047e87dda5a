-- The laws of batches by the shape of their object.
use Rattle.std.specs.Prelude.{◌≡◌, ℕ, Option}
use Rattle.std.specs.Option.{option_map}
use Rattle.gr_lang.specs.declared.action.Effect.{Effect}
use Rattle.gr_lang.specs.Objects.{Object}
use Rattle.gr_code.specs.Shapes.{shape_of}
use Rattle.gr_machine.specs.Machines.{Machine}
use Rattle.gr_machine.specs.States.{Body}
use Rattle.gr_machine.specs.Closes.{batch_home}
use Rattle.gr_machine.specs.BatchServes.{batched}
use Rattle.gr_objects.specs.Kinds.{batch_home_by, batched_by}

-- The shape of an object says where the home of its batches is.
abbrev pub BatchHomesAreByShape : Type 0
BatchHomesAreByShape =
    (machine : Machine) (thing : Option Object) (key : ℕ) → batch_home machine thing key ≡ batch_home_by machine (option_map shape_of thing) key

-- The shape of an object says what a batch on it does.
abbrev pub BatchesAreByShape : Type 0
BatchesAreByShape =
    (machine : Machine) (me : ℕ) (body : Body) (from object key : ℕ) (what : Effect) (batch : ℕ) (thing : Option Object)
    → batched machine me body from object key what batch thing ≡ batched_by machine me body from object key what batch (option_map shape_of thing)
