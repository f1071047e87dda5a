-- The home of a batch, and what it does, by the shape of its object.
use Rattle.std.proofs.Common.{◌≡◌, ℕ, Option, Some, None, refl}
use Rattle.std.specs.Option.{option_map}
use Rattle.gr_lang.specs.declared.action.Effect.{Effect}
use Rattle.gr_lang.specs.Objects.{Object, array, keys, pairs, line}
use Rattle.gr_code.specs.Shapes.{shape_of}
use Rattle.gr_machine.specs.Machines.{Machine}
use Rattle.gr_machine.specs.States.{Body}
use Rattle.gr_machine.specs.Closes.{batch_home}
use Rattle.gr_machine.specs.BatchServes.{batched}
use Rattle.gr_objects.specs.Kinds.{batch_home_by, batched_by}

pub batch_home_is : (machine : Machine) (thing : Option Object) (key : ℕ) → batch_home machine thing key ≡ batch_home_by machine (option_map shape_of thing) key
batch_home_is machine None key = refl
batch_home_is machine (Some (array from count)) key = refl
batch_home_is machine (Some (keys held)) key = refl
batch_home_is machine (Some (pairs held)) key = refl
batch_home_is machine (Some (line words)) key = refl

pub batched_is : (machine : Machine) (me : ℕ) (body : Body) (from object key : ℕ) (what : Effect) (batch : ℕ) (thing : Option Object)
    → batched machine me body from object key what batch thing ≡ batched_by machine me body from object key what batch (option_map shape_of thing)
batched_is machine me body from object key what batch None = refl
batched_is machine me body from object key what batch (Some (array start count)) = refl
batched_is machine me body from object key what batch (Some (keys held)) = refl
batched_is machine me body from object key what batch (Some (pairs held)) = refl
batched_is machine me body from object key what batch (Some (line words)) = refl

pub ruleset by_shape = (batch_home_is, batched_is)
