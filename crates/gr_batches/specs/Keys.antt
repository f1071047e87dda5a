-- Calls that are combined: on which object, and under which key.
use Rattle.std.specs.Prelude.{◌≡◌, ℕ, true, Some}
use Rattle.gr_lang.specs.declared.action.Op.{Op}
use Rattle.gr_lang.specs.declared.action.Op.TheVariants as op
use Rattle.gr_lang.specs.Objects.{address}
use Rattle.gr_machine.specs.Machines.{Machine, thing}
use Rattle.gr_machine.specs.Calls.{is_reducer, is_keyed}

-- A call of a set or map is on this object, which has it, and under this key.
pub record IsKeyed (machine : Machine) (object key : ℕ) (call : Op) (on under : ℕ) : Type 0 where
  pub object_is : on ≡ object
  pub key_is : under ≡ key
  pub has : is_keyed call (thing machine object) ≡ true

-- A reduce is on this object, of the word with this address, by a reducer that there is.
pub record IsReduce (machine : Machine) (object key : ℕ) (on reducer place : ℕ) : Type 0 where
  pub object_is : on ≡ object
  pub lies : address machine.code.objects on place ≡ Some key
  pub known : is_reducer reducer ≡ true

-- The call is on this object and under this key. The key of a reduce is its word's address; other calls are under none.
abbrev pub IsOn : Machine → ℕ → ℕ → Op → Type 0
IsOn machine object key (op.Insert on under) = IsKeyed machine object key (op.Insert on under) on under
IsOn machine object key (op.Remove on under) = IsKeyed machine object key (op.Remove on under) on under
IsOn machine object key (op.Has on under) = IsKeyed machine object key (op.Has on under) on under
IsOn machine object key (op.Put on under word) = IsKeyed machine object key (op.Put on under word) on under
IsOn machine object key (op.Get on under) = IsKeyed machine object key (op.Get on under) on under
IsOn machine object key (op.Erase on under) = IsKeyed machine object key (op.Erase on under) on under
IsOn machine object key (op.Merge on reducer under word) = IsKeyed machine object key (op.Merge on reducer under word) on under
IsOn machine object key (op.Reduce on reducer place word) = IsReduce machine object key on reducer place
IsOn machine object key _ = ⊥
