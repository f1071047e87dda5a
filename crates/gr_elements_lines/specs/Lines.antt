-- The words of a vector in the plain state, and entries that leave them.
use Rattle.std.specs.Prelude.{◌≡◌, ◌≢◌, ℕ, slice_get, List, true, Some}
use Rattle.gr_lang.specs.declared.action.Entry.{Entry}
use Rattle.gr_lang.specs.declared.action.Entry.TheVariants as entry
use Rattle.gr_lang.specs.declared.action.Op.{Op}
use Rattle.gr_lang.specs.declared.action.Op.TheVariants as op
use Rattle.gr_lang.specs.Objects.{line}
use Rattle.gr_lang.specs.States.{State}
use Rattle.gr_msg.specs.declared.message.Msg.{Msg}
use Rattle.gr_msg.specs.declared.message.Msg.TheVariants as msg
use Rattle.gr_net.specs.Sums.{Each}
use Rattle.gr_machine.specs.Histories.{Sent}
use Rattle.gr_machine.specs.Machines.{thing}
use Rattle.gr_machine.specs.Openings.{is_vector}
use Rattle.gr_stands.specs.Worlds.{Given, machine_in}
use Rattle.gr_elements_apart.specs.Leaving.{IsOffLine}

-- The vector has these words.
abbrev pub HasLine : ℕ → List ℕ → State → Type 0
HasLine number words state = slice_get state.objects.things number ≡ Some (line words)

-- So it is of each vector.
abbrev pub HasWords : Given → State → (ℕ → List ℕ) → Type 0
HasWords given state words = (number : ℕ) → is_vector (thing (machine_in given) number) ≡ true → HasLine number (words number) state

-- The call is none of this vector, and so is an entry.
abbrev pub LeavesLine : ℕ → Op → Type 0
LeavesLine number (op.Push object word) = object ≢ number
LeavesLine number (op.Pop object) = object ≢ number
LeavesLine number (op.Dequeue object) = object ≢ number
LeavesLine number _ = Unit

abbrev pub EntryLeaves : ℕ → Entry → Type 0
EntryLeaves number (entry.Call id call reply) = LeavesLine number call
EntryLeaves number _ = Unit

-- A fact of the part of batches: the calls of a batch that comes first are on no vector.
abbrev pub BatchIsOff : Sent → ℕ → Msg → Type 0
BatchIsOff sent from (msg.Batch object key effect batch) = Each (λ call. IsOffLine call.op) (sent from batch)
BatchIsOff sent from _ = Unit
