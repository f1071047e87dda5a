-- What leaves where words of vectors are, and their plain lines.
use Rattle.std.specs.Prelude.{◌≡◌, ◌≢◌, ℕ, List, [], ◌∷◌}
use Rattle.gr_lang.specs.declared.action.Entry.TheVariants as entry
use Rattle.gr_lang.specs.declared.action.Op.{Op}
use Rattle.gr_lang.specs.declared.action.Op.TheVariants as op
use Rattle.gr_msg.specs.declared.message.Msg.{Msg}
use Rattle.gr_msg.specs.declared.message.Msg.TheVariants as msg
use Rattle.gr_net.specs.Sums.{Each}
use Rattle.gr_machine.specs.declared.mark.Mark.{Mark}
use Rattle.gr_machine.specs.declared.mark.Mark.TheVariants as mark
use Rattle.gr_machine.specs.States.{Letter, Body}
use Rattle.gr_machine.specs.Outcomes.{Outcome}
use Rattle.gr_elements.specs.ElementActs.{IsOfNoElement, LeavesElements}

-- The call is on no vector, and so is that of a mark that is a call; no batch takes effect with the mark.
abbrev pub IsOffLine : Op → Type 0
IsOffLine (op.Push object word) = ⊥
IsOffLine (op.Pop object) = ⊥
IsOffLine (op.Dequeue object) = ⊥
IsOffLine _ = Unit

abbrev pub IsOfNoLine : Mark → Type 0
IsOfNoLine (mark.Entry (entry.Call id call reply)) = IsOffLine call
IsOfNoLine (mark.Applied origin batch before) = ⊥
IsOfNoLine _ = Unit

-- The mark of this batch of a core, which took effect.
abbrev pub IsEffectOf : ℕ → ℕ → Mark → Type 0
IsEffectOf from batch (mark.Applied origin number before) = (origin ≡ from) × (number ≡ batch)
IsEffectOf from batch _ = ⊥

-- A mark of what is found to do with a message from a core: a Batch takes effect, and with any other no mark is a call on a vector.
abbrev pub IsMarkBehind : ℕ → Msg → Mark → Type 0
IsMarkBehind from (msg.Batch object key effect batch) = IsEffectOf from batch
IsMarkBehind from _ = IsOfNoLine

-- The outcome leaves the elements of a vector, and its marks are of no vector.
pub record LeavesWords (number : ℕ) (before : Body) (got : List Letter) (outcome : Outcome) : Type 0 where
  pub elements : LeavesElements number before got outcome
  pub marks : Each IsOfNoLine outcome.marks

-- So does what is found to do with a message.
pub record LeavesBehind (number : ℕ) (before : Body) (from : ℕ) (message : Msg) (outcome : Outcome) : Type 0 where
  pub elements : LeavesElements number before (record { from = from; message = message } ∷ []) outcome
  pub marks : Each (IsMarkBehind from message) outcome.marks

-- The message neither is of an element of the vector nor grants a turn of it.
abbrev pub IsOffElements : ℕ → Msg → Type 0
IsOffElements number (msg.Grant vector head tail) = vector ≢ number
IsOffElements number message = IsOfNoElement number message
