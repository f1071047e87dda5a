-- Outcomes that leave calls, and whose marks are entries of some tasks.
use Rattle.std.specs.Prelude.{[], ◌∷◌}
use Rattle.gr_lang.specs.declared.action.Entry.{Entry}
use Rattle.gr_lang.specs.declared.action.Entry.TheVariants as entry
use Rattle.gr_lang.specs.declared.action.TaskId.{TaskId}
use Rattle.gr_net.specs.Sums.{Each}
use Rattle.gr_machine.specs.declared.mark.Mark.{Mark}
use Rattle.gr_machine.specs.declared.mark.Mark.TheVariants as mark
use Rattle.gr_machine.specs.States.{Body}
use Rattle.gr_machine.specs.Outcomes.{Outcome}
use Rattle.gr_stands.specs.Worlds.{World}
use Rattle.gr_batches.specs.Staying.{CallsStay}
use Rattle.gr_batches_events.specs.Leaving.{IsNoMail, AreInNoBatch}

-- The entry changes, of the tasks that there are, only one for which this holds. The first of a loop's indices begins as a new task.
abbrev pub IsOf : (TaskId → Type 0) → Entry → Type 0
IsOf Fact (entry.Call id op reply) = Fact id
IsOf Fact (entry.Spawn id way target args kid) = Fact id
IsOf Fact (entry.Finish id) = Fact id
IsOf Fact (entry.Loop id lo hi grain target args) = Fact id
IsOf Fact (entry.Begin owner index kid) = Unit
IsOf Fact (entry.Pass id) = Fact id
IsOf Fact (entry.End id) = Fact id
IsOf Fact (entry.Trap id kind) = Fact id
IsOf Fact entry.Over = Unit

-- So does the entry of a mark, which is of no batch.
abbrev pub IsMarkOf : (TaskId → Type 0) → Mark → Type 0
IsMarkOf Fact (mark.Entry what) = IsOf Fact what
IsMarkOf Fact _ = ⊥

-- The task of this name is in no batch.
abbrev pub IsInNoBatch : World → TaskId → Type 0
IsInNoBatch world id = AreInNoBatch world (id ∷ [])

-- The outcome leaves the calls of the core, sends no message of a batch, and its marks are entries of such tasks.
pub record LeavesCalls (Fact : TaskId → Type 0) (before : Body) (outcome : Outcome) : Type 0 where
  pub calls : CallsStay before outcome.body
  pub sends : Each (λ send. IsNoMail send.message) outcome.sends
  pub marks : Each (IsMarkOf Fact) outcome.marks
