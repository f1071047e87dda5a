-- The laws of events that are inner to a core, of outcomes one after another, and of marks after others.
use Rattle.std.specs.Prelude.{◌≡◌, ℕ, ◌<◌, true, List, [], ◌++◌, Some}
use Rattle.gr_lang.specs.declared.action.Entry.{Entry}
use Rattle.gr_lang.specs.States.{State}
use Rattle.gr_lang.specs.Histories.{after}
use Rattle.gr_merge.specs.Machines.{inner}
use Rattle.gr_merge.specs.GlobalRuns.{goes_at, of_core}
use Rattle.gr_net.specs.Sums.{Each}
use Rattle.gr_machine.specs.declared.journal.Stamped.{Stamped}
use Rattle.gr_machine.specs.declared.journal.StampedMark.{StampedMark}
use Rattle.gr_machine.specs.declared.mark.Mark.{Mark}
use Rattle.gr_machine.specs.Machines.{Machine}
use Rattle.gr_machine.specs.States.{Letter, Core}
use Rattle.gr_machine.specs.Outcomes.{Outcome, followed}
use Rattle.gr_machine.specs.Enabled.{enabled}
use Rattle.gr_machine.specs.Events.{slot_of, are_free, slots_needed}
use Rattle.gr_machine.specs.Steppers.{kind_of, stepper, stamped}
use Rattle.gr_machine.specs.GlobalRuns as runs
use Rattle.gr_machine.specs.Nets.{world_in}
use Rattle.gr_machine.specs.Histories.{Sent, history_from}
use Rattle.gr_stands.specs.Worlds.{Given, World, Acts}
use Rattle.gr_stands_outcomes.specs.Inner.{inner_outcome, taken_up_by}
use Rattle.gr_stands_outcomes.specs.Marks.{sent_from, entries_from, LeadsBetween}

-- The core of a number.
abbrev pub core_at : runs.World → ℕ → Core
core_at world me = (world.states me).core

-- From one world to the next this outcome is made at a core, which has taken up these letters; its marks, with the clock of the event, are the new ones.
pub record IsOutcome (machine : Machine) (before after : runs.World) (me clock : ℕ) (got : List Letter) (outcome : Outcome) : Type 0 where
  pub here : me < machine.setup.cores
  pub acts : Each (λ send. send.to < machine.setup.cores) outcome.sends → Acts machine.setup.cores (world_in before) (world_in after) me got outcome
  pub marks : after.marks ≡ before.marks ++ of_core me (stamped clock outcome.marks)

-- The event was enabled, the slots of its entry were free, as many as it needs, and it is one outcome.
pub record IsInner (machine : Machine) (before after : runs.World) (me : ℕ) (entry : Stamped) : Type 0 where
  pub enabled : enabled machine me (core_at before me) entry.event ≡ true
  pub free : are_free (core_at before me).body (slots_needed machine (core_at before me) entry.event) entry.slots ≡ true
  pub made : IsOutcome machine before after me entry.clock (taken_up_by entry.event (core_at before me).inbox)
      (inner_outcome machine me (core_at before me) (slot_of entry.slots) entry.event)

-- An entry of an inner event makes it at its core.
abbrev pub InnerEventsAreOutcomes : Type 0
InnerEventsAreOutcomes =
    (machine : Machine) (before after : runs.World) (me : ℕ) (entry : Stamped) → kind_of entry.event ≡ inner
    → goes_at (stepper machine) inner me before entry ≡ Some after → IsInner machine before after me entry

-- Two outcomes, one after the other, with the world between them.
pub record ComesApart (count : ℕ) (before after : World) (me : ℕ) (got : List Letter) (first second : Outcome) : Type 0 where
  pub between : World
  pub begins : Acts count before between me got first
  pub follows : Acts count between after me [] second

-- An outcome that is followed by another one, as one, is made of both, one after the other.
abbrev pub OutcomesComeApart : Type 0
OutcomesComeApart =
    (count : ℕ) (before after : World) (me : ℕ) (got : List Letter) (first second : Outcome)
    → Acts count before after me got (followed first second) → ComesApart count before after me got first second

-- Marks after others of a core: what has gone off then, and the entries of all.
abbrev pub BatchesGoOffInOrder : Type 0
BatchesGoOffInOrder =
    (sent : Sent) (me : ℕ) (marks more : List Mark) → sent_from sent me (marks ++ more) ≡ sent_from (sent_from sent me marks) me more

abbrev pub EntriesComeInOrder : Type 0
EntriesComeInOrder =
    (sent : Sent) (me : ℕ) (marks more : List Mark)
    → entries_from sent me (marks ++ more) ≡ entries_from sent me marks ++ entries_from (sent_from sent me marks) me more

-- The history of the marks of one event at a core, and of more marks after them.
abbrev pub HistoriesGoOn : Type 0
HistoriesGoOn =
    (sent : Sent) (me clock : ℕ) (marks : List Mark) (more : List (ℕ × StampedMark))
    → history_from sent (of_core me (stamped clock marks) ++ more) ≡ entries_from sent me marks ++ history_from (sent_from sent me marks) more

-- Entries lead on from the state to which those before them lead; and what entries and more of them lead to, they lead to with a state between.
abbrev pub EntriesLeadOn : Type 0
EntriesLeadOn =
    (given : Given) (state middle : State) (entries more : List Entry)
    → after given.program given.setup.cores given.setup.steps state entries ≡ Some middle
    → after given.program given.setup.cores given.setup.steps state (entries ++ more) ≡ after given.program given.setup.cores given.setup.steps middle more

abbrev pub EntriesComeApart : Type 0
EntriesComeApart =
    (given : Given) (state next : State) (entries more : List Entry)
    → after given.program given.setup.cores given.setup.steps state (entries ++ more) ≡ Some next → LeadsBetween given state next entries more
