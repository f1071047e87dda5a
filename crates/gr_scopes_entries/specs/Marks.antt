-- Marks of calls, and plain states to which the entries of marks lead.
use Rattle.std.specs.Prelude.{◌≡◌, ℕ, List, Option, Some, None}
use Rattle.gr_lang.specs.declared.action.Entry.{Entry}
use Rattle.gr_lang.specs.declared.action.Entry.TheVariants as entry
use Rattle.gr_lang.specs.States.{State}
use Rattle.gr_lang.specs.Histories.{after}
use Rattle.gr_net.specs.Sums.{Each}
use Rattle.gr_machine.specs.declared.mark.Mark.{Mark}
use Rattle.gr_machine.specs.declared.mark.Mark.TheVariants as mark
use Rattle.gr_machine.specs.Outcomes.{Outcome}
use Rattle.gr_machine.specs.Histories.{Sent}
use Rattle.gr_stands.specs.Worlds.{Given}
use Rattle.gr_stands_outcomes.specs.Marks.{entries_from}

abbrev pub IsCallEntry : Entry → Type 0
IsCallEntry (entry.Call id call reply) = Unit
IsCallEntry _ = ⊥

-- A mark of which each entry is a call.
abbrev pub IsOfCalls : Mark → Type 0
IsOfCalls (mark.Entry what) = IsCallEntry what
IsOfCalls _ = Unit

-- So are all marks of what is made.
abbrev pub LeavesCalls : Option Outcome → Type 0
LeavesCalls None = Unit
LeavesCalls (Some outcome) = Each IsOfCalls outcome.marks

-- Where these batches have gone off, the entries of these marks of a core lead from one plain state to the other.
abbrev pub LeadsBy : Given → Sent → ℕ → State → List Mark → State → Type 0
LeadsBy given sent me state marks next = after given.program given.setup.cores given.setup.steps state (entries_from sent me marks) ≡ Some next
