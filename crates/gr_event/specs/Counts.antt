-- The local count of a scope, what enrolments and ends of tasks make of it, and what they answer.
use Rattle.std.specs.Prelude.{ℕ, ◌+◌, ◌-◌, ◌==◌, List, [], ◌∷◌, ◌++◌, length, Option, Some, None, if◌then◌else◌}
use Rattle.gr_msg.specs.declared.message.ScopeId.{ScopeId}
use Rattle.gr_event.specs.declared.counts.LocalCount.{LocalCount}
use Rattle.gr_event.specs.declared.counts.LocalCount.TheVariants.{Waits, Active}
use Rattle.gr_event.specs.declared.counts.Enrol.{Enrol}
use Rattle.gr_event.specs.declared.counts.Enrol.TheVariants.{Counted, Ask, Waiting}
use Rattle.gr_event.specs.declared.counts.LocalLeft.{LocalLeft}
use Rattle.gr_event.specs.declared.counts.LocalLeft.TheVariants.{Zero, More}
use Rattle.gr_event.specs.Scopes.{at_scope}

-- The local count of each scope; none where the scope isn't there.
abbrev pub counts_of : List (ScopeId × LocalCount) → ScopeId → Option LocalCount
counts_of entries = at_scope entries

-- The count of a scope that is active.
abbrev pub active_count : Option LocalCount → Option ℕ
active_count None = None
active_count (Some (Waits slots)) = None
active_count (Some (Active count)) = Some count

-- The slots that wait, in their order, where some do.
abbrev pub waiting_slots : Option LocalCount → Option (List ℕ)
waiting_slots None = None
waiting_slots (Some (Waits slots)) = Some slots
waiting_slots (Some (Active count)) = None

-- One more task: it is counted, or its slot waits last.
abbrev pub enrolled : Option LocalCount → ℕ → Option LocalCount
enrolled None slot = Some (Waits (slot ∷ []))
enrolled (Some (Waits slots)) slot = Some (Waits (slots ++ slot ∷ []))
enrolled (Some (Active count)) slot = Some (Active (count + 1))

-- The answer: the scope's home has to be asked where no slot has waited yet.
abbrev pub enrol_answer : Option LocalCount → Enrol
enrol_answer None = Ask
enrol_answer (Some (Waits slots)) = Waiting
enrol_answer (Some (Active count)) = Counted

-- Those that wait are counted.
abbrev pub when_acked : Option LocalCount → Option LocalCount
when_acked None = None
when_acked (Some (Waits slots)) = Some (Active (length slots))
when_acked (Some (Active count)) = Some (Active count)

-- So many tasks have ended: a count of 0 is removed.
abbrev pub completed : Option LocalCount → ℕ → Option LocalCount
completed None ended = None
completed (Some (Waits slots)) ended = Some (Waits slots)
completed (Some (Active count)) ended = if count == ended then None else Some (Active (count - ended))

-- Whether tasks are left after that.
abbrev pub left_of : Option LocalCount → ℕ → LocalLeft
left_of None ended = More
left_of (Some (Waits slots)) ended = More
left_of (Some (Active count)) ended = if count == ended then Zero else More
