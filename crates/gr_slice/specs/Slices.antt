-- A slice of a core: so many events at most, one after another, and fewer only where none is left that it can make.
use Rattle.std.specs.Prelude.{◌≡◌, ◌+◌, ◌<◌, ◌≤◌, ◌++◌, ℕ, List, [], ◌∷◌, true, length}
use Rattle.gr_syntax.specs.declared.limits.TheConstants.{HEAP}
use Rattle.gr_machine.specs.declared.event.Event.{Event}
use Rattle.gr_machine.specs.declared.event.Event.TheVariants as event
use Rattle.gr_machine.specs.declared.journal.Stamped.{Stamped}
use Rattle.gr_machine.specs.Counting.{is_steal}
use Rattle.gr_machine.specs.Enabled.{enabled}
use Rattle.gr_mail.specs.declared.mail.Mail.{Mail}
use Rattle.gr_mail.specs.Rings.{SameRings, free_to, known_from}
use Rattle.gr_core.specs.declared.cores.Core.{Core}
use Rattle.gr_core.specs.Cores.{mail_of, run_of}
use Rattle.gr_core.specs.Mails.{HasToWait, NoneForgotten}
use Rattle.gr_core.specs.Runs.{Run}

-- A core has gone on by these entries of its journal, and its clock has risen by as many at least.
pub record WentOn (before after : Run) : Type 0 where
  pub machine : after.seen.machine ≡ before.seen.machine
  pub me : after.seen.me ≡ before.seen.me
  pub first : after.first ≡ before.first
  pub entries : List Stamped
  pub journal : after.journal ≡ before.journal ++ entries
  pub clock : before.seen.core.clock + length entries ≤ after.seen.core.clock

-- An object to be closed has one of the numbers of objects, of which the heap's is the last.
abbrev pub IsNumbered : Event → Type 0
IsNumbered (event.Close object) = object ≤ HEAP
IsNumbered _ = Unit {0}

-- An event is enabled, and doesn't have to wait for a ring.
pub record CanMake (run : Run) (mail : Mail) (what : Event) : Type 0 where
  pub numbered : IsNumbered what
  pub enabled : enabled run.seen.machine run.seen.me run.seen.core what ≡ true
  pub now : HasToWait mail what → ⊥

-- No event can be made.
abbrev pub HasStopped : Run → Mail → Type 0
HasStopped run mail = (what : Event) → CanMake run mail what → ⊥

-- All that can be made is to ask another core for work.
abbrev pub OnlyAsks : Run → Mail → Type 0
OnlyAsks run mail = (what : Event) → CanMake run mail what → is_steal what ≡ true

-- The first of these entries is no Steal, unless nothing else could be made.
abbrev pub AsksLast : Run → Mail → List Stamped → Type 0
AsksLast run mail [] = Unit {0}
AsksLast run mail (entry ∷ entries) = is_steal entry.event ≡ true → OnlyAsks run mail

-- Nothing was made.
pub record Stayed (before after : Core) : Type 0 where
  pub run : run_of after ≡ run_of before
  pub rings : SameRings (mail_of before) (mail_of after)
  pub kept : NoneForgotten (mail_of before) (mail_of after)
  pub known : known_from (mail_of after) ≡ known_from (mail_of before)
  pub free : free_to (mail_of after) ≡ free_to (mail_of before)

-- A core before and after a slice of so many events.
pub record Sliced (count : ℕ) (before after : Core) : Type 0 where
  pub went : WentOn (run_of before) (run_of after)
  pub few : length went.entries ≤ count
  pub rings : SameRings (mail_of before) (mail_of after)
  pub kept : NoneForgotten (mail_of before) (mail_of after)
  pub rest : length went.entries < count → HasStopped (run_of after) (mail_of after)
  pub asks : AsksLast (run_of before) (mail_of before) went.entries
  pub still : length went.entries ≡ 0 → Stayed before after
