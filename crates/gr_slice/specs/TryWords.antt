-- A core that tries events, and what is so while it goes on with a slice.
use Rattle.std.specs.Prelude.{◌≡◌, ◌+◌, ◌<◌, ℕ, Bool, true, false, length}
use Rattle.gr_syntax.specs.declared.limits.TheConstants.{HEAP}
use Rattle.gr_machine.specs.declared.event.Event.{Event}
use Rattle.gr_machine.specs.declared.event.Event.TheVariants as event
use Rattle.gr_machine.specs.Counting.{is_steal}
use Rattle.gr_mail.specs.Rings.{SameRings}
use Rattle.gr_core.specs.declared.cores.Core.{Core}
use Rattle.gr_core.specs.Cores.{mail_of, run_of}
use Rattle.gr_core.specs.Mails.{NoneForgotten}
use Rattle.gr_core.specs.Runs.{Made}
use Rattle.gr_slice.specs.declared.tries.Kind.{Kind}
use Rattle.gr_slice.specs.declared.tries.Kind.TheVariants as kind
use Rattle.gr_slice.specs.Slices.{AsksLast, CanMake, OnlyAsks, Stayed, WentOn}

-- The event of a kind with a number, and how many there are on so many cores.
abbrev pub event_of : Kind → ℕ → Event
event_of kind.Serve number = event.Serve
event_of kind.Take number = event.Take number
event_of kind.Run number = event.Run
event_of kind.Close number = event.Close number
event_of kind.Ship number = event.Ship number
event_of kind.Steal number = event.Steal number

abbrev pub count_of : Kind → ℕ → ℕ
count_of kind.Serve cores = 1
count_of kind.Take cores = cores
count_of kind.Run cores = 1
count_of kind.Close cores = HEAP + 1
count_of kind.Ship cores = cores
count_of kind.Steal cores = cores

-- A Steal is tried only where nothing else can be made.
abbrev pub MayMake : Core → Event → Type 0
MayMake core what = is_steal what ≡ true → OnlyAsks (run_of core) (mail_of core)

abbrev pub MayTry : Core → Kind → Type 0
MayTry core kind = (number : ℕ) → MayMake core (event_of kind number)

-- An event was made.
pub record Advanced (before after : Core) : Type 0 where
  pub what : Event
  pub made : Made (run_of before) what (run_of after)
  pub may : MayMake before what
  pub rings : SameRings (mail_of before) (mail_of after)
  pub kept : NoneForgotten (mail_of before) (mail_of after)

-- An event was made, or nothing.
abbrev pub Tried : Bool → Core → Core → Type 0
Tried true before after = Advanced before after
Tried false before after = Stayed before after

-- This event can't be made; nor can those of a kind; nor those of a kind below a number.
abbrev pub Cannot : Core → Event → Type 0
Cannot core what = CanMake (run_of core) (mail_of core) what → ⊥

abbrev pub CanMakeNone : Kind → Core → Type 0
CanMakeNone kind core = (number : ℕ) → Cannot core (event_of kind number)

abbrev pub CanMakeNoneBelow : Kind → Core → ℕ → Type 0
CanMakeNoneBelow kind core count = (number : ℕ) → number < count → Cannot core (event_of kind number)

-- There is no message to be served, and no packet to be taken.
pub record HasNoUrgent (core : Core) : Type 0 where
  pub serve : CanMakeNone kind.Serve core
  pub take : CanMakeNone kind.Take core

-- There is nothing to be run, closed or shipped.
pub record HasNoWork (core : Core) : Type 0 where
  pub run : CanMakeNone kind.Run core
  pub close : CanMakeNone kind.Close core
  pub ship : CanMakeNone kind.Ship core

-- A core after so many turns of a slice, in each of which an event was made.
pub record Turned (turn : ℕ) (before after : Core) : Type 0 where
  pub went : WentOn (run_of before) (run_of after)
  pub many : length went.entries ≡ turn
  pub rings : SameRings (mail_of before) (mail_of after)
  pub kept : NoneForgotten (mail_of before) (mail_of after)
  pub asks : AsksLast (run_of before) (mail_of before) went.entries
  pub first : turn ≡ 0 → after ≡ before
