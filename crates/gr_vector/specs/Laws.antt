-- The laws of groups, plans and turns.
use Rattle.std.specs.Prelude.{◌≡◌, ℕ, ◌+◌, Bool, true, ⊤, All, if◌then◌else◌, List, [], ◌∷◌, ◌++◌, length, map, drop, filter, Option, Some, None, is_some}
use Rattle.std.specs.Option.{option_and_then}
use Rattle.gr_lang.specs.declared.action.Reply.{Reply}
use Rattle.gr_lang.specs.declared.action.WaitingCall.{WaitingCall}
use Rattle.gr_lang.specs.Effects.{found, line_after, line_reply}
use Rattle.gr_view.specs.Places.{put}
use Rattle.gr_vector.specs.declared.ends.Ends.{Ends}
use Rattle.gr_vector.specs.declared.master.Granted.{Granted}
use Rattle.gr_vector.specs.Groups.{vector_of, group_of}
use Rattle.gr_vector.specs.Plans.{taken_by, ends_after, plan_of}
use Rattle.gr_vector.specs.Turns.{Turns, granted, is_out, asked, grant_on_asking, ended}

-- Groups.

-- Of each sort of calls a group has as many as the calls of which it is made, where these are calls of vectors.
abbrev pub GroupsAreTheCalls : Type 0
GroupsAreTheCalls = (calls : List WaitingCall) (sort : WaitingCall → Bool) → All (λ call. is_some (vector_of call.op) ≡ true) calls
    → length (filter sort (group_of calls)) ≡ length (filter sort calls)

-- Plans.

-- A vector's words after calls that are made one after another, and what each of these replies.
abbrev pub words_after : List WaitingCall → List ℕ → List ℕ
words_after [] words = words
words_after (call ∷ calls) words = words_after calls (line_after call.op words)

abbrev pub replies : List WaitingCall → List ℕ → List Reply
replies [] words = []
replies (call ∷ calls) words = line_reply call.op words ∷ replies calls (line_after call.op words)

-- The words stand one after another from a position on.
abbrev pub Stand : (ℕ → Option ℕ) → ℕ → List ℕ → Type 0
Stand held at [] = ⊤
Stand held at (word ∷ words) = (held at ≡ Some word) × Stand held (at + 1) words

-- What is held at each position after words are put.
abbrev pub with_puts : (ℕ → Option ℕ) → List (ℕ × ℕ) → ℕ → Option ℕ
with_puts held [] = held
with_puts held (pair ∷ pairs) = with_puts (put held pair.0 (Some pair.1)) pairs

-- What each call replies of what is held at the position from which it takes a word.
abbrev pub replies_from : (ℕ → Option ℕ) → List (Option ℕ) → List Reply
replies_from held positions = map (λ position. found (option_and_then held position)) positions

-- What a plan makes of the words that are held is what the calls make of the list of the vector's words, and so are the replies.
pub record IsRun (held : ℕ → Option ℕ) (calls : List WaitingCall) (words : List ℕ) (ends : Ends) : Type 0 where
  pub list : Stand held (ends_after calls ends).head (words_after calls words)
  pub tail : (ends_after calls ends).tail ≡ (ends_after calls ends).head + length (words_after calls words)
  pub replies : replies_from held (taken_by calls ends) ≡ replies calls words

-- Where the words stand from head to below tail, the plan of a group runs its calls once its puts are made.
abbrev pub PlansAreTheCalls : Type 0
PlansAreTheCalls = (calls : List WaitingCall) (held : ℕ → Option ℕ) (words : List ℕ) (head : ℕ) → Stand held head words
    → IsRun (with_puts held (plan_of (group_of calls) head (head + length words)).puts) (group_of calls) words (record { head = head; tail = head + length words })

-- Turns.

-- A core asks for a turn, or the turn that is out ends.
pub data Event : Type 0 where
  ask : (core : ℕ) → Event
  done : (head tail : ℕ) → Event

abbrev pub turns_after : Turns → List Event → Turns
turns_after turns [] = turns
turns_after turns (ask core ∷ events) = turns_after (asked turns core) events
turns_after turns (done head tail ∷ events) = turns_after (ended turns head tail) events

-- Turns end only while one is out.
abbrev pub CanBe : Turns → List Event → Type 0
CanBe turns [] = ⊤
CanBe turns (ask core ∷ events) = CanBe (asked turns core) events
CanBe turns (done head tail ∷ events) = (is_out turns ≡ true) × CanBe (ended turns head tail) events

-- The cores to which turns are granted, in their order.
abbrev pub core_of : Option Granted → List ℕ
core_of None = []
core_of (Some grant) = grant.core ∷ []

abbrev pub grants : Turns → List Event → List ℕ
grants turns [] = []
grants turns (ask core ∷ events) = core_of (grant_on_asking turns core) ++ grants (asked turns core) events
grants turns (done head tail ∷ events) = core_of (granted (ended turns head tail)) ++ grants (ended turns head tail) events

-- The cores that ask, in their order, and how many turns end.
abbrev pub asks : List Event → List ℕ
asks [] = []
asks (ask core ∷ events) = core ∷ asks events
asks (done head tail ∷ events) = asks events

abbrev pub ends_in : List Event → ℕ
ends_in [] = 0
ends_in (ask core ∷ events) = ends_in events
ends_in (done head tail ∷ events) = 1 + ends_in events

abbrev pub number_out : Turns → ℕ
number_out turns = if is_out turns then 1 else 0

abbrev pub no_turns : Turns
no_turns = record { head = 0; tail = 0; cores = [] }

-- The cores to which turns were granted, and then those that wait, are those that asked, in the order of asking.
abbrev pub TurnsAreInOrder : Type 0
TurnsAreInOrder = (events : List Event) → CanBe no_turns events → grants no_turns events ++ drop 1 (turns_after no_turns events).cores ≡ asks events

-- As many turns were granted as ended, and one more while one is out.
abbrev pub OneTurnIsOut : Type 0
OneTurnIsOut = (events : List Event) → CanBe no_turns events → length (grants no_turns events) ≡ ends_in events + number_out (turns_after no_turns events)
