-- The calls of a turn, each with its reply.
use Rattle.std.proofs.Common.{◌≡◌, ◌≢◌, ℕ, ◌≤◌, List, [], ◌∷◌, sym, ap, subst, refl, arith, Option, Some, None}
use Rattle.std.specs.List.{zip}
use Rattle.gr_lang.specs.declared.action.Op.{Op}
use Rattle.gr_lang.specs.declared.action.Op.TheVariants as op
use Rattle.gr_lang.specs.declared.action.Reply.{Reply}
use Rattle.gr_lang.specs.declared.action.WaitingCall.{WaitingCall}
use Rattle.gr_lang.specs.Effects.{line_after, line_reply}
use Rattle.gr_vector.specs.Groups.{vector_of}
use Rattle.gr_vector.specs.Laws.{replies}
use Rattle.gr_net.specs.Sums.{weigh, Each}
use Rattle.gr_machine.specs.declared.waits.Waits.{Waits}
use Rattle.gr_machine.specs.declared.waits.Waits.TheVariants as wait
use Rattle.gr_machine.specs.States.{Suspended, Body, Vector, Turn}
use Rattle.gr_stands.specs.Worlds.{Given}
use Rattle.gr_stands.specs.Calls.{of_slot}
use Rattle.gr_stands_turns.specs.Turning.{IsOfLine, IsAnswered, AreAnswered}
use Rattle.gr_lines.specs.Lines.{tasks_on}
use Rattle.gr_lines.specs.Waiting.{IsWaiting, calls_in, is_turning, IsGroup, CallsWait, HasLines}
use Rattle.gr_lines_calls.proofs.Counts.{some_same, none_some, on_some, one_if}
use Rattle.gr_lines_calls.proofs.Changes.{calls_there}
use Rattle.gr_lines_answers.specs.Laws as laws

-- ---- one call

of_line : (o : Op) (number : ℕ) → vector_of o ≡ Some number → IsOfLine o number
of_line (op.Push object word) number e = some_same object number e
of_line (op.Pop object) number e = some_same object number e
of_line (op.Dequeue object) number e = some_same object number e
of_line _ number e = absurd (none_some number e)

module _ (number : ℕ) (body : Body) where
  abbrev Waiting : WaitingCall → Type 0
  Waiting call = IsWaiting (tasks_on number body) number (wait.Turn number) call

  one_answered : (call : WaitingCall) (words : List ℕ) → Waiting call → IsAnswered body number words (call, line_reply call.op words)
  one_answered call words w = record {
    task = w.task;
    there = (on_some number (body.tasks.slots call.slot) w.task w.there).0;
    waits = w.waits;
    named = w.named;
    due = w.due;
    of = of_line call.op number w.of;
    replies = refl;
  }

  -- ---- in slots of their own

  abbrev AreApart : ℕ → List (WaitingCall × Reply) → Type 0
  AreApart slot answers = Each (λ other. other.0.slot ≢ slot) answers

  apart : (slot : ℕ) (calls : List WaitingCall) (given : List Reply) → calls_in slot calls ≤ 0 → AreApart slot (zip calls given)
  apart slot [] given none = tt
  apart slot (call ∷ calls) [] none = tt
  apart slot (call ∷ calls) (one ∷ more) none = (λ q. absurd (omega (arith, none, one_if call.slot slot q)), apart slot calls more (omega (arith, none)))

  abbrev AtMostOne : List WaitingCall → Type 0
  AtMostOne calls = (slot : ℕ) → calls_in slot calls ≤ 1

  pub all_answered : (calls : List WaitingCall) (words : List ℕ) → Each Waiting calls → AtMostOne calls → AreAnswered body number words (zip calls (replies calls words))
  all_answered [] words w once = tt
  all_answered (call ∷ calls) words w once = (
    one_answered call words w.0,
    apart call.slot calls (replies calls (line_after call.op words)) (omega (arith, once call.slot, one_if call.slot call.slot refl)),
    all_answered calls (line_after call.op words) w.1 (λ slot. omega (arith, once slot)),
  )

-- ---- a turn

is_one : (w : Waits) → is_turning w ≤ 1
is_one (wait.Turn vector) = omega arith
is_one _ = omega arith

at_most : (held : Option Suspended) → of_slot is_turning held ≤ 1
at_most None = omega arith
at_most (Some task) = is_one task.waits

module _ (given : Given) (me number : ℕ) (body : Body) (vector : Vector) (turn : Turn) (old : HasLines given me body) (there : body.vectors.vectors number ≡ Some vector)
    (mine : vector.turn ≡ Some turn) where
  abbrev calls : CallsWait number vector (tasks_on number body)
  calls = calls_there given me number body vector old there

  abbrev groups : vector.groups ≡ turn.calls ∷ (calls.oldest turn mine).0
  groups = (calls.oldest turn mine).1

  pub group : IsGroup turn.calls
  group = (subst (Each IsGroup) groups calls.made).0

  waiting : Each (Waiting number body) turn.calls
  waiting = (subst (Each (Each (Waiting number body))) groups calls.grouped).0

  once : (slot : ℕ) → calls_in slot turn.calls ≤ 1
  once slot = omega (arith, ap (weigh (calls_in slot)) groups, calls.turning slot, at_most (tasks_on number body slot))

  pub answered : (words : List ℕ) → AreAnswered body number words (zip turn.calls (replies turn.calls words))
  answered words = all_answered number body turn.calls words waiting once

pub turns_of_groups : laws.TurnsAreOfGroups
turns_of_groups given me number body vector turn old there mine = group given me number body vector turn old there mine

pub calls_answered : laws.CallsAreAnswered
calls_answered given me number body vector turn words old there mine same =
    subst (λ (given_replies : List Reply). AreAnswered body number words (zip turn.calls given_replies)) (sym same) (answered given me number body vector turn old there mine words)
