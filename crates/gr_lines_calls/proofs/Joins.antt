-- A call joins those that wait on its vector.
use Rattle.std.proofs.Common.{◌≡◌, ◌≢◌, ℕ, ◌==◌, true, if◌then◌else◌, [], ◌∷◌, ◌++◌, inl, inr, sym, ◌∙◌, ap, subst, refl, arith, Option, Some, None}
use Rattle.std.proofs.lemmas.Bool.{cases_eq}
use Rattle.gr_lang.specs.declared.action.Action.TheVariants as action
use Rattle.gr_lang.specs.declared.action.Op.{Op}
use Rattle.gr_lang.specs.declared.action.WaitingCall.{WaitingCall}
use Rattle.gr_vector.specs.Groups.{vector_of}
use Rattle.gr_net.specs.Sums.{Each}
use Rattle.gr_net.proofs.Spreads.{put_same, put_other, weigh-append, Each-append, Each-map}
use Rattle.gr_machine.specs.declared.waits.Waits.{Waits}
use Rattle.gr_machine.specs.declared.waits.Waits.TheVariants as wait
use Rattle.gr_machine.specs.Machines.{thing}
use Rattle.gr_machine.specs.States.{Suspended, Vector, Body}
use Rattle.gr_machine.specs.Openings.{is_vector}
use Rattle.gr_machine.specs.Calls.{waiting_call, vector_joins}
use Rattle.gr_stands.specs.Worlds.{Given, machine_in}
use Rattle.gr_stands.specs.Calls.{of_slot, is_going}
use Rattle.gr_lines.specs.Lines.{on_line, tasks_on}
use Rattle.gr_lines.specs.Waiting.{IsWaiting, is_closing, is_turning, CallsWait, HasLines}
use Rattle.gr_lines_others.proofs.Off.{off_there, off_going}
use Rattle.gr_lines_calls.proofs.Counts.{none_some, self_eq, not_eq, one_if, zero_if, some_on, none_on}
use Rattle.gr_lines_calls.proofs.Changes.{has_changed, is_there, calls_there}

module _ (given : Given) (me : ℕ) (body : Body) (slot : ℕ) (task : Suspended) (call : Op) (number : ℕ) (vector : Vector) (old : HasLines given me body)
    (there : body.vectors.vectors number ≡ Some vector) (stood : body.tasks.slots slot ≡ Some task) (going : is_going task.waits ≡ 1)
    (due : task.action ≡ action.Call call) (of : vector_of call ≡ Some number) where
  abbrev joined : WaitingCall
  joined = waiting_call slot task call

  abbrev t : Suspended
  t = record task { waits = wait.Close number }

  abbrev next : Vector
  next = record vector { combiner = vector.combiner ++ joined ∷ [] }

  abbrev after : Body
  after = (vector_joins body slot task call number (Some vector)).body

  abbrev before_on : ℕ → Option Suspended
  before_on = tasks_on number body

  abbrev after_on : ℕ → Option Suspended
  after_on = tasks_on number after

  is : is_vector (thing (machine_in given) number) ≡ true
  is = is_there given me number body vector old there

  waited : CallsWait number vector before_on
  waited = calls_there given me number body vector old there

  was_off : (n : ℕ) → is_vector (thing (machine_in given) n) ≡ true → on_line n (body.tasks.slots slot) ≡ None
  was_off n sure = off_there given (body.tasks.slots slot) task stood (off_going given task.waits going) n sure

  now_on : on_line number (Some t) ≡ Some t
  now_on = some_on number t (self_eq number)

  at_slot : after_on slot ≡ Some t
  at_slot = ap (on_line number) (put_same body.tasks.slots slot (Some t)) ∙ now_on

  at_other : (l : ℕ) → l ≢ slot → after_on l ≡ before_on l
  at_other l ne = ap (on_line number) (put_other body.tasks.slots slot (Some t) l ne)

  move : (reason : Waits) (one : WaitingCall) → IsWaiting before_on number reason one → IsWaiting after_on number reason one
  move reason one w = elim (cases_eq one.slot slot) [
    | inl q ↦ absurd (none_some w.task (sym (was_off number is) ∙ ap before_on (sym q) ∙ w.there))
    | inr ne ↦ record { task = w.task; there = at_other one.slot ne ∙ w.there; waits = w.waits; named = w.named; due = w.due; of = w.of }
  ]

  pub joined_calls : CallsWait number next after_on
  joined_calls = record {
    combined = Each-append (IsWaiting after_on number (wait.Close number)) vector.combiner (joined ∷ [])
        (Each-map (IsWaiting before_on number (wait.Close number)) (IsWaiting after_on number (wait.Close number)) (move (wait.Close number)) vector.combiner waited.combined)
        (record { task = t; there = at_slot; waits = refl; named = refl; due = due; of = of }, tt);
    grouped = Each-map (Each (IsWaiting before_on number (wait.Turn number))) (Each (IsWaiting after_on number (wait.Turn number)))
        (Each-map (IsWaiting before_on number (wait.Turn number)) (IsWaiting after_on number (wait.Turn number)) (move (wait.Turn number))) vector.groups waited.grouped;
    made = waited.made;
    closing = λ l. elim (cases_eq l slot) [
      | inl q ↦ omega (
        arith,
        weigh-append (λ (one : WaitingCall). if one.slot == l then 1 else 0) vector.combiner (joined ∷ []),
        one_if slot l (sym q),
        waited.closing l,
        ap (λ (i : ℕ). of_slot is_closing (before_on i)) q,
        ap (of_slot is_closing) (was_off number is),
        ap (λ (i : ℕ). of_slot is_closing (after_on i)) q,
        ap (of_slot is_closing) at_slot,
      )
      | inr ne ↦ omega (
        arith,
        weigh-append (λ (one : WaitingCall). if one.slot == l then 1 else 0) vector.combiner (joined ∷ []),
        zero_if slot l (λ q. ne (sym q)),
        waited.closing l,
        ap (of_slot is_closing) (at_other l ne),
      )
    ];
    turning = λ l. elim (cases_eq l slot) [
      | inl q ↦ waited.turning l ∙ ap (λ (i : ℕ). of_slot is_turning (before_on i)) q ∙ ap (of_slot is_turning) (was_off number is)
          ∙ sym (ap (λ (i : ℕ). of_slot is_turning (after_on i)) q ∙ ap (of_slot is_turning) at_slot)
      | inr ne ↦ waited.turning l ∙ sym (ap (of_slot is_turning) (at_other l ne))
    ];
    oldest = waited.oldest;
  }

  pub joins_keep : HasLines given me after
  joins_keep = has_changed given me number body after next (record {
    vectors = refl;
    masters = refl;
    others = λ other l ne sure. elim (cases_eq l slot) [
      | inl q ↦ subst (λ (i : ℕ). on_line other (after.tasks.slots i) ≡ on_line other (body.tasks.slots i)) (sym q)
          (ap (on_line other) (put_same body.tasks.slots slot (Some t)) ∙ none_on other t (not_eq number other (λ z. ne (sym z))) ∙ sym (was_off other sure))
      | inr no_slot ↦ ap (on_line other) (put_other body.tasks.slots slot (Some t) l no_slot)
    ];
    calls = joined_calls;
  }) is old
