-- The calls that wait on a vector go off as a group.
use Rattle.std.proofs.Common.{◌≡◌, ◌≢◌, ◌⊎◌, ℕ, zero, suc, ◌≤◌, ◌==◌, if◌then◌else◌, List, [], ◌∷◌, ◌++◌, inl, inr, sym, ◌∙◌, ap, subst, refl, arith, Option, Some, None}
use Rattle.std.proofs.lemmas.Bool.{cases_eq}
use Rattle.gr_lang.specs.declared.action.WaitingCall.{WaitingCall}
use Rattle.gr_vector.specs.Groups.{vector_of, group_of}
use Rattle.gr_net.specs.Sums.{weigh, Each}
use Rattle.gr_net.proofs.Spreads.{put_same, put_other, weigh-append, Each-append, Each-map}
use Rattle.gr_machine.specs.declared.waits.Waits.{Waits}
use Rattle.gr_machine.specs.declared.waits.Waits.TheVariants as wait
use Rattle.gr_machine.specs.States.{Suspended, Vectors, Vector, Body}
use Rattle.gr_machine.specs.Slots.{rewaiting, rewaiting_task}
use Rattle.gr_machine.specs.TurnServes.{with_vector}
use Rattle.gr_machine.specs.Closes.{closes_vector}
use Rattle.gr_stands.specs.Worlds.{Given, machine_in}
use Rattle.gr_stands.specs.Calls.{of_slot}
use Rattle.gr_lines.specs.Lines.{on_line, tasks_on}
use Rattle.gr_lines.specs.Waiting.{IsWaiting, calls_in, is_closing, is_turning, IsGroup, CallsWait, HasLines}
use Rattle.gr_lines_calls.proofs.Counts.{some_same, one_if, zero_if, Waiter, closing_is, closing_on, closing_off, turning_on, turning_off, group_weighs, group_each}
use Rattle.gr_lines_calls.proofs.Changes.{has_changed, is_there, calls_there}

-- ---- tasks wait for something else

abbrev pub changed : Waits → Option Suspended → Option Suspended
changed reason None = None
changed reason (Some t) = Some (record t { waits = reason })

twice : (reason : Waits) (held : Option Suspended) → changed reason (changed reason held) ≡ changed reason held
twice reason None = refl
twice reason (Some t) = refl

module _ (reason : Waits) where
  one_slot : (b : Body) (k : ℕ) (held : Option Suspended) → b.tasks.slots k ≡ held → (rewaiting_task b k reason held).tasks.slots k ≡ changed reason (b.tasks.slots k)
  one_slot b k None e = e ∙ sym (ap (changed reason) e)
  one_slot b k (Some t) e = put_same b.tasks.slots k (Some (record t { waits = reason })) ∙ sym (ap (changed reason) e)

  other_slot : (b : Body) (k : ℕ) (held : Option Suspended) (l : ℕ) → l ≢ k → (rewaiting_task b k reason held).tasks.slots l ≡ b.tasks.slots l
  other_slot b k None l ne = refl
  other_slot b k (Some t) l ne = put_other b.tasks.slots k (Some (record t { waits = reason })) l ne

  one_vectors : (b : Body) (k : ℕ) (held : Option Suspended) → (rewaiting_task b k reason held).vectors ≡ b.vectors
  one_vectors b k None = refl
  one_vectors b k (Some t) = refl

  pub all_vectors : (b : Body) (calls : List WaitingCall) → (rewaiting b reason calls).vectors ≡ b.vectors
  all_vectors b [] = refl
  all_vectors b (call ∷ calls) = all_vectors (rewaiting_task b call.slot reason (b.tasks.slots call.slot)) calls ∙ one_vectors b call.slot (b.tasks.slots call.slot)

  -- The task of a slot of one of the calls waits for this, and each other waits as before.
  abbrev Rewaits : Body → List WaitingCall → ℕ → Option Suspended → Type 0
  Rewaits b calls l now = ((calls_in l calls ≡ 0) × (now ≡ b.tasks.slots l)) ⊎ ((1 ≤ calls_in l calls) × (now ≡ changed reason (b.tasks.slots l)))

  pub rewaited : (calls : List WaitingCall) (b : Body) (l : ℕ) → Rewaits b calls l ((rewaiting b reason calls).tasks.slots l)
  rewaited [] b l = inl (refl, refl)
  rewaited (call ∷ calls) b l = elim (cases_eq l call.slot) [
    | inl q ↦ at q (rewaited calls (rewaiting_task b call.slot reason (b.tasks.slots call.slot)) l)
    | inr ne ↦ off ne (rewaited calls (rewaiting_task b call.slot reason (b.tasks.slots call.slot)) l)
  ]
    where
      next : Body
      next = rewaiting_task b call.slot reason (b.tasks.slots call.slot)

      now : Option Suspended
      now = (rewaiting next reason calls).tasks.slots l

      here : l ≡ call.slot → next.tasks.slots l ≡ changed reason (b.tasks.slots l)
      here q = subst (λ (i : ℕ). next.tasks.slots i ≡ changed reason (b.tasks.slots i)) (sym q) (one_slot b call.slot (b.tasks.slots call.slot) refl)

      at : l ≡ call.slot → Rewaits next calls l now → Rewaits b (call ∷ calls) l now
      at q (inl z) = inr (omega (arith, one_if call.slot l (sym q)), z.1 ∙ here q)
      at q (inr z) = inr (omega (arith, one_if call.slot l (sym q)), z.1 ∙ ap (changed reason) (here q) ∙ twice reason (b.tasks.slots l))

      off : l ≢ call.slot → Rewaits next calls l now → Rewaits b (call ∷ calls) l now
      off ne (inl z) = inl (omega (arith, zero_if call.slot l (λ q. ne (sym q)), z.0), z.1 ∙ other_slot b call.slot (b.tasks.slots call.slot) l ne)
      off ne (inr z) = inr (omega (arith, zero_if call.slot l (λ q. ne (sym q)), z.0), z.1 ∙ ap (changed reason) (other_slot b call.slot (b.tasks.slots call.slot) l ne))

-- ---- a group

-- A task that waited for the close waits for the turn.
record Turned (object : ℕ) (before after : Option Suspended) (count : ℕ) : Type 0 where
  was : Waiter before (wait.Close object)
  now : after ≡ Some (record was.task { waits = wait.Turn object })
  one : count ≡ 1

abbrev now_waits : (object : ℕ) (before after : Option Suspended) (count : ℕ) → Turned object before after count → Waiter after (wait.Turn object)
now_waits object before after count t = record { task = record t.was.task { waits = wait.Turn object }; there = t.now; waits = refl }

close_turn : (n : ℕ) → wait.Close n ≡ wait.Turn n → ⊥
close_turn n e = zero_one (ap is_turning e)
  where
    zero_one : zero ≡ suc zero → ⊥
    zero_one e = omega (arith, e)

module _ (given : Given) (me : ℕ) (body : Body) (object : ℕ) (vector : Vector) (old : HasLines given me body) (there : body.vectors.vectors object ≡ Some vector) where
  abbrev group : List WaitingCall
  group = group_of vector.combiner

  abbrev next : Vector
  next = record vector { combiner = []; groups = vector.groups ++ group ∷ [] }

  abbrev after : Body
  after = (closes_vector (machine_in given) body object vector group).body

  abbrev before_on : ℕ → Option Suspended
  before_on = tasks_on object body

  abbrev after_on : ℕ → Option Suspended
  after_on = tasks_on object after

  waited : CallsWait object vector before_on
  waited = calls_there given me object body vector old there

  same_count : (l : ℕ) → calls_in l group ≡ calls_in l vector.combiner
  same_count l = group_weighs (λ (call : WaitingCall). if call.slot == l then 1 else 0) object vector.combiner
      (Each-map (IsWaiting before_on object (wait.Close object)) (λ call. vector_of call.op ≡ Some object) (λ call w. w.of) vector.combiner waited.combined)

  abbrev Slot : ℕ → Type 0
  Slot l = ((calls_in l group ≡ 0) × (after.tasks.slots l ≡ body.tasks.slots l)) ⊎ Turned object (body.tasks.slots l) (after.tasks.slots l) (calls_in l group)

  each_slot : (l : ℕ) → Slot l
  each_slot l = by (rewaited (wait.Turn object) group (with_vector body object next) l)
    where
      by : Rewaits (wait.Turn object) (with_vector body object next) group l (after.tasks.slots l) → Slot l
      by (inl z) = inl z
      by (inr z) =
          let w = closing_is object (body.tasks.slots l) (omega (arith, z.0, same_count l, waited.closing l)) in
          inr (record {
            was = w;
            now = z.1 ∙ ap (changed (wait.Turn object)) w.there;
            one = omega (arith, same_count l, waited.closing l, ap (of_slot is_closing) (closing_on object (body.tasks.slots l) w), ap is_closing w.waits);
          })

  -- What stood on the line, and stands there.
  was_on : (l : ℕ) (t : Turned object (body.tasks.slots l) (after.tasks.slots l) (calls_in l group)) → before_on l ≡ Some t.was.task
  was_on l t = closing_on object (body.tasks.slots l) t.was

  is_on : (l : ℕ) (t : Turned object (body.tasks.slots l) (after.tasks.slots l) (calls_in l group)) → after_on l ≡ Some (record t.was.task { waits = wait.Turn object })
  is_on l t = turning_on object (after.tasks.slots l) (now_waits object (body.tasks.slots l) (after.tasks.slots l) (calls_in l group) t)

  stays_turning : (call : WaitingCall) → IsWaiting before_on object (wait.Turn object) call → IsWaiting after_on object (wait.Turn object) call
  stays_turning call w = by (each_slot call.slot)
    where
      by : Slot call.slot → IsWaiting after_on object (wait.Turn object) call
      by (inl z) = record { task = w.task; there = ap (on_line object) z.1 ∙ w.there; waits = w.waits; named = w.named; due = w.due; of = w.of }
      by (inr t) = absurd (close_turn object (sym t.was.waits ∙ ap (λ (x : Suspended). x.waits) (some_same t.was.task w.task (sym (was_on call.slot t) ∙ w.there)) ∙ w.waits))

  turns : (call : WaitingCall) → IsWaiting before_on object (wait.Close object) call → IsWaiting after_on object (wait.Turn object) call
  turns call w = by (each_slot call.slot)
    where
      by : Slot call.slot → IsWaiting after_on object (wait.Turn object) call
      by (inl z) = absurd (omega (arith, z.0, same_count call.slot, waited.closing call.slot, ap (of_slot is_closing) w.there, ap is_closing w.waits))
      by (inr t) =
          let same : t.was.task ≡ w.task = some_same t.was.task w.task (sym (was_on call.slot t) ∙ w.there) in
          record {
            task = record t.was.task { waits = wait.Turn object };
            there = is_on call.slot t;
            waits = refl;
            named = ap (λ (x : Suspended). x.id) same ∙ w.named;
            due = ap (λ (x : Suspended). x.action) same ∙ w.due;
            of = w.of;
          }

  pub closed_calls : CallsWait object next after_on
  closed_calls = record {
    combined = tt;
    grouped = Each-append (Each (IsWaiting after_on object (wait.Turn object))) vector.groups (group ∷ [])
        (Each-map (Each (IsWaiting before_on object (wait.Turn object))) (Each (IsWaiting after_on object (wait.Turn object)))
        (Each-map (IsWaiting before_on object (wait.Turn object)) (IsWaiting after_on object (wait.Turn object)) stays_turning) vector.groups waited.grouped) (
          group_each (IsWaiting after_on object (wait.Turn object)) vector.combiner
              (Each-map (IsWaiting before_on object (wait.Close object)) (IsWaiting after_on object (wait.Turn object)) turns vector.combiner waited.combined),
          tt,
        );
    made = Each-append IsGroup vector.groups (group ∷ []) waited.made (record { calls = vector.combiner; made = refl }, tt);
    closing = λ l. close_at l (each_slot l);
    turning = λ l. turn_at l (each_slot l);
    oldest = λ turn h. let o = waited.oldest turn h in (o.0 ++ group ∷ [], ap (λ (groups : List (List WaitingCall)). groups ++ group ∷ []) o.1);
  }
    where
      close_at : (l : ℕ) → Slot l → 0 ≡ of_slot is_closing (after_on l)
      close_at l (inl z) = omega (arith, z.0, same_count l, waited.closing l, ap (λ (o : Option Suspended). of_slot is_closing (on_line object o)) z.1)
      close_at l (inr t) = sym (ap (of_slot is_closing) (is_on l t))

      turn_at : (l : ℕ) → Slot l → weigh (calls_in l) (vector.groups ++ group ∷ []) ≡ of_slot is_turning (after_on l)
      turn_at l (inl z) = omega (arith, weigh-append (calls_in l) vector.groups (group ∷ []), z.0, waited.turning l, ap (λ (o : Option Suspended). of_slot is_turning (on_line object o)) z.1)
      turn_at l (inr t) = omega (
        arith,
        weigh-append (calls_in l) vector.groups (group ∷ []),
        t.one,
        waited.turning l,
        ap (of_slot is_turning) (was_on l t),
        ap is_turning t.was.waits,
        ap (of_slot is_turning) (is_on l t),
      )

  pub groups_keep : HasLines given me after
  groups_keep = has_changed given me object body after next (record {
    vectors = ap (λ (x : Vectors). x.vectors) (all_vectors (wait.Turn object) (with_vector body object next) group);
    masters = ap (λ (x : Vectors). x.masters) (all_vectors (wait.Turn object) (with_vector body object next) group);
    others = λ other l ne sure. other_at other l ne (each_slot l);
    calls = closed_calls;
  }) (is_there given me object body vector old there) old
    where
      other_at : (other l : ℕ) → other ≢ object → Slot l → on_line other (after.tasks.slots l) ≡ on_line other (body.tasks.slots l)
      other_at other l ne (inl z) = ap (on_line other) z.1
      other_at other l ne (inr t) = turning_off object other (after.tasks.slots l) (now_waits object (body.tasks.slots l) (after.tasks.slots l) (calls_in l group) t) ne
          ∙ sym (closing_off object other (body.tasks.slots l) t.was ne)
