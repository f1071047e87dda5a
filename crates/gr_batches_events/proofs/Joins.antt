-- A task's call joins those that wait on its object.
use Rattle.std.proofs.Common.{◌≡◌, ◌≢◌, ◌⊎◌, ℕ, zero, suc, ◌+◌, ◌==◌, if◌then◌else◌, Bool, true, List, [], ◌∷◌, ◌++◌, inl, inr, sym, ◌∙◌, ap, subst, refl, arith, Some, None}
use Rattle.std.proofs.lemmas.Bool.{cases_eq}
use Rattle.std.proofs.lemmas.Bool.Decides.{nat_tests}
use Rattle.gr_lang.specs.declared.action.Action.TheVariants as action
use Rattle.gr_lang.specs.declared.action.Op.{Op}
use Rattle.gr_lang.specs.declared.action.Op.TheVariants as op
use Rattle.gr_lang.specs.Objects.{address}
use Rattle.gr_batch.specs.declared.combiner.Held.{Held}
use Rattle.gr_net.specs.Sums.{Each}
use Rattle.gr_net.proofs.Spreads.{put_same, put_other, put_tells, weigh-append, Each-append, Each-map}
use Rattle.gr_machine.specs.Machines.{Machine}
use Rattle.gr_machine.specs.declared.waits.Waits.{Waits}
use Rattle.gr_machine.specs.declared.waits.Waits.TheVariants as wait
use Rattle.gr_machine.specs.States.{Suspended, Body}
use Rattle.gr_machine.specs.Outcomes.{Outcome}
use Rattle.gr_machine.specs.Calls.{waiting_call, joins, key_joins, reduce_joins, called}
use Rattle.gr_machine.specs.Slots.{dropped}
use Rattle.gr_machine.specs.Runs.{acts, without_ready}
use Rattle.gr_stands.specs.Worlds.{machine_in, bodies}
use Rattle.gr_stands.specs.CallActs.{in_batch}
use Rattle.gr_stands.specs.Calls.{of_slot}
use Rattle.gr_stands_calls.proofs.Common.{first_goes}
use Rattle.gr_stands_calls.proofs.Slots.{some_same}
use Rattle.gr_batches.specs.Keys.{IsKeyed, IsOn}
use Rattle.gr_batches.specs.Batches.{is_closing, is_flying, IsCaller, is_at, held_at, IsHeld, CombinerStands, CoreStands}
use Rattle.gr_batches_takes.specs.Taking.{KeepsBatches}
use Rattle.gr_batches.proofs.Cores.{closing_self, flying_self, caller_still}
use Rattle.gr_batches_events.specs.Laws as laws
use Rattle.gr_batches_events.proofs.Frame.{framed}

at_itself : (slot : ℕ) → (if slot == slot then suc zero else zero) ≡ 1
at_itself slot = grind (arith, nat_tests)

at_another : (slot other : ℕ) → other ≢ slot → (if slot == other then suc zero else zero) ≡ 0
at_another slot other ne = grind (arith, nat_tests)

closing_other : (object other : ℕ) → other ≢ object → is_closing other (wait.Close object) ≡ 0
closing_other object other ne = grind (arith, nat_tests)

-- ---- the call joins

module _ (machine : Machine) (b : Body) (slot : ℕ) (task : Suspended) (object key : ℕ) where
  by_key : (o : Op) (on under : ℕ) → IsKeyed machine object key o on under → key_joins machine b slot task o on under ≡ joins b slot task o object key
  by_key o on under r = ap (λ (n : ℕ). key_joins machine b slot task o n under) r.object_is ∙ ap (key_joins machine b slot task o object) r.key_is
      ∙ ap (λ (t : Bool). if t then joins b slot task o object key else dropped b slot) r.has

  joined : (o : Op) → IsOn machine object key o → called machine b slot task o ≡ joins b slot task o object key
  joined (op.Insert on under) r = by_key (op.Insert on under) on under r
  joined (op.Remove on under) r = by_key (op.Remove on under) on under r
  joined (op.Has on under) r = by_key (op.Has on under) on under r
  joined (op.Put on under word) r = by_key (op.Put on under word) on under r
  joined (op.Get on under) r = by_key (op.Get on under) on under r
  joined (op.Erase on under) r = by_key (op.Erase on under) on under r
  joined (op.Merge on reducer under word) r = by_key (op.Merge on reducer under word) on under r
  joined (op.Reduce on reducer place word) r =
      ap (λ (t : Bool). reduce_joins b slot task (op.Reduce on reducer place word) on t (address machine.code.objects on place)) r.known
      ∙ ap (reduce_joins b slot task (op.Reduce on reducer place word) on true) r.lies
      ∙ ap (λ (n : ℕ). joins b slot task (op.Reduce on reducer place word) n key) r.object_is
  joined _ r = absurd r

-- ---- the core

module _ (machine : Machine) (a : Body) (slot : ℕ) (task : Suspended) (call : Op) (object key : ℕ) (there : a.tasks.slots slot ≡ Some task) (going : task.waits ≡ wait.Going)
    (next : task.action ≡ action.Call call) (on : IsOn machine object key call) (old : CoreStands machine a) where
  abbrev b : Body
  b = (joins (without_ready a) slot task call object key).body

  abbrev new : Suspended
  new = record task { waits = wait.Close object }

  abbrev one : Held
  one = record { key = key; call = waiting_call slot task call }

  -- What a task weighs that waits for neither before nor after, and what it does where it waits for it after.
  slots_are : (k : ℕ) → ((b.tasks.slots k ≡ Some new) × (k ≡ slot)) ⊎ ((b.tasks.slots k ≡ a.tasks.slots k) × (k ≢ slot))
  slots_are k = put_tells a.tasks.slots slot (Some new) k

  was : (weight : Waits → ℕ) → weight wait.Going ≡ 0 → (k : ℕ) → k ≡ slot → of_slot weight (a.tasks.slots k) ≡ 0
  was weight z k q = ap (λ (i : ℕ). of_slot weight (a.tasks.slots i)) q ∙ ap (of_slot weight) there ∙ ap weight going ∙ z

  stay : (weight : Waits → ℕ) → weight wait.Going ≡ 0 → (k : ℕ) → (b.tasks.slots k ≡ a.tasks.slots k) ⊎ (of_slot weight (a.tasks.slots k) ≡ 0)
  stay weight z k = elim (slots_are k) [
    | inl q ↦ inr (was weight z k q.1)
    | inr q ↦ inl q.0
  ]

  same_weight : (weight : Waits → ℕ) → weight wait.Going ≡ 0 → weight (wait.Close object) ≡ 0 → (k : ℕ) → of_slot weight (b.tasks.slots k) ≡ of_slot weight (a.tasks.slots k)
  same_weight weight z y k = elim (slots_are k) [
    | inl q ↦ ap (of_slot weight) q.0 ∙ y ∙ sym (was weight z k q.1)
    | inr q ↦ ap (of_slot weight) q.0
  ]

  held_still : (other : ℕ) (held : List Held) → Each (IsHeld machine a other) held → Each (IsHeld machine b other) held
  held_still other held f = Each-map (IsHeld machine a other) (IsHeld machine b other)
      (λ x h. record { on = h.on; caller = caller_still a b (wait.Close other) (is_closing other) (closing_self other) (stay (is_closing other) refl) x.call h.caller }) held f

  new_held : IsHeld machine b object one
  new_held = record { on = on; caller = record { task = new; there = put_same a.tasks.slots slot (Some new); named = refl; waits = refl; next = next } }

  counted : (k : ℕ) → of_slot (is_closing object) (a.tasks.slots k) + is_at k one.call ≡ of_slot (is_closing object) (b.tasks.slots k)
  counted k = elim (slots_are k) [
    | inl q ↦ omega (arith, was (is_closing object) refl k q.1, ap (of_slot (is_closing object)) q.0, closing_self object, ap (λ (i : ℕ). is_at i one.call) q.1, at_itself slot)
    | inr q ↦ omega (arith, ap (of_slot (is_closing object)) q.0, at_another slot k q.1)
  ]

  here : a.vectors.vectors object ≡ None → CombinerStands machine b object
  here none =
      let c = old.combiners object none in
      let is : b.batches.combiners object ≡ a.batches.combiners object ++ one ∷ [] = put_same a.batches.combiners object (a.batches.combiners object ++ one ∷ []) in
      record {
        held = subst (Each (IsHeld machine b object)) (sym is)
            (Each-append (IsHeld machine b object) (a.batches.combiners object) (one ∷ []) (held_still object (a.batches.combiners object) c.held) (new_held, tt));
        each = λ k. ap (held_at k) is ∙ omega (arith, weigh-append (λ (x : Held). is_at k x.call) (a.batches.combiners object) (one ∷ []), c.each k, counted k);
      }

  away : (other : ℕ) → other ≢ object → a.vectors.vectors other ≡ None → CombinerStands machine b other
  away other ne none =
      let c = old.combiners other none in
      let is : b.batches.combiners other ≡ a.batches.combiners other = put_other a.batches.combiners object (a.batches.combiners object ++ one ∷ []) other ne in
      record {
        held = subst (Each (IsHeld machine b other)) (sym is) (held_still other (a.batches.combiners other) c.held);
        each = λ k. ap (held_at k) is ∙ c.each k ∙ sym (same_weight (is_closing other) refl (closing_other object other ne) k);
      }

  core_joined : CoreStands machine b
  core_joined = record {
    combiners = λ other none. elim (cases_eq other object) [
      | inl q ↦ subst (CombinerStands machine b) (sym q) (here (ap a.vectors.vectors (sym q) ∙ none))
      | inr ne ↦ away other ne none
    ];
    callers = λ batch calls h. Each-map (IsCaller a (wait.Batch batch)) (IsCaller b (wait.Batch batch))
        (λ x f. caller_still a b (wait.Batch batch) (is_flying batch) (flying_self batch) (stay (is_flying batch) refl) x f) calls (old.callers batch calls h);
    each = λ batch k. old.each batch k ∙ sym (same_weight (is_flying batch) refl refl k);
    fresh = old.fresh;
  }

pub calls_join : laws.CallsJoin
calls_join given sent w S me slot more task call object key st bs first next on =
    let machine = machine_in given in
    let a : Body = bodies w me in
    let going : task.waits ≡ wait.Going = first_goes given w S me slot more task st first in
    let e : Outcome = joins (without_ready a) slot task call object key in
    let is : acts machine me (without_ready a) slot task task.action ≡ e
    = ap (acts machine me (without_ready a) slot task) next ∙ joined machine (without_ready a) slot task object key call on in
    subst (λ (x : Outcome). KeepsBatches given sent w me [] x S) (sym is) (framed given sent w me [] e S S [] (record {
      stands = core_joined machine a slot task call object key first.there going next on (bs.cores me);
      flying = refl;
      slots = λ k number u at waits. elim (cases_eq k slot) [
        | inl q ↦ absurd (batched k number u q at waits)
        | inr ne ↦ put_other a.tasks.slots slot (Some (record task { waits = wait.Close object })) k ne ∙ at
      ];
      letters = tt;
      sends = tt;
      marks = tt;
      kept = λ id x other h. h;
      others = λ d l u at q. tt;
    }) bs)
  where
    batched : (k number : ℕ) (u : Suspended) → k ≡ slot → (bodies w me).tasks.slots k ≡ Some u → u.waits ≡ wait.Batch number → ⊥
    batched k number u q at waits =
        let same : task ≡ u = some_same task u (sym first.there ∙ ap (bodies w me).tasks.slots (sym q) ∙ at) in
        omega (arith, ap in_batch waits, ap (λ (x : Suspended). in_batch x.waits) same, ap in_batch (first_goes given w S me slot more task st first))
