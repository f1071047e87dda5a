-- A batch goes off, while others wait that go off after it: the core.
use Rattle.std.proofs.Common.{◌≡◌, ◌≢◌, ◌⊎◌, ℕ, ◌+◌, ◌≤◌, List, [], ◌∷◌, ◌++◌, map, inl, inr, sym, ◌∙◌, ap, subst, refl, arith, Option, Some, None}
use Rattle.std.proofs.lemmas.Bool.{cases_eq}
use Rattle.std.proofs.lemmas.Bool.Decides.{nat_tests}
use Rattle.gr_lang.specs.declared.action.WaitingCall.{WaitingCall}
use Rattle.gr_view.specs.Places.{put}
use Rattle.gr_batch.specs.declared.combiner.Batch.{Batch}
use Rattle.gr_batch.specs.declared.combiner.Held.{Held}
use Rattle.gr_net.specs.Sums.{weigh, Each}
use Rattle.gr_net.proofs.Spreads.{put_same, put_at, put_other, weigh-append, Each-map}
use Rattle.gr_machine.specs.Machines.{Machine}
use Rattle.gr_machine.specs.declared.waits.Waits.{Waits}
use Rattle.gr_machine.specs.declared.waits.Waits.TheVariants as wait
use Rattle.gr_machine.specs.States.{Suspended, Vectors, Body}
use Rattle.gr_machine.specs.Slots.{rewaiting}
use Rattle.gr_stands.specs.Calls.{of_slot}
use Rattle.gr_stands_calls.proofs.Slots.{some_same}
use Rattle.gr_batches.specs.Batches.{is_closing, is_flying, IsCaller, is_at, held_at, flying_at, IsHeld, CombinerStands, CoreStands}
use Rattle.gr_batches.proofs.Cores.{closing_self, flying_self}
use Rattle.gr_batches_closes.proofs.Parts.{both_each}
use Rattle.gr_batches_events.proofs.Turned.{Turn, turned, is_of, Ready, Hit, came, waits_for, weigh_waits, waited, waited_vectors}
use Rattle.gr_batches_events.proofs.Moved.{now, alike, fewer, more, off_turned, callers_stay}

at_self : (call : WaitingCall) → is_at call.slot call ≡ 1
at_self call = grind (arith, nat_tests)

-- The calls of some batches, as they were held.
abbrev pub held_for : ℕ → List WaitingCall → List Held
held_for key = map (λ call. record { key = key; call = call })

abbrev pub held_of : List Batch → List Held
held_of [] = []
held_of (batch ∷ batches) = held_for batch.key batch.calls ++ held_of batches

-- A task that waited for the calls on the object to go off waits for a batch.
pub record Sends (object batch slot : ℕ) (old new : Suspended) : Type 0 where
  pub was : old.waits ≡ wait.Close object
  pub goes : new ≡ record old { waits = wait.Batch batch }

closing_le : (object : ℕ) (q : Waits) → is_closing object q ≤ 1
closing_le object (wait.Close other) = grind arith
closing_le object _ = omega arith

slot_le : (object : ℕ) (o : Option Suspended) → of_slot (is_closing object) o ≤ 1
slot_le object None = omega arith
slot_le object (Some task) = closing_le object task.waits

closing_other : (object other : ℕ) → other ≢ object → is_closing other (wait.Close object) ≡ 0
closing_other object other ne = grind (arith, nat_tests)

flying_other : (batch other : ℕ) → other ≢ batch → is_flying other (wait.Batch batch) ≡ 0
flying_other batch other ne = grind (arith, nat_tests)

pub weigh_held : (key slot : ℕ) (calls : List WaitingCall) → held_at slot (held_for key calls) ≡ weigh (is_at slot) calls
weigh_held key slot [] = refl
weigh_held key slot (call ∷ calls) = ap (λ (n : ℕ). is_at slot call + n) (weigh_held key slot calls)

-- The core after it: the tasks of the calls wait for the batch, which is under way, and these calls are held still.
abbrev pub sent_body : Body → ℕ → List WaitingCall → List Held → Body
sent_body a object calls held = record (rewaiting a (wait.Batch a.batches.next) calls) {
  batches = record { combiners = put a.batches.combiners object held; flying = put a.batches.flying a.batches.next (Some calls); next = a.batches.next + 1 };
}

module _ (machine : Machine) (a : Body) (object key : ℕ) (calls : List WaitingCall) (left : List Held) (old : CoreStands machine a) (none : a.vectors.vectors object ≡ None)
    (held : a.batches.combiners object ≡ held_for key calls ++ left) where
  abbrev number : ℕ
  number = a.batches.next

  abbrev turns : List Turn
  turns = waits_for (wait.Batch number) calls

  abbrev b : Body
  b = sent_body a object calls left

  abbrev P : ℕ → Suspended → Suspended → Type 0
  P = Sends object number

  same : b.tasks.slots ≡ turned a.tasks.slots turns
  same = waited (wait.Batch number) calls a

  vectors_same : b.vectors ≡ a.vectors
  vectors_same = waited_vectors (wait.Batch number) calls a

  both : Each (IsHeld machine a object) (held_for key calls) × Each (IsHeld machine a object) left
  both = both_each (IsHeld machine a object) (held_for key calls) left (subst (Each (IsHeld machine a object)) held (old.combiners object none).held)

  held_callers : (cs : List WaitingCall) → Each (IsHeld machine a object) (held_for key cs) → Each (IsCaller a (wait.Close object)) cs
  held_callers [] f = tt
  held_callers (call ∷ cs) f = (f.0.caller, held_callers cs f.1)

  pub callers : Each (IsCaller a (wait.Close object)) calls
  callers = held_callers calls both.0

  -- Each task that waits is that of one of the calls that go off or of one that is left.
  counts : (slot : ℕ) → weigh (is_of slot) turns + held_at slot left ≡ of_slot (is_closing object) (a.tasks.slots slot)
  counts slot = omega (
    arith,
    (old.combiners object none).each slot,
    ap (held_at slot) held,
    weigh-append (λ (x : Held). is_at slot x.call) (held_for key calls) left,
    weigh_held key slot calls,
    weigh_waits (wait.Batch number) slot calls,
  )

  all_ready : (cs : List WaitingCall) → Each (IsCaller a (wait.Close object)) cs → Each (Ready P a.tasks.slots) (waits_for (wait.Batch number) cs)
  all_ready [] f = tt
  all_ready (call ∷ cs) f = (record { task = f.0.task; there = f.0.there; fact = record { was = f.0.waits; goes = refl } }, all_ready cs f.1)

  pub move : (slot : ℕ) → ((weigh (is_of slot) turns ≡ 0) × (turned a.tasks.slots turns slot ≡ a.tasks.slots slot)) ⊎ Hit P a.tasks.slots turns slot
  move slot = came P turns a.tasks.slots (all_ready calls callers) (λ k. omega (arith, counts k, slot_le object (a.tasks.slots k))) slot

  was : (slot : ℕ) (u v : Suspended) → P slot u v → u.waits ≡ wait.Close object
  was slot u v f = f.was

  goes : (slot : ℕ) (u v : Suspended) → P slot u v → v.waits ≡ wait.Batch number
  goes slot u v f = ap (λ (x : Suspended). x.waits) f.goes

  pub now_is : (slot : ℕ) → b.tasks.slots slot ≡ turned a.tasks.slots turns slot
  now_is = now a b turns P same (wait.Close object) (wait.Batch number) was goes move

  -- ---- the calls that are left

  left_stay : (some : List Held) → ((slot : ℕ) → weigh (is_of slot) turns + held_at slot some ≤ 1) → Each (IsHeld machine a object) some → Each (IsHeld machine b object) some
  left_stay [] le f = tt
  left_stay (one ∷ some) le f = (
    record {
      on = f.0.on;
      caller = off_turned a b turns P same (wait.Close object) (wait.Batch number) was goes move (wait.Close object) one.call f.0.caller (omega (arith, le one.call.slot, at_self one.call));
    },
    left_stay some (λ slot. omega (arith, le slot)) f.1,
  )

  here : CombinerStands machine b object
  here =
      let is : b.batches.combiners object ≡ left = put_same a.batches.combiners object left in
      record {
        held = subst (Each (IsHeld machine b object)) (sym is) (left_stay left (λ slot. omega (arith, counts slot, slot_le object (a.tasks.slots slot))) both.1);
        each = λ slot. ap (held_at slot) is
            ∙ omega (arith, counts slot, fewer a b turns P same (wait.Close object) (wait.Batch number) was goes move (is_closing object) (closing_self object) refl slot);
      }

  away : (other : ℕ) → other ≢ object → a.vectors.vectors other ≡ None → CombinerStands machine b other
  away other ne free =
      let c = old.combiners other free in
      let is : b.batches.combiners other ≡ a.batches.combiners other = put_other a.batches.combiners object left other ne in
      record {
        held = subst (Each (IsHeld machine b other)) (sym is) (Each-map (IsHeld machine a other) (IsHeld machine b other) (λ one f. record {
          on = f.on;
          caller = (callers_stay a b turns P same (wait.Close object) (wait.Batch number) was goes move (wait.Close other) (is_closing other) (closing_self other)
              (closing_other object other ne) (one.call ∷ []) (f.caller, tt)).0;
        }) (a.batches.combiners other) c.held);
        each = λ slot. ap (held_at slot) is ∙ c.each slot
            ∙ sym (alike a b turns P same (wait.Close object) (wait.Batch number) was goes move (is_closing other) (closing_other object other ne) refl slot);
      }

  -- ---- the batch

  fresh : a.batches.flying number ≡ None
  fresh = old.fresh number (omega arith)

  hit_caller : (call : WaitingCall) → IsCaller a (wait.Close object) call → 0 ≢ weigh (is_of call.slot) turns → IsCaller b (wait.Batch number) call
  hit_caller call f some = elim (move call.slot) [
    | inl q ↦ absurd (some (sym q.0))
    | inr h ↦ record {
      task = h.new;
      there = now_is call.slot ∙ h.after;
      named = ap (λ (x : Suspended). x.id) (h.fact.goes) ∙ ap (λ (x : Suspended). x.id) (some_same h.old f.task (sym h.there ∙ f.there)) ∙ f.named;
      waits = goes call.slot h.old h.new h.fact;
      next = ap (λ (x : Suspended). x.action) (h.fact.goes) ∙ ap (λ (x : Suspended). x.action) (some_same h.old f.task (sym h.there ∙ f.there)) ∙ f.next;
    }
  ]

  hit_callers : (before cs : List WaitingCall) → ((slot : ℕ) → weigh (is_of slot) turns ≡ weigh (is_at slot) before + weigh (is_at slot) cs) → Each (IsCaller a (wait.Close object)) cs
      → Each (IsCaller b (wait.Batch number)) cs
  hit_callers before [] e f = tt
  hit_callers before (call ∷ cs) e f = (
    hit_caller call f.0 (λ z. omega (arith, z, e call.slot, at_self call)),
    hit_callers (before ++ call ∷ []) cs (λ slot. omega (arith, e slot, weigh-append (is_at slot) before (call ∷ []))) f.1,
  )

  pub core_sent : CoreStands machine b
  core_sent = record {
    combiners = λ other free. elim (cases_eq other object) [
      | inl q ↦ subst (CombinerStands machine b) (sym q) here
      | inr ne ↦ away other ne (ap (λ (x : Vectors). x.vectors other) (sym vectors_same) ∙ free)
    ];
    callers = λ batch cs h. elim (cases_eq batch number) [
      | inl q ↦ let is : calls ≡ cs = some_same calls cs (sym (put_at a.batches.flying number (Some calls) batch q) ∙ h) in
          subst (λ (x : List WaitingCall). Each (IsCaller b (wait.Batch batch)) x) is
          (subst (λ (n : ℕ). Each (IsCaller b (wait.Batch n)) calls) (sym q) (hit_callers [] calls (λ slot. omega (arith, weigh_waits (wait.Batch number) slot calls)) callers))
      | inr ne ↦ callers_stay a b turns P same (wait.Close object) (wait.Batch number) was goes move (wait.Batch batch) (is_flying batch) (flying_self batch) refl cs
          (old.callers batch cs (sym (put_other a.batches.flying number (Some calls) batch ne) ∙ h))
    ];
    each = λ batch slot. elim (cases_eq batch number) [
      | inl q ↦ ap (flying_at slot) (put_at a.batches.flying number (Some calls) batch q) ∙ sym (ap (λ (n : ℕ). of_slot (is_flying n) (b.tasks.slots slot)) q ∙ flies slot)
      | inr ne ↦ ap (flying_at slot) (put_other a.batches.flying number (Some calls) batch ne) ∙ old.each batch slot
          ∙ sym (alike a b turns P same (wait.Close object) (wait.Batch number) was goes move (is_flying batch) refl (flying_other number batch ne) slot)
    ];
    fresh = λ batch l. put_other a.batches.flying number (Some calls) batch (λ q. omega (arith, l, q)) ∙ old.fresh batch (omega (arith, l));
  }
    where
      flies : (slot : ℕ) → of_slot (is_flying number) (b.tasks.slots slot) ≡ weigh (is_at slot) calls
      flies slot = omega (
        arith,
        more a b turns P same (wait.Close object) (wait.Batch number) was goes move (is_flying number) refl (flying_self number) slot,
        old.each number slot,
        ap (flying_at slot) fresh,
        weigh_waits (wait.Batch number) slot calls,
      )
