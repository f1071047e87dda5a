-- A core stands where its calls stay.
use Rattle.std.proofs.Common.{◌≡◌, ◌⊎◌, ℕ, ◌≤◌, List, inl, inr, sym, ◌∙◌, ap, subst, arith, Option, Some, None}
use Rattle.std.proofs.lemmas.Bool.Decides.{nat_tests}
use Rattle.gr_lang.specs.declared.action.WaitingCall.{WaitingCall}
use Rattle.gr_net.specs.Sums.{Each}
use Rattle.gr_net.proofs.Spreads.{Each-map}
use Rattle.gr_machine.specs.Machines.{Machine}
use Rattle.gr_machine.specs.declared.waits.Waits.{Waits}
use Rattle.gr_machine.specs.declared.waits.Waits.TheVariants as wait
use Rattle.gr_machine.specs.States.{Suspended, Batches, Body}
use Rattle.gr_stands.specs.Calls.{of_slot}
use Rattle.gr_batches.specs.Batches.{is_closing, is_flying, IsCaller, held_at, flying_at, IsHeld, CombinerStands, CoreStands}
use Rattle.gr_batches.specs.Staying.{IsFree, CallsStay, CoresAreKept}

pub closing_self : (object : ℕ) → is_closing object (wait.Close object) ≡ 1
closing_self object = grind (arith, nat_tests)

pub flying_self : (batch : ℕ) → is_flying batch (wait.Batch batch) ≡ 1
flying_self batch = grind (arith, nat_tests)

-- A caller that is counted stays, where all that are counted do.
pub caller_still : (a b : Body) (reason : Waits) (weight : Waits → ℕ) → weight reason ≡ 1
    → ((slot : ℕ) → (b.tasks.slots slot ≡ a.tasks.slots slot) ⊎ (of_slot weight (a.tasks.slots slot) ≡ 0))
    → (call : WaitingCall) → IsCaller a reason call → IsCaller b reason call
caller_still a b reason weight one stay call f = elim (stay call.slot) [
  | inl e ↦ record { task = f.task; there = e ∙ f.there; named = f.named; waits = f.waits; next = f.next }
  | inr z ↦ absurd (omega (arith, z, ap (of_slot weight) f.there, ap weight f.waits, one))
]

module _ (machine : Machine) (a b : Body) (s : CallsStay a b) (old : CoreStands machine a) where
  counted : (weight : Waits → ℕ) → ((held : Option Suspended) → IsFree a held → of_slot weight held ≡ 0) → (slot : ℕ)
      → of_slot weight (b.tasks.slots slot) ≡ of_slot weight (a.tasks.slots slot)
  counted weight none slot = elim (s.slots slot) [
    | inl e ↦ ap (of_slot weight) e
    | inr f ↦ none (b.tasks.slots slot) f.1 ∙ sym (none (a.tasks.slots slot) f.0)
  ]

  stay : (weight : Waits → ℕ) → ((held : Option Suspended) → IsFree a held → of_slot weight held ≡ 0) → (slot : ℕ)
      → (b.tasks.slots slot ≡ a.tasks.slots slot) ⊎ (of_slot weight (a.tasks.slots slot) ≡ 0)
  stay weight none slot = elim (s.slots slot) [
    | inl e ↦ inl e
    | inr f ↦ inr (none (a.tasks.slots slot) f.0)
  ]

  combiner_still : (object : ℕ) → a.vectors.vectors object ≡ None → CombinerStands machine b object
  combiner_still object none =
      let c = old.combiners object none in
      let free : (held : Option Suspended) → IsFree a held → of_slot (is_closing object) held ≡ 0 = λ held f. f.closing object none in
      record {
        held = subst (λ (x : Batches). Each (IsHeld machine b object) (x.combiners object)) (sym s.batches)
            (Each-map (IsHeld machine a object) (IsHeld machine b object)
            (λ one f. record { on = f.on; caller = caller_still a b (wait.Close object) (is_closing object) (closing_self object) (stay (is_closing object) free) one.call f.caller })
            (a.batches.combiners object) c.held);
        each = λ slot. ap (λ (x : Batches). held_at slot (x.combiners object)) s.batches ∙ c.each slot ∙ sym (counted (is_closing object) free slot);
      }

  callers_still : (batch : ℕ) (calls : List WaitingCall) → a.batches.flying batch ≡ Some calls → Each (IsCaller b (wait.Batch batch)) calls
  callers_still batch calls h = Each-map (IsCaller a (wait.Batch batch)) (IsCaller b (wait.Batch batch))
      (λ call f. caller_still a b (wait.Batch batch) (is_flying batch) (flying_self batch) (stay (is_flying batch) (λ held g. g.flying batch)) call f) calls (old.callers batch calls h)

  pub core_still : CoreStands machine b
  core_still = record {
    combiners = λ object none. combiner_still object (s.vectors object none);
    callers = λ batch calls h. callers_still batch calls (ap (λ (x : Batches). x.flying batch) (sym s.batches) ∙ h);
    each = λ batch slot. ap (λ (x : Batches). flying_at slot (x.flying batch)) s.batches ∙ old.each batch slot ∙ sym (counted (is_flying batch) (λ held f. f.flying batch) slot);
    fresh = λ batch l. ap (λ (x : Batches). x.flying batch) s.batches ∙ old.fresh batch (subst (λ (x : Batches). x.next ≤ batch) s.batches l);
  }

pub cores_kept : CoresAreKept
cores_kept machine a b s old = core_still machine a b s old
