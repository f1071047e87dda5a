-- What becomes of tasks and their calls at a core where some slots are turned: each task that is turned waited for one thing before and waits for another then.
use Rattle.std.proofs.Common.{◌≡◌, ◌⊎◌, ℕ, ◌+◌, List, inl, inr, sym, ◌∙◌, ap, arith}
use Rattle.std.proofs.lemmas.Bool.Decides.{nat_tests}
use Rattle.gr_lang.specs.declared.action.WaitingCall.{WaitingCall}
use Rattle.gr_net.specs.Sums.{weigh, Each}
use Rattle.gr_net.proofs.Spreads.{Each-map}
use Rattle.gr_machine.specs.declared.waits.Waits.{Waits}
use Rattle.gr_machine.specs.States.{Suspended, Body}
use Rattle.gr_stands.specs.Calls.{of_slot}
use Rattle.gr_batches.specs.Batches.{IsCaller, is_at}
use Rattle.gr_batches.proofs.Cores.{caller_still}
use Rattle.gr_batches_events.proofs.Turned.{Turn, Slots, turned, is_of, Hit}

at_self : (call : WaitingCall) → is_at call.slot call ≡ 1
at_self call = grind (arith, nat_tests)

module _ (a b : Body) (turns : List Turn) (P : ℕ → Suspended → Suspended → Type 0) (same : b.tasks.slots ≡ turned a.tasks.slots turns)
    (reason next : Waits) (was : (slot : ℕ) (old new : Suspended) → P slot old new → old.waits ≡ reason) (is : (slot : ℕ) (old new : Suspended) → P slot old new → new.waits ≡ next)
    (move : (slot : ℕ) → ((weigh (is_of slot) turns ≡ 0) × (turned a.tasks.slots turns slot ≡ a.tasks.slots slot)) ⊎ Hit P a.tasks.slots turns slot) where
  pub now : (slot : ℕ) → b.tasks.slots slot ≡ turned a.tasks.slots turns slot
  now slot = ap (λ (s : Slots). s slot) same

  pub stays : (weight : Waits → ℕ) → weight reason ≡ 0 → (slot : ℕ) → (b.tasks.slots slot ≡ a.tasks.slots slot) ⊎ (of_slot weight (a.tasks.slots slot) ≡ 0)
  stays weight z slot = elim (move slot) [
    | inl q ↦ inl (now slot ∙ q.1)
    | inr h ↦ inr (ap (of_slot weight) h.there ∙ ap weight (was slot h.old h.new h.fact) ∙ z)
  ]

  pub alike : (weight : Waits → ℕ) → weight reason ≡ 0 → weight next ≡ 0 → (slot : ℕ) → of_slot weight (b.tasks.slots slot) ≡ of_slot weight (a.tasks.slots slot)
  alike weight z y slot = elim (move slot) [
    | inl q ↦ ap (of_slot weight) (now slot ∙ q.1)
    | inr h ↦ ap (of_slot weight) (now slot ∙ h.after) ∙ ap weight (is slot h.old h.new h.fact) ∙ y
        ∙ sym (ap (of_slot weight) h.there ∙ ap weight (was slot h.old h.new h.fact) ∙ z)
  ]

  -- Tasks that waited for the one and not for the other, and the other way round.
  pub fewer : (weight : Waits → ℕ) → weight reason ≡ 1 → weight next ≡ 0 → (slot : ℕ) → of_slot weight (b.tasks.slots slot) + weigh (is_of slot) turns ≡ of_slot weight (a.tasks.slots slot)
  fewer weight one z slot = elim (move slot) [
    | inl q ↦ omega (arith, ap (of_slot weight) (now slot ∙ q.1), q.0)
    | inr h ↦ omega (
      arith,
      ap (of_slot weight) (now slot ∙ h.after),
      ap (of_slot weight) h.there,
      ap weight (was slot h.old h.new h.fact),
      ap weight (is slot h.old h.new h.fact),
      h.once,
      one,
      z,
    )
  ]

  pub more : (weight : Waits → ℕ) → weight reason ≡ 0 → weight next ≡ 1 → (slot : ℕ) → of_slot weight (b.tasks.slots slot) ≡ of_slot weight (a.tasks.slots slot) + weigh (is_of slot) turns
  more weight z one slot = elim (move slot) [
    | inl q ↦ omega (arith, ap (of_slot weight) (now slot ∙ q.1), q.0)
    | inr h ↦ omega (
      arith,
      ap (of_slot weight) (now slot ∙ h.after),
      ap (of_slot weight) h.there,
      ap weight (was slot h.old h.new h.fact),
      ap weight (is slot h.old h.new h.fact),
      h.once,
      one,
      z,
    )
  ]

  -- A caller whose slot isn't turned, or that waits for something else, is one still.
  pub off_turned : (other : Waits) (call : WaitingCall) → IsCaller a other call → weigh (is_of call.slot) turns ≡ 0 → IsCaller b other call
  off_turned other call f z = elim (move call.slot) [
    | inl q ↦ record { task = f.task; there = now call.slot ∙ q.1 ∙ f.there; named = f.named; waits = f.waits; next = f.next }
    | inr h ↦ absurd (omega (arith, h.once, z))
  ]

  pub callers_stay : (other : Waits) (weight : Waits → ℕ) → weight other ≡ 1 → weight reason ≡ 0 → (calls : List WaitingCall) → Each (IsCaller a other) calls → Each (IsCaller b other) calls
  callers_stay other weight one z calls f = Each-map (IsCaller a other) (IsCaller b other) (λ call g. caller_still a b other weight one (stays weight z) call g) calls f
