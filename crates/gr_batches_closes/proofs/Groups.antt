-- The calls that wait on a vector go off as a group: no batch has to do with them.
use Rattle.std.proofs.Common.{◌≡◌, ◌≢◌, ◌⊎◌, ℕ, List, [], ◌∷◌, ◌++◌, inl, inr, sym, ◌∙◌, ap, subst, refl, Option, Some, None}
use Rattle.std.proofs.lemmas.Bool.{cases_eq}
use Rattle.std.proofs.lemmas.Bool.Decides.{nat_tests}
use Rattle.std.proofs.Common.{arith}
use Rattle.gr_lang.specs.declared.action.WaitingCall.{WaitingCall}
use Rattle.gr_lang.specs.States.{State}
use Rattle.gr_view.specs.Places.{put}
use Rattle.gr_net.specs.Sums.{Each}
use Rattle.gr_net.proofs.Spreads.{put_at, put_other, put_each, Each-map}
use Rattle.gr_machine.specs.declared.waits.Waits.{Waits}
use Rattle.gr_machine.specs.declared.waits.Waits.TheVariants as wait
use Rattle.gr_machine.specs.States.{Suspended, Vector, Vectors, Body}
use Rattle.gr_machine.specs.TurnServes.{with_vector}
use Rattle.gr_machine.specs.Closes.{closes_vector}
use Rattle.gr_machine.specs.Histories.{Sent}
use Rattle.gr_stands.specs.Worlds.{Given, machine_in, World, bodies}
use Rattle.gr_stands_closes.specs.Closing.{AreHeld}
use Rattle.gr_batches.specs.Batches.{is_closing, is_flying, BatchesStand}
use Rattle.gr_batches.specs.Staying.{IsFree}
use Rattle.gr_batches_takes.specs.Taking.{KeepsBatches}
use Rattle.gr_batches_events.proofs.Frame.{batches_stay}
use Rattle.gr_batches_events.proofs.Turned.{Slots, turned, turn_at, waits_for, waited, waited_batches, waited_vectors}

none_some : {X : Type 0} (x : X) → None ≡ Some x → ⊥
none_some x e = cc

closing_other : (object other : ℕ) → other ≢ object → is_closing other (wait.Close object) ≡ 0
closing_other object other ne = grind (arith, nat_tests)

-- Where what is in each slot of some calls is so, and each task that waits for this, each slot is as before or is so before and then.
module _ (F : Option Suspended → Type 0) (reason : Waits) (so : (task : Suspended) → task.waits ≡ reason → F (Some task)) where
  pub waits_so : (calls : List WaitingCall) (slots : Slots) → Each (λ call. F (slots call.slot)) calls → (slot : ℕ)
      → (turned slots (waits_for reason calls) slot ≡ slots slot) ⊎ (F (slots slot) × F (turned slots (waits_for reason calls) slot))
  waits_so [] slots f slot = inl refl
  waits_so (call ∷ calls) slots f slot = by (slots call.slot) refl (λ after g. waits_so calls after g slot)
    where
      same_goal : Slots → Type 0
      same_goal after = (after slot ≡ slots slot) ⊎ (F (slots slot) × F (after slot))

      by : (o : Option Suspended) → slots call.slot ≡ o
          → ((now : Slots) → Each (λ (c : WaitingCall). F (now c.slot)) calls
          → (turned now (waits_for reason calls) slot ≡ now slot) ⊎ (F (now slot) × F (turned now (waits_for reason calls) slot)))
          → same_goal (turned (turn_at slots (record { slot = call.slot; to = λ task. record task { waits = reason } }) o) (waits_for reason calls))
      by None e rest = rest slots f.1
      by (Some t) e rest =
          let new : Option Suspended = Some (record t { waits = reason }) in
          let is_so : F new = so (record t { waits = reason }) refl in
          let every : Each (λ (c : WaitingCall). F (put slots call.slot new c.slot)) calls
          = Each-map (λ (c : WaitingCall). F (slots c.slot)) (λ (c : WaitingCall). F (put slots call.slot new c.slot))
          (λ c g. put_each (λ (i : ℕ) (o : Option Suspended). F o) slots call.slot new c.slot (λ q. is_so) (λ q. g)) calls f.1 in
          elim (rest (put slots call.slot new) every) [
            | inl q ↦ elim (cases_eq slot call.slot) [
              | inl r ↦ inr (subst (λ (i : ℕ). F (slots i)) (sym r) f.0, subst F (sym (q ∙ put_at slots call.slot new slot r)) is_so)
              | inr ne ↦ inl (q ∙ put_other slots call.slot new slot ne)
            ]
            | inr q ↦ elim (cases_eq slot call.slot) [
              | inl r ↦ inr (subst (λ (i : ℕ). F (slots i)) (sym r) f.0, q.1)
              | inr ne ↦ inr (subst F (put_other slots call.slot new slot ne) q.0, q.1)
            ]
          ]

module _ (given : Given) (sent : Sent) (w : World) (S : State) (me object : ℕ) (vector : Vector) (there : (bodies w me).vectors.vectors object ≡ Some vector) where
  abbrev a : Body
  a = bodies w me

  abbrev vector_put : List WaitingCall → Body
  vector_put group = with_vector a object (record vector { combiner = []; groups = vector.groups ++ group ∷ [] })

  free_now : (o : Option Suspended) → ((task : Suspended) → o ≡ Some task → task.waits ≡ wait.Close object) → IsFree a o
  free_now None f = record { closing = λ other none. refl; flying = λ batch. refl }
  free_now (Some task) f = record {
    closing = λ other none. ap (is_closing other) (f task refl) ∙ closing_other object other (λ q. none_some vector (sym none ∙ ap a.vectors.vectors q ∙ there));
    flying = λ batch. ap (is_flying batch) (f task refl);
  }

  free_then : (task : Suspended) → task.waits ≡ wait.Turn object → IsFree a (Some task)
  free_then task e = record { closing = λ other none. ap (is_closing other) e; flying = λ batch. ap (is_flying batch) e }

  slots_free : (calls : List WaitingCall) → AreHeld a object calls → Each (λ call. IsFree a (a.tasks.slots call.slot)) calls
  slots_free [] f = tt
  slots_free (call ∷ calls) f = (free_now (a.tasks.slots call.slot) f.0, slots_free calls f.1)

  pub group_closes : (group : List WaitingCall) → AreHeld a object group → BatchesStand given sent w S → KeepsBatches given sent w me [] (closes_vector (machine_in given) a object vector group) S
  group_closes group held bs = batches_stay given sent w me [] (closes_vector (machine_in given) a object vector group) S S [] (record {
    calls = record {
      batches = waited_batches (wait.Turn object) group (vector_put group);
      vectors = λ other none. elim (cases_eq other object) [
        | inl q ↦ absurd (none_some (record vector { combiner = []; groups = vector.groups ++ group ∷ [] })
            (sym none ∙ ap (λ (x : Vectors). x.vectors other) (waited_vectors (wait.Turn object) group (vector_put group))
            ∙ put_at a.vectors.vectors object (Some (record vector { combiner = []; groups = vector.groups ++ group ∷ [] })) other q))
        | inr ne ↦ sym (put_other a.vectors.vectors object (Some (record vector { combiner = []; groups = vector.groups ++ group ∷ [] })) other ne)
            ∙ sym (ap (λ (x : Vectors). x.vectors other) (waited_vectors (wait.Turn object) group (vector_put group))) ∙ none
      ];
      slots = λ slot. subst (λ (s : Slots). (s slot ≡ a.tasks.slots slot) ⊎ (IsFree a (a.tasks.slots slot) × IsFree a (s slot))) (sym (waited (wait.Turn object) group (vector_put group)))
          (waits_so (IsFree a) (wait.Turn object) free_then group a.tasks.slots (slots_free group held) slot);
    };
    letters = tt;
    sends = (tt, tt);
    marks = tt;
    kept = λ id x other h. h;
    others = λ d l u at q. tt;
  }) bs
