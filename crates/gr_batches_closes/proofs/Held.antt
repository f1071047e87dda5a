-- The calls that are held in another order: those of the batches that they make, and after them those that stay.
use Rattle.std.proofs.Common.{◌≡◌, ◌≢◌, ℕ, List, [], ◌∷◌, ◌++◌, inl, inr, sym, ◌∙◌, ap, subst, refl, arith, None}
use Rattle.std.proofs.lemmas.Bool.{cases_eq}
use Rattle.gr_lang.specs.declared.action.WaitingCall.{WaitingCall}
use Rattle.gr_batch.specs.Batches.{batches_of, rest_of}
use Rattle.gr_batch.specs.declared.combiner.Batch.{Batch}
use Rattle.gr_batch.specs.declared.combiner.Held.{Held}
use Rattle.gr_net.specs.Sums.{weigh, Each}
use Rattle.gr_net.proofs.Spreads.{put_same, put_other, weigh-append, Each-append, Each-map}
use Rattle.gr_machine.specs.Machines.{Machine}
use Rattle.gr_machine.specs.declared.waits.Waits.{Waits}
use Rattle.gr_machine.specs.declared.waits.Waits.TheVariants as wait
use Rattle.gr_machine.specs.States.{Body}
use Rattle.gr_machine.specs.Closes.{with_combiner}
use Rattle.gr_batches.specs.Batches.{IsCaller, is_at, held_at, IsHeld, CombinerStands, CoreStands}
use Rattle.gr_batches_closes.proofs.Parts.{weigh_parts, IsPart, are_parts, rest_is}
use Rattle.gr_batches_closes.proofs.Sends.{held_for, held_of, weigh_held}

as_held : (P : Held → Type 0) (key : ℕ) (calls : List WaitingCall) → Each (λ call. P (record { key = key; call = call })) calls → Each P (held_for key calls)
as_held P key [] f = tt
as_held P key (call ∷ calls) f = (f.0, as_held P key calls f.1)

all_held : (P : Held → Type 0) (batches : List Batch) → Each (IsPart P) batches → Each P (held_of batches)
all_held P [] f = tt
all_held P (batch ∷ batches) f = Each-append P (held_for batch.key batch.calls) (held_of batches) (as_held P batch.key batch.calls f.0.calls) (all_held P batches f.1)

weigh_all : (slot : ℕ) (batches : List Batch) → held_at slot (held_of batches) ≡ weigh (λ batch. weigh (is_at slot) batch.calls) batches
weigh_all slot [] = refl
weigh_all slot (batch ∷ batches) = omega (
  arith,
  weigh-append (λ (x : Held). is_at slot x.call) (held_for batch.key batch.calls) (held_of batches),
  weigh_held batch.key slot batch.calls,
  weigh_all slot batches,
)

module _ (machine : Machine) (a : Body) (object : ℕ) (held : List Held) (old : CoreStands machine a) (none : a.vectors.vectors object ≡ None) (is : a.batches.combiners object ≡ held) where
  abbrev pub ordered : List Held
  ordered = held_of (batches_of held) ++ rest_of held

  abbrev b : Body
  b = with_combiner a object ordered

  still : (reason : Waits) (call : WaitingCall) → IsCaller a reason call → IsCaller b reason call
  still reason call f = record { task = f.task; there = f.there; named = f.named; waits = f.waits; next = f.next }

  held_still : (other : ℕ) (some : List Held) → Each (IsHeld machine a other) some → Each (IsHeld machine b other) some
  held_still other some f = Each-map (IsHeld machine a other) (IsHeld machine b other) (λ one g. record { on = g.on; caller = still (wait.Close other) one.call g.caller }) some f

  pub are_held : Each (IsHeld machine b object) held
  are_held = held_still object held (subst (Each (IsHeld machine a object)) is (old.combiners object none).held)

  here : CombinerStands machine b object
  here =
      let now : b.batches.combiners object ≡ ordered = put_same a.batches.combiners object ordered in
      record {
        held = subst (Each (IsHeld machine b object)) (sym now) (Each-append (IsHeld machine b object) (held_of (batches_of held)) (rest_of held)
            (all_held (IsHeld machine b object) (batches_of held) (are_parts (IsHeld machine b object) held are_held)) (rest_is (IsHeld machine b object) held are_held));
        each = λ slot. ap (held_at slot) now ∙ omega (
          arith,
          weigh-append (λ (x : Held). is_at slot x.call) (held_of (batches_of held)) (rest_of held),
          weigh_all slot (batches_of held),
          weigh_parts (is_at slot) held,
          (old.combiners object none).each slot,
          ap (held_at slot) is,
        );
      }

  away : (other : ℕ) → other ≢ object → a.vectors.vectors other ≡ None → CombinerStands machine b other
  away other ne free =
      let c = old.combiners other free in
      let now : b.batches.combiners other ≡ a.batches.combiners other = put_other a.batches.combiners object ordered other ne in
      record {
        held = subst (Each (IsHeld machine b other)) (sym now) (held_still other (a.batches.combiners other) c.held);
        each = λ slot. ap (held_at slot) now ∙ c.each slot;
      }

  pub core_ordered : CoreStands machine b
  core_ordered = record {
    combiners = λ other free. elim (cases_eq other object) [
      | inl q ↦ subst (CombinerStands machine b) (sym q) here
      | inr ne ↦ away other ne free
    ];
    callers = λ batch calls h. Each-map (IsCaller a (wait.Batch batch)) (IsCaller b (wait.Batch batch)) (λ call g. still (wait.Batch batch) call g) calls (old.callers batch calls h);
    each = old.each;
    fresh = old.fresh;
  }
