-- Tasks in different slots have different names, and so have those of the calls of a batch.
use Rattle.std.proofs.Common.{◌≡◌, ◌≢◌, ℕ, zero, suc, ◌≤◌, ◌==◌, if◌then◌else◌, false, List, [], ◌∷◌, inl, inr, sym, ◌∙◌, ap, arith, Option, Some, None}
use Rattle.std.specs.FinMap as fin
use Rattle.std.proofs.lemmas.Bool.{cases_eq}
use Rattle.std.proofs.lemmas.Bool.Decides.{nat_tests}
use Rattle.gr_lang.specs.declared.action.TaskId.{TaskId}
use Rattle.gr_lang.specs.declared.action.WaitingCall.{WaitingCall}
use Rattle.gr_lang.specs.States.{Mode, ended, Task, State}
use Rattle.gr_net.specs.Sums.{total, weigh, Each}
use Rattle.gr_net.proofs.Spreads.{total_one, total_two}
use Rattle.gr_machine.specs.declared.waits.Waits.{Waits}
use Rattle.gr_machine.specs.declared.waits.Waits.TheVariants as wait
use Rattle.gr_machine.specs.States.{Suspended}
use Rattle.gr_machine.specs.Slots.{same_id}
use Rattle.gr_stands.specs.Worlds.{Given, World, bodies}
use Rattle.gr_stands.specs.Censuses.{of_held, body_census, census, is_named, is_task, going_on, is_unended}
use Rattle.gr_stands.specs.Calls.{of_slot, CallsStand}
use Rattle.gr_stands.specs.CallActs.{Apart}
use Rattle.gr_stands.proofs.Places.{named_itself, unnamed}
use Rattle.gr_batches.specs.Batches.{is_flying, IsCaller, is_at}

mode_le : (m : Mode) → going_on m ≤ 1
mode_le ended = omega arith
mode_le _ = omega arith

unended_le : (o : Option Task) → is_unended o ≤ 1
unended_le None = omega arith
unended_le (Some t) = mode_le t.mode

waits_le : (batch : ℕ) (q : Waits) → is_flying batch q ≤ 1
waits_le batch (wait.Batch other) = grind arith
waits_le batch _ = omega arith

pub flying_le : (batch : ℕ) (o : Option Suspended) → of_slot (is_flying batch) o ≤ 1
flying_le batch None = omega arith
flying_le batch (Some task) = waits_le batch task.waits

at_self : (call : WaitingCall) → is_at call.slot call ≡ 1
at_self call = grind (arith, nat_tests)

not_at : (slot other : ℕ) → (if other == slot then suc zero else zero) ≡ zero → other ≢ slot
not_at slot other e q = grind (arith, nat_tests)

-- ---- names

module _ (given : Given) (w : World) (S : State) (old : CallsStand given w S) where
  pub apart_names : (d k : ℕ) (s : Suspended) (c l : ℕ) (u : Suspended) → (bodies w d).tasks.slots k ≡ Some s → (bodies w c).tasks.slots l ≡ Some u
      → Apart d k c l → same_id u.id s.id ≡ false
  unfolding census body_census
  apart_names d k s c l u there at ne =
      let n = given.setup.cores in
      let m = given.slots in
      let F : ℕ → ℕ = λ c. body_census (is_task s.id) m (bodies w c) in
      let W : ℕ → ℕ → ℕ = λ c l. of_held (is_task s.id).of_task ((bodies w c).tasks.slots l) in
      let f = old.tasks.slots d k s there in
      let g = old.tasks.slots c l u at in
      let once : census (is_task s.id) given w ≤ 1 = omega (arith, old.once s.id, unended_le (fin.get S.tasks s.id)) in
      let here : W d k ≡ 1 = ap (of_held (is_task s.id).of_task) there ∙ named_itself s.id in
      let weight : W c l ≡ is_named s.id u.id = ap (of_held (is_task s.id).of_task) at in
      let in_d : W d k ≤ total m (W d) = total_one (W d) m k f.low in
      let in_c : W c l ≤ total m (W c) = total_one (W c) m l g.low in
      let core : F d ≤ total n F = total_one F n d f.here in
      unnamed s.id u.id (elim (cases_eq c d) [
        | inl q ↦ let moved : W d l ≡ is_named s.id u.id = ap (λ (i : ℕ). W i l) (sym q) ∙ weight in
            omega (arith, moved, once, here, total_two (W d) m l k g.low f.low (λ r. ne (q, r)))
        | inr q ↦ omega (arith, weight, once, here, in_c, in_d, total_two F n c d g.here f.here q)
      ])

  -- ---- the calls of a batch

  module _ (d : ℕ) (reason : Waits) where
    abbrev pub Differ : WaitingCall → WaitingCall → Type 0
    Differ call other = (same_id other.id call.id ≡ false) × (same_id call.id other.id ≡ false)

    differ : (call other : WaitingCall) → IsCaller (bodies w d) reason call → IsCaller (bodies w d) reason other → other.slot ≢ call.slot → Differ call other
    differ call other f g ne = (
      ap (λ (x : TaskId). same_id x call.id) (sym g.named) ∙ ap (same_id g.task.id) (sym f.named)
          ∙ apart_names d call.slot f.task d other.slot g.task f.there g.there (λ q. ne q.1),
      ap (λ (x : TaskId). same_id x other.id) (sym f.named) ∙ ap (same_id f.task.id) (sym g.named)
          ∙ apart_names d other.slot g.task d call.slot f.task g.there f.there (λ q. ne (sym q.1)),
    )

    all_differ : (call : WaitingCall) (others : List WaitingCall) → IsCaller (bodies w d) reason call → Each (IsCaller (bodies w d) reason) others
        → weigh (is_at call.slot) others ≡ 0 → Each (Differ call) others
    all_differ call [] f g z = tt
    all_differ call (other ∷ others) f g z = (
      differ call other f g.0 (not_at call.slot other.slot (omega (arith, z))),
      all_differ call others f g.1 (omega (arith, z)),
    )

    abbrev pub AreApart : List WaitingCall → Type 0
    AreApart [] = Unit
    AreApart (call ∷ calls) = Each (Differ call) calls × AreApart calls

    pub are_apart : (calls : List WaitingCall) → Each (IsCaller (bodies w d) reason) calls → ((slot : ℕ) → weigh (is_at slot) calls ≤ 1) → AreApart calls
    are_apart [] f le = tt
    are_apart (call ∷ calls) f le = (
      all_differ call calls f.0 f.1 (omega (arith, le call.slot, at_self call)),
      are_apart calls f.1 (λ slot. omega (arith, le slot)),
    )
