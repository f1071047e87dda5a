-- Where tasks are: names, and that the task of a slot is nowhere else.
use Rattle.std.proofs.Common.{◌≡◌, ◌≢◌, ◌⊎◌, ℕ, zero, suc, ◌+◌, ◌<◌, ◌≤◌, ◌==◌, ◌&&◌, Bool, true, false, if◌then◌else◌, cond, List, [], ◌∷◌, ◌++◌, inl, inr, sym, ◌∙◌, ap, subst, refl, arith, Option, Some, None}
use Rattle.std.specs.Ordering.{eq_by_cmp}
use Rattle.std.specs.Cmp.{eq_by_cmp_equiv}
use Rattle.std.specs.FinMap as fin
use Rattle.std.proofs.lemmas.Map.Views.{tells_apart}
use Rattle.std.proofs.lemmas.Bool.{cases_eq, eqb-true, and_parts, true≢false}
use Rattle.std.proofs.lemmas.Bool.Decides.{nat_tests}
use Rattle.gr_lang.specs.declared.action.TaskId.{TaskId}
use Rattle.gr_lang.specs.States.{id_cmp}
use Rattle.gr_lang.proofs.TaskIds.{ids_exact, ids_total, get_put}
use Rattle.gr_msg.specs.declared.message.Msg.{Msg}
use Rattle.gr_msg.specs.declared.message.Msg.TheVariants as msg
use Rattle.gr_msg.specs.declared.message.Unit.{Unit as WorkUnit}
use Rattle.gr_msg.specs.declared.message.Unit.TheVariants as unit
use Rattle.gr_net.specs.Sums.{total, weigh, Each}
use Rattle.gr_net.specs.Flights.{Everywhere}
use Rattle.gr_net.proofs.Spreads.{total_one, total_two, Each-zero, Each-map, weigh-append}
use Rattle.gr_net.proofs.Flights.{every_zero, every_with}
use Rattle.gr_machine.specs.States.{Suspended, Body}
use Rattle.gr_machine.specs.Nets.{messages_in}
use Rattle.gr_machine.specs.Slots.{same_id}
use Rattle.gr_stands.specs.Worlds.{Given, World, bodies}
use Rattle.gr_stands.specs.Censuses.{of_held, body_census, carried, census, is_named, is_single, is_task}
use Rattle.gr_stands.specs.Calls.{times}
use Rattle.gr_stands.specs.CallActs.{Apart, IsOther, IsOtherUnit, IsOtherIn, in_batch, AreElsewhere}

-- ---- names

pub id_from_same : (a b : TaskId) → same_id a b ≡ true → a ≡ b
id_from_same a b e =
    let p = and_parts (a.core == b.core) (a.number == b.number) e in
    let cores = eqb-true a.core b.core p.0 in
    let numbers = eqb-true a.number b.number p.1 in
    λ i. record { core = cores i; number = numbers i }

pub same_id_self : (id : TaskId) → same_id id id ≡ true
same_id_self id = grind (arith, nat_tests)

pub cases_id : (a b : TaskId) → (a ≡ b) ⊎ (same_id a b ≡ false)
cases_id a b = go (same_id a b) refl
  where
    go : (t : Bool) → same_id a b ≡ t → (a ≡ b) ⊎ (same_id a b ≡ false)
    go true e = inl (id_from_same a b e)
    go false e = inr e

pub not_same : (a b : TaskId) → same_id a b ≡ false → a ≢ b
not_same a b e q = true≢false (sym (ap (λ (x : TaskId). same_id x b) q ∙ same_id_self b) ∙ e)

module _ {X : Type 0} where
  pub get_same : (m : fin.FinMap id_cmp X) (s : TaskId) (n : X) → fin.get (fin.insert m s n) s ≡ Some n
  get_same m s n = get_put m s n s ∙ ap (λ b. cond b (Some n) (fin.get m s)) ((eq_by_cmp_equiv ids_total).refl s)

  pub get_other : (m : fin.FinMap id_cmp X) (s q : TaskId) (n : X) → same_id q s ≡ false → fin.get (fin.insert m s n) q ≡ fin.get m q
  get_other m s q n h = get_put m s n q ∙ ap (λ b. cond b (Some n) (fin.get m q)) (go (eq_by_cmp id_cmp q s) refl)
    where
      go : (b : Bool) → eq_by_cmp id_cmp q s ≡ b → eq_by_cmp id_cmp q s ≡ false
      go true e = absurd (not_same q s h (tells_apart ids_exact q s e))
      go false e = e

pub named_itself : (id : TaskId) → is_named id id ≡ 1
named_itself id = ap (λ b. if b then 1 else 0) (same_id_self id)

pub unnamed : (id other : TaskId) → is_named id other ≡ 0 → same_id other id ≡ false
unnamed id other e = go (same_id other id) refl e
  where
    go : (b : Bool) → same_id other id ≡ b → (if b then suc zero else zero) ≡ zero → same_id other id ≡ false
    go true q e = absurd (omega arith)
    go false q e = q

-- ---- lists of slots

pub times_self : (k : ℕ) (ks : List ℕ) → times k (k ∷ ks) ≡ suc (times k ks)
times_self k ks = grind (arith, nat_tests)

pub times_other : (l k : ℕ) (ks : List ℕ) → l ≢ k → times l (k ∷ ks) ≡ times l ks
times_other l k ks ne = grind (arith, nat_tests)

pub times_last : (k : ℕ) (ks : List ℕ) → times k (ks ++ k ∷ []) ≡ suc (times k ks)
times_last k ks = omega (arith, weigh-append (λ j. if j == k then 1 else 0) ks (k ∷ []), times_self k [])

pub times_before : (l k : ℕ) (ks : List ℕ) → l ≢ k → times l (ks ++ k ∷ []) ≡ times l ks
times_before l k ks ne = omega (arith, weigh-append (λ j. if j == l then 1 else 0) ks (k ∷ []), times_other l k [] ne)

-- ---- none of no tasks, and none of one

pub other_than_none : (u : WorkUnit) → IsOtherUnit [] u
other_than_none (unit.Single target args scope origin id) = tt
other_than_none (unit.Chunk target args scope origin owner lo hi grain) = tt

all_units : (us : List WorkUnit) → Each (IsOtherUnit []) us
all_units [] = tt
all_units (u ∷ us) = (other_than_none u, all_units us)

none_in : (m : Msg) → IsOtherIn [] m
none_in (msg.Spawn u) = other_than_none u
none_in (msg.StealGive u) = other_than_none u
none_in _ = tt

pub none_elsewhere : (given : Given) (w : World) (P : ℕ → ℕ → Msg → Type 0) (d k : ℕ) → Everywhere messages_in P given.setup.cores w → AreElsewhere given w d k []
none_elsewhere given w P d k f = record {
  slots = λ i l u ne at z. tt;
  private = λ i l. all_units (bodies w i).work.private;
  public = λ i l. all_units (bodies w i).work.public;
  messages = every_with messages_in P P (λ from to m. IsOtherIn [] m) given.setup.cores w (λ from to m p q. none_in m) f f;
}

single_other : (id : TaskId) (u : WorkUnit) → is_single id u ≡ 0 → IsOtherUnit (id ∷ []) u
single_other id (unit.Single target args scope origin name) e = (unnamed id name e, tt)
single_other id (unit.Chunk target args scope origin owner lo hi grain) e = tt

carried_other : (id : TaskId) (from to : ℕ) (m : Msg) → carried (is_single id) from to m ≡ 0 → IsOtherIn (id ∷ []) m
carried_other id from to (msg.Spawn u) e = single_other id u e
carried_other id from to (msg.StealGive u) e = single_other id u e
carried_other id from to _ e = tt

-- The task of a slot is in no other slot, and in no unit, where all that have its name are one.
pub one_elsewhere : (given : Given) (w : World) (d k : ℕ) (s : Suspended) → d < given.setup.cores → k < given.slots → (bodies w d).tasks.slots k ≡ Some s
    → ((c l : ℕ) (u : Suspended) → (bodies w c).tasks.slots l ≡ Some u → (c < given.setup.cores) × (l < given.slots))
    → census (is_task s.id) given w ≡ 1 → AreElsewhere given w d k (s.id ∷ [])
unfolding census body_census
one_elsewhere given w d k s ld lk there within e =
    let n = given.setup.cores in
    let m = given.slots in
    let F : ℕ → ℕ = λ c. body_census (is_task s.id) m (bodies w c) in
    let W : ℕ → ℕ → ℕ = λ c l. of_held (is_task s.id).of_task ((bodies w c).tasks.slots l) in
    let here : W d k ≡ 1 = ap (of_held (is_task s.id).of_task) there ∙ named_itself s.id in
    let one : W d k ≤ total m (W d) = total_one (W d) m k lk in
    let core : F d ≤ total n F = total_one F n d ld in
    let apart : (c : ℕ) → c < n → c ≢ d → F c ≡ 0 = λ c l ne. omega (arith, total_two F n c d l ld ne) in
    let units : (c : ℕ) → c < n → weigh (is_single s.id) (bodies w c).work.private + weigh (is_single s.id) (bodies w c).work.public ≡ 0 = λ c lc. elim (cases_eq c d) [
      | inl q ↦ ap (λ (i : ℕ). weigh (is_single s.id) (bodies w i).work.private + weigh (is_single s.id) (bodies w i).work.public) q ∙ omega arith
      | inr q ↦ omega (arith, apart c lc q)
    ] in
    record {
      slots = λ c l u ne at z.
          let in_range = within c l u at in
          let weight : W c l ≡ is_named s.id u.id = ap (of_held (is_task s.id).of_task) at in (
            unnamed s.id u.id (elim (cases_eq c d) [
              | inl q ↦ let in_d : W d l ≡ is_named s.id u.id = ap (λ (i : ℕ). W i l) (sym q) ∙ weight in
                  omega (arith, in_d, total_two (W d) m l k in_range.1 lk (λ r. ne (q, r)))
              | inr q ↦ omega (arith, apart c in_range.0 q, weight, total_one (W c) m l in_range.1)
            ]),
            tt,
          );
      private = λ c lc. Each-map (λ (u : WorkUnit). is_single s.id u ≡ 0) (IsOtherUnit (s.id ∷ [])) (single_other s.id) (bodies w c).work.private
          (Each-zero (is_single s.id) (bodies w c).work.private (omega (arith, units c lc)));
      public = λ c lc. Each-map (λ (u : WorkUnit). is_single s.id u ≡ 0) (IsOtherUnit (s.id ∷ [])) (single_other s.id) (bodies w c).work.public
          (Each-zero (is_single s.id) (bodies w c).work.public (omega (arith, units c lc)));
      messages =
          let z = every_zero messages_in (carried (is_single s.id)) n w (omega arith) in
          every_with messages_in (λ from to m. carried (is_single s.id) from to m ≡ 0) (λ from to m. carried (is_single s.id) from to m ≡ 0) (λ from to m. IsOtherIn (s.id ∷ []) m) n w
          (λ from to m p q. carried_other s.id from to m p) z z;
    }
