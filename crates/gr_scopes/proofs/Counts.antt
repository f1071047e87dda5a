-- Sums at one scope, one core and one slot.
use Rattle.std.proofs.Common.{◌≡◌, ◌⊎◌, ◌≢◌, ℕ, zero, suc, ◌+◌, ◌<◌, ◌==◌, ◌&&◌, if◌then◌else◌, Bool, true, false, List, inl, inr, sym, ◌∙◌, ap, subst, refl, arith, Option, Some, None}
use Rattle.std.proofs.lemmas.Bool.{cases_eq, eqb-true, and_parts}
use Rattle.std.proofs.lemmas.Bool.Decides.{nat_tests}
use Rattle.gr_view.specs.Places.{put}
use Rattle.gr_msg.specs.Scopes.{same_scope}
use Rattle.gr_msg.specs.declared.message.ScopeId.{ScopeId}
use Rattle.gr_event.specs.Scopes.{put_scope}
use Rattle.gr_event.proofs.ScopePuts.{put_scope_at, put_scope_other}
use Rattle.gr_net.specs.Sums.{total, weigh}
use Rattle.gr_net.proofs.Spreads.{total_put}
use Rattle.gr_machine.specs.States.{Suspended, Body}
use Rattle.gr_stands.specs.Censuses.{Weights, of_held, body_census}
use Rattle.gr_scopes.specs.Sums.{if_scope, if_core, is_late, late_at}

-- ---- scopes

pub scope_itself : (s : ScopeId) → same_scope s s ≡ true
scope_itself s = grind (arith, nat_tests)

pub scope_from_same : (a b : ScopeId) → same_scope a b ≡ true → a ≡ b
scope_from_same a b e =
    let p = and_parts (a.core == b.core) (a.number == b.number) e in
    let cores = eqb-true a.core b.core p.0 in
    let numbers = eqb-true a.number b.number p.1 in
    λ i. record { core = cores i; number = numbers i }

pub cases_scope : (a b : ScopeId) → (a ≡ b) ⊎ (same_scope a b ≡ false)
cases_scope a b = go (same_scope a b) refl
  where
    go : (t : Bool) → same_scope a b ≡ t → (a ≡ b) ⊎ (same_scope a b ≡ false)
    go true e = inl (scope_from_same a b e)
    go false e = inr e

pub not_itself : (s : ScopeId) → same_scope s s ≡ false → ⊥
not_itself s e = true_false (sym (scope_itself s) ∙ e)
  where
    true_false : true ≡ false → ⊥
    true_false e = cc

pub if_scope_self : (s : ScopeId) (n : ℕ) → if_scope s s n ≡ n
unfolding if_scope
if_scope_self s n = ap (λ (b : Bool). if b then n else 0) (scope_itself s)

pub if_scope_off : (q s : ScopeId) (n : ℕ) → same_scope q s ≡ false → if_scope q s n ≡ 0
unfolding if_scope
if_scope_off q s n e = ap (λ (b : Bool). if b then n else 0) e

pub if_scope_zero : (q s : ScopeId) → if_scope q s 0 ≡ 0
unfolding if_scope
if_scope_zero q s = both (same_scope q s)
  where
    both : (b : Bool) → (if b then zero else zero) ≡ zero
    both true = refl
    both false = refl

-- A number of what stands at one scope.
pub scope_put : {X : Type 0} (F : X → ℕ) (f : ScopeId → X) (s : ScopeId) (x : X) (q : ScopeId) → F (put_scope f s x q) + if_scope q s (F (f s)) ≡ F (f q) + if_scope q s (F x)
scope_put F f s x q = elim (cases_scope q s) [
  | inl e ↦ subst (λ (r : ScopeId). F (put_scope f s x r) + if_scope r s (F (f s)) ≡ F (f r) + if_scope r s (F x)) (sym e)
      (omega (arith, ap F (put_scope_at f s x), if_scope_self s (F (f s)), if_scope_self s (F x)))
  | inr e ↦ omega (arith, ap F (put_scope_other f s x q e), if_scope_off q s (F (f s)) e, if_scope_off q s (F x) e)
]

-- ---- cores

pub if_core_self : (c n : ℕ) → if_core c c n ≡ n
unfolding if_core
if_core_self c n = grind (arith, nat_tests)

pub if_core_off : (c d n : ℕ) → c ≢ d → if_core c d n ≡ 0
unfolding if_core
if_core_off c d n ne = grind (arith, nat_tests)

pub if_core_zero : (c d : ℕ) → if_core c d 0 ≡ 0
unfolding if_core
if_core_zero c d = both (d == c)
  where
    both : (b : Bool) → (if b then zero else zero) ≡ zero
    both true = refl
    both false = refl

-- ---- slots

-- One slot has another task.
pub late_put : (s : ScopeId) (m : ℕ) (a b : Body) (k : ℕ) (o : Option Suspended) → k < m → b.tasks.slots ≡ put a.tasks.slots k o
    → late_at s m b + of_held (is_late s) (a.tasks.slots k) ≡ late_at s m a + of_held (is_late s) o
unfolding late_at
late_put s m a b k o l e = omega (
  arith,
  total_put (λ (i : ℕ) (x : Option Suspended). of_held (is_late s) x) a.tasks.slots k o m l,
  ap (λ (f : ℕ → Option Suspended). total m (λ i. of_held (is_late s) (f i))) e,
)

pub late_same : (s : ScopeId) (m : ℕ) (a b : Body) → b.tasks.slots ≡ a.tasks.slots → late_at s m b ≡ late_at s m a
unfolding late_at
late_same s m a b e = ap (λ (f : ℕ → Option Suspended). total m (λ i. of_held (is_late s) (f i))) e

-- The units of a body.
abbrev pub units_weigh : Weights → Body → ℕ
units_weigh h b = weigh h.of_unit b.work.private + weigh h.of_unit b.work.public

pub census_put : (h : Weights) (m : ℕ) (a b : Body) (k : ℕ) (o : Option Suspended) → k < m → b.tasks.slots ≡ put a.tasks.slots k o
    → body_census h m b + (of_held h.of_task (a.tasks.slots k) + units_weigh h a) ≡ body_census h m a + (of_held h.of_task o + units_weigh h b)
unfolding body_census
census_put h m a b k o l e = omega (
  arith,
  total_put (λ (i : ℕ) (x : Option Suspended). of_held h.of_task x) a.tasks.slots k o m l,
  ap (λ (f : ℕ → Option Suspended). total m (λ i. of_held h.of_task (f i))) e,
)

pub census_same : (h : Weights) (m : ℕ) (a b : Body) → b.tasks.slots ≡ a.tasks.slots → body_census h m b + units_weigh h a ≡ body_census h m a + units_weigh h b
unfolding body_census
census_same h m a b e = omega (arith, ap (λ (f : ℕ → Option Suspended). total m (λ i. of_held h.of_task (f i))) e)
