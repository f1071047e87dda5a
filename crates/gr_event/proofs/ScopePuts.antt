-- Writes to functions of scopes, and to lists of pairs as such functions.
use Rattle.std.proofs.Common.{◌≡◌, ℕ, Option, None, List, [], ap, ◌∙◌, sym, refl, cond, Bool, true, false, if◌then◌else◌, ◌==◌, inl, inr, eq-eqb, ne_eqb}
use Rattle.std.specs.Prelude.{◌&&◌}
use Rattle.std.proofs.lemmas.Bool.{cases_eq}
use Rattle.std.specs.Cmp.{nat_cmp_is}
use Rattle.std.proofs.lemmas.Map.Lookups.{exact_unsigned}
use Rattle.std.specs.declared.cmp.Ordering.{Ordering}
use Rattle.std.specs.declared.cmp.Ordering.TheVariants.{Less, Equal, Greater}
use mathlib.Core.Path.{fun_ext}
use Rattle.std.specs.Map.{lookup}
use Rattle.std.specs.BTreeMap.{is_at}
use Rattle.std.specs.Ordering.{nat_cmp, is_eq, ordering_then}
use Rattle.gr_msg.specs.Scopes.{same_scope}
use Rattle.gr_msg.specs.declared.message.ScopeId.{ScopeId}
use Rattle.gr_event.specs.Scopes.{put_scope, at_scope, scope_cmp}

not_equal : (o : Ordering) → (o ≡ Equal → ⊥) → is_eq o ≡ false
not_equal Less h = refl
not_equal Equal h = absurd (h refl)
not_equal Greater h = refl

both_equal : (o p : Ordering) → is_eq (ordering_then o p) ≡ (is_eq o && is_eq p)
both_equal Less p = refl
both_equal Equal p = refl
both_equal Greater p = refl

equal_at : (a b : ℕ) → is_eq (nat_cmp a b) ≡ (b == a)
equal_at a b = elim (cases_eq b a) [
  | inl e ↦ ap is_eq (sym (nat_cmp_is a b Equal (sym e))) ∙ sym (eq-eqb b a e)
  | inr n ↦ not_equal (nat_cmp a b) (λ e. n (sym (exact_unsigned a b e))) ∙ sym (ne_eqb b a n)
]

test_is : (s q : ScopeId) → is_at (scope_cmp s) q ≡ same_scope q s
test_is s q = both_equal (nat_cmp s.core q.core) (nat_cmp s.number q.number) ∙ ap (λ x. x && is_eq (nat_cmp s.number q.number)) (equal_at s.core q.core) ∙ ap (λ x. (q.core == s.core) && x) (equal_at s.number q.number)

same_self : (s : ScopeId) → same_scope s s ≡ true
same_self s = ap (λ b. b && (s.number == s.number)) (eq-eqb s.core s.core refl) ∙ eq-eqb s.number s.number refl

chosen : {X : Type 0} (b : Bool) (x y z : X) → (if b then x else if b then y else z) ≡ (if b then x else z)
chosen true x y z = refl
chosen false x y z = refl

-- What is put at a scope is read there.
pub put_scope_at : {X : Type 0} (f : ScopeId → X) (s : ScopeId) (x : X) → put_scope f s x s ≡ x
unfolding put_scope
put_scope_at f s x = ap (λ b. if b then x else f s) (same_self s)

-- Nothing else changes.
pub put_scope_other : {X : Type 0} (f : ScopeId → X) (s : ScopeId) (x : X) (q : ScopeId) → same_scope q s ≡ false → put_scope f s x q ≡ f q
unfolding put_scope
put_scope_other f s x q h = ap (λ b. if b then x else f q) h

-- The later of two writes at one scope counts.
pub put_scope_twice : {X : Type 0} (f : ScopeId → X) (s : ScopeId) (x y : X) → put_scope (put_scope f s x) s y ≡ put_scope f s y
unfolding put_scope
put_scope_twice f s x y = fun_ext (λ q. chosen (same_scope q s) y x (f q))

pub at_scope_is : {X : Type 0} (es : List (ScopeId × X)) (s : ScopeId) → at_scope es s ≡ lookup (is_at (scope_cmp s)) es
unfolding at_scope
at_scope_is es s = refl

-- What a call does to the entries is a write of the function that they stand for.
pub at_scope_put : {X : Type 0} (es fs : List (ScopeId × X)) (s : ScopeId) (o : Option X) → ((q : ScopeId) → lookup (is_at (scope_cmp q)) fs ≡ cond (is_at (scope_cmp s) q) o (lookup (is_at (scope_cmp q)) es)) → at_scope fs ≡ put_scope (at_scope es) s o
unfolding put_scope at_scope
at_scope_put es fs s o h = fun_ext (λ q. h q ∙ ap (λ b. cond b o (lookup (is_at (scope_cmp q)) es)) (test_is s q))

pub at_scope_none : {X : Type 0} (es : List (ScopeId × X)) → es ≡ [] → at_scope es ≡ (λ s. None)
unfolding at_scope
at_scope_none {X = X} es e = let read : List (ScopeId × X) → ScopeId → Option X = λ xs s. lookup (is_at (scope_cmp s)) xs in ap read e

-- Reads and writes of a list of pairs as a function of scopes.
pub ruleset at_scopes = (put_scope_at, put_scope_twice, at_scope_is, at_scope_put, at_scope_none)
