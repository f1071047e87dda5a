-- What is told of messages when one more is added to them.
use Rattle.std.proofs.Common.{◌≡◌, ◌+◌, ◌==◌, ◌&&◌, ◌^◌, nat_lt, ℕ, zero, suc, Bool, true, false, if◌then◌else◌, List, [], ◌∷◌, Option, Some, None, ap, ◌∙◌, sym, refl, subst, arith, All, sum_by}
use Rattle.std.proofs.lemmas.List.Sums.{sum_by-cons}
use Rattle.gr_msg.specs.Scopes.{same_scope}
use Rattle.gr_msg.specs.declared.message.Msg.{Msg}
use Rattle.gr_msg.specs.declared.message.Msg.TheVariants.{Complete}
use Rattle.gr_msg.specs.declared.message.ScopeId.{ScopeId}
use Rattle.gr_agg.specs.Buffers.{add_last, after_message, joined, sum_with}
use Rattle.gr_agg.specs.Laws.{Adds, Merges, MessagesAreWeighed, MessagesStayGood}

both_true : (a b : Bool) → (a && b) ≡ true → (a ≡ true) × (b ≡ true)
both_true true b h = (refl, h)
both_true false b h = absurd (cc)

equal_told : (a b : ℕ) → (a == b) ≡ true → a ≡ b
equal_told a b h = Prim.grind (arith, h)

scope_told : (s t : ScopeId) → same_scope s t ≡ true → s ≡ t
scope_told s t h =
    let z = both_true (s.core == t.core) (s.number == t.number) h in
    λ i. record { core = equal_told s.core t.core z.0 i; number = equal_told s.number t.number z.1 i }

some_if : (a b : Bool) (n v : ℕ) → (if a then (if b then Some n else None) else None) ≡ Some v → (a ≡ true) × (n ≡ v)
some_if true true n v h = (refl, cc)
some_if true false n v h = absurd (cc)
some_if false b n v h = absurd (cc)

-- A sum is that of a Complete of the same scope.
sum_told : (before : Msg) (scope : ScopeId) (count sum : ℕ) → sum_with before scope count ≡ Some sum → (n : ℕ) × (before ≡ Complete scope n) × (n + count ≡ sum)
sum_told (Complete one n) scope count sum h =
    let z = some_if (same_scope one scope) (nat_lt (n + count) (2 ^ 64)) (n + count) sum h in
    (n, ap (λ s. Complete s n) (scope_told one scope z.0), z.1)
sum_told _ scope count sum h = absurd (cc)

two : (weight : Msg → ℕ) (x y : Msg) → sum_by weight (x ∷ y ∷ []) ≡ weight x + weight y
two weight x y = omega (arith, sum_by-cons weight x (y ∷ []), sum_by-cons weight y [])

single : (weight : Msg → ℕ) (x : Msg) → sum_by weight (x ∷ []) ≡ weight x
single weight x = omega (arith, sum_by-cons weight x [])

weigh_after : (weight : Msg → ℕ) → Adds weight → (x : Msg) (scope : ScopeId) (count : ℕ) (o : Option ℕ) → sum_with x scope count ≡ o
    → sum_by weight (after_message x scope count o) ≡ weight x + weight (Complete scope count)
weigh_after weight a x scope count None e = two weight x (Complete scope count)
weigh_after weight a x scope count (Some sum) e =
    let t = sum_told x scope count sum e in
    single weight (Complete scope sum) ∙ ap (λ n. weight (Complete scope n)) (sym t.2) ∙ a scope t.0 count ∙ ap (λ m. weight m + weight (Complete scope count)) (sym t.1)

weigh_joined : (weight : Msg → ℕ) → Adds weight → (x y : Msg) → sum_by weight (joined x y) ≡ weight x + weight y
weigh_joined weight a x (Complete scope count) = weigh_after weight a x scope count (sum_with x scope count) refl
weigh_joined weight a x y = two weight x y

pub weigh_added : MessagesAreWeighed
unfolding add_last
weigh_added weight a [] y = refl
weigh_added weight a (x ∷ []) y = weigh_joined weight a x y ∙ ap (λ n. n + weight y) (sym (single weight x))
weigh_added weight a (x ∷ z ∷ xs) y =
    omega (arith, weigh_added weight a (z ∷ xs) y, sum_by-cons weight x (add_last (z ∷ xs) y), sum_by-cons weight x (z ∷ xs))

-- What is true of each message.
all_one : {X : Type 0} (P : X → Type 0) (x : X) → P x → All P (x ∷ [])
all_one P x p zero d h = p
all_one P x p (suc k) d h = absurd (omega arith)

all_cons : {X : Type 0} (P : X → Type 0) (x : X) (xs : List X) → P x → All P xs → All P (x ∷ xs)
all_cons P x xs p q zero d h = p
all_cons P x xs p q (suc k) d h = q k d (omega arith)

each_after : (P : Msg → Type 0) → Merges P → (x : Msg) (scope : ScopeId) (count : ℕ) (o : Option ℕ) → sum_with x scope count ≡ o → P x → P (Complete scope count)
    → All P (after_message x scope count o)
each_after P m x scope count None e p q = all_cons P x (Complete scope count ∷ []) p (all_one P (Complete scope count) q)
each_after P m x scope count (Some sum) e p q =
    let t = sum_told x scope count sum e in
    all_one P (Complete scope sum) (subst (λ n. P (Complete scope n)) t.2 (m scope t.0 count (subst P t.1 p) q))

each_joined : (P : Msg → Type 0) → Merges P → (x y : Msg) → P x → P y → All P (joined x y)
each_joined P m x (Complete scope count) p q = each_after P m x scope count (sum_with x scope count) refl p q
each_joined P m x y p q = all_cons P x (y ∷ []) p (all_one P y q)

all_rest : {X : Type 0} (P : X → Type 0) (x : X) (xs : List X) → All P (x ∷ xs) → All P xs
all_rest P x xs a k d h = a (suc k) d (omega arith)

-- What is true of each message, and of one that is added, is true of all afterwards.
pub each_added : (P : Msg → Type 0) → Merges P → (xs : List Msg) (y : Msg) → All P xs → P y → All P (add_last xs y)
unfolding add_last
each_added P m [] y a q = all_one P y q
each_added P m (x ∷ []) y a q = each_joined P m x y (a zero x (omega arith)) q
each_added P m (x ∷ z ∷ xs) y a q = all_cons P x (add_last (z ∷ xs) y) (a zero x (omega arith)) (each_added P m (z ∷ xs) y (all_rest P x (z ∷ xs) a) q)

pub good_added : MessagesStayGood
good_added test = each_added (λ message. test message ≡ true)
