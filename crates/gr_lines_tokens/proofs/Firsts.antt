-- The first of the cores that asked for a turn, and what messages of turns weigh.
use Rattle.std.proofs.Common.{◌≡◌, ◌≢◌, ℕ, zero, suc, ◌+◌, ◌-◌, ◌≤◌, ◌==◌, ◌&&◌, Bool, true, false, nat_lt, if◌then◌else◌, List, [], ◌∷◌, ◌++◌, inl, inr, sym, ◌∙◌, ap, refl, arith, Option, Some, None, is_some}
use Rattle.std.proofs.lemmas.Bool.{cases_eq}
use Rattle.std.proofs.lemmas.Bool.Decides.{nat_tests}
use Rattle.gr_lang.specs.declared.action.Op.{Op}
use Rattle.gr_lang.specs.declared.action.Op.TheVariants as op
use Rattle.gr_lang.specs.declared.action.WaitingCall.{WaitingCall}
use Rattle.gr_msg.specs.declared.message.Msg.TheVariants as msg
use Rattle.gr_vector.specs.declared.ends.Ends.{Ends}
use Rattle.gr_vector.specs.Plans.{after, ends_after}
use Rattle.gr_vector.specs.Turns.{turn_of}
use Rattle.gr_machine.specs.TurnServes.{grants as grant_sends}
use Rattle.gr_stands.specs.Worlds.{of_sends}
use Rattle.gr_stands.specs.Calls.{times}
use Rattle.gr_lines_turns.specs.Tokens.{is_first, grants, dones, asks}

pub none_some : {X : Type 0} (x : X) → None ≡ Some x → ⊥
none_some x e = cc

pub some_same : {X : Type 0} (x y : X) → Some x ≡ Some y → x ≡ y
some_same x y e = cc

pub none_is : {X : Type 0} (o : Option X) → o ≡ None → is_some o ≡ true → ⊥
none_is o e is = cc

pub self_eq : (n : ℕ) → (n == n) ≡ true
self_eq n = grind (arith, nat_tests)

pub not_eq : (a b : ℕ) → a ≢ b → (a == b) ≡ false
not_eq a b ne = grind (arith, nat_tests)

pub one_if : (a b : ℕ) → a ≡ b → (if a == b then 1 else 0) ≡ suc zero
one_if a b e = grind (arith, nat_tests)

pub zero_if : (a b : ℕ) → a ≢ b → (if a == b then 1 else 0) ≡ zero
zero_if a b ne = grind (arith, nat_tests)

pub none_if : (a b : ℕ) → (if a == b then 0 else 0) ≡ zero
none_if a b = by (a == b)
  where
    by : (t : Bool) → (if t then 0 else 0) ≡ zero
    by true = refl
    by false = refl

-- The vector is this, so the core alone counts.
pub mine_if : (n a b : ℕ) → (if n == n && a == b then 1 else 0) ≡ (if a == b then 1 else zero)
mine_if n a b = ap (λ (t : Bool). if t && a == b then 1 else zero) (self_eq n)

pub turn_asks : (number core from to : ℕ) → asks number core from to (msg.Turn number) ≡ (if from == core then 1 else zero)
turn_asks number core from to = mine_if number from core

pub grant_grants : (number core from to head tail : ℕ) → grants number core from to (msg.Grant number head tail) ≡ (if to == core then 1 else zero)
grant_grants number core from to head tail = mine_if number to core

pub done_dones : (number core from to head tail : ℕ) → dones number core from to (msg.Done number head tail) ≡ (if from == core then 1 else zero)
done_dones number core from to head tail = mine_if number from core

-- ---- the first core

pub first_le : (core : ℕ) (cores : List ℕ) → is_first core cores ≤ 1
first_le core [] = omega arith
first_le core (first ∷ cores) = elim (cases_eq first core) [
  | inl q ↦ omega (arith, one_if first core q)
  | inr ne ↦ omega (arith, zero_if first core ne)
]

pub first_is : (core : ℕ) (cores : List ℕ) → 1 ≤ is_first core cores → (more : List ℕ) × (cores ≡ core ∷ more)
first_is core [] l = absurd (omega (arith, l))
first_is core (first ∷ cores) l = elim (cases_eq first core) [
  | inl q ↦ (cores, ap (λ (c : ℕ). c ∷ cores) q)
  | inr ne ↦ absurd (omega (arith, l, zero_if first core ne))
]

pub first_other : (core other : ℕ) (cores : List ℕ) → 1 ≤ is_first core cores → other ≢ core → is_first other cores ≡ 0
first_other core other cores l ne =
    let f = first_is core cores l in
    ap (is_first other) f.1 ∙ zero_if core other (λ q. ne (sym q))

pub first_times : (core : ℕ) (cores : List ℕ) → is_first core cores ≤ times core cores
first_times core [] = omega arith
first_times core (first ∷ cores) = omega arith

pub no_end : {X : Type 0} (xs : List X) (x : X) → xs ++ x ∷ [] ≡ [] → ⊥
no_end [] x e = cc
no_end (y ∷ ys) x e = cc

-- ---- grants

-- The turn of the first core is a Grant to it.
pub granted_weighs : (number core me head tail : ℕ) (cores : List ℕ) → of_sends (grants number core) me (grant_sends number (turn_of head tail cores)) ≡ is_first core cores
granted_weighs number core me head tail [] = refl
granted_weighs number core me head tail (first ∷ cores) = omega (arith, grant_grants number core me first head tail)

pub granted_done : (number core me head tail : ℕ) (cores : List ℕ) → of_sends (dones number core) me (grant_sends number (turn_of head tail cores)) ≡ 0
granted_done number core me head tail [] = refl
granted_done number core me head tail (first ∷ cores) = refl

pub granted_asks : (number core me head tail : ℕ) (cores : List ℕ) → of_sends (asks number core) me (grant_sends number (turn_of head tail cores)) ≡ 0
granted_asks number core me head tail [] = refl
granted_asks number core me head tail (first ∷ cores) = refl

-- ---- where the words stand

abbrev picked : Bool → Ends → Ends → Ends
picked b x y = if b then x else y

picked_order : (b : Bool) (x y : Ends) → (b ≡ true → x.head ≤ x.tail) → y.head ≤ y.tail → (picked b x y).head ≤ (picked b x y).tail
picked_order true x y l m = l refl
picked_order false x y l m = m

one_less : (a b : ℕ) → nat_lt a b ≡ true → a ≤ b - 1
one_less a b q = grind (arith, nat_tests)

one_more : (a b : ℕ) → nat_lt a b ≡ true → a + 1 ≤ b
one_more a b q = grind (arith, nat_tests)

one_order : (o : Op) (ends : Ends) → ends.head ≤ ends.tail → (after o ends).head ≤ (after o ends).tail
one_order (op.Push object word) ends l = omega (arith, l)
one_order (op.Pop object) ends l = picked_order (nat_lt ends.head ends.tail) (record { head = ends.head; tail = ends.tail - 1 }) ends (one_less ends.head ends.tail) l
one_order (op.Dequeue object) ends l = picked_order (nat_lt ends.head ends.tail) (record { head = ends.head + 1; tail = ends.tail }) ends (one_more ends.head ends.tail) l
one_order _ ends l = l

pub ends_order : (calls : List WaitingCall) (ends : Ends) → ends.head ≤ ends.tail → (ends_after calls ends).head ≤ (ends_after calls ends).tail
ends_order [] ends l = l
ends_order (call ∷ calls) ends l = ends_order calls (after call.op ends) (one_order call.op ends l)
