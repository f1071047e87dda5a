-- Levels of binary signs, one above the other, and what goes on from a first operand that was read already.
use Rattle.std.proofs.Common.{◌≡◌, ℕ, zero, suc, ◌<◌, Bool, true, false, cond, List, [], ◌∷◌, ◌++◌, Option, Some, None, Ok, Err, refl, sym, ap, subst, ◌∙◌, append_assoc, arith, eqb}
use Rattle.std.proofs.lemmas.List.{append-nil}
use Rattle.std.proofs.lemmas.Bool.{eqb-true}
use Rattle.gr_meets.specs.Parsers.{of_level, sign_of, Outcome, Parser, and_then, ◌>>=◌, pure, peek, chain, level, levels, onward}
use Rattle.gr_meets.specs.LanguageWords.{Meets, Completes, Agree}
use Rattle.gr_meets.specs.Lists.{Chained, Spends, Levels}
use Rattle.gr_meets.specs.ListsWords.{Loose, Onward}
use Rattle.gr_meets.proofs.Meets.{weaken, meets_pure, bind_also}
use Rattle.gr_meets.proofs.Completes.{completes_weaken}
use Rattle.gr_meets.proofs.Agrees.{agree_bind, shortens}
use Rattle.gr_meets.proofs.Chains.{After, level_meets, level_completes, level_agree, chain_all, chain_agree}

module _ {T A O : Type 0} (sign : ℕ → T → Option O) (two : O → A → A → A) (operand : ℕ → Parser T (A × ℕ)) where
  module _ (E : List T → A → ℕ → Type 0) (reads : (b : ℕ) → Meets (operand b) (Spends E b) (Spends E b)) where
    -- What so many levels read is spelled so.
    pub levels_meets : (l b : ℕ) → Meets (levels sign two operand l b) (Spends (Levels sign two E l) b) (Spends (Levels sign two E l) b)
    unfolding levels
    levels_meets zero b = reads b
    levels_meets (suc l) b = level_meets (sign l) two (levels_meets l) b

  then_same : {X Y Z : Type 0} (o : Outcome T X) (p : X → Parser T Y) (q : Y → Parser T Z) → and_then (and_then o p) q ≡ and_then o (λ x. p x >>= q)
  then_same (Ok z) p q = refl
  then_same (Err n) p q = refl

  pure_same : {X : Type 0} (o : Outcome T X) → o ≡ and_then o (λ x. pure x)
  pure_same (Ok z) = refl
  pure_same (Err n) = refl

  -- The levels are a first operand, and what goes on from it.
  pub levels_are : (l b : ℕ) (ts : List T) → levels sign two operand l b ts ≡ (operand b >>= onward sign two operand l) ts
  unfolding levels level onward
  levels_are zero b ts = pure_same (operand b ts)
  levels_are (suc l) b ts = ap (λ (o : Outcome T (A × ℕ)). and_then o (λ y. chain (sign l) two (levels sign two operand l) (suc y.1) y)) (levels_are l b ts)
      ∙ then_same (operand b ts) (onward sign two operand l) (λ y. chain (sign l) two (levels sign two operand l) (suc y.1) y)

module _ {T A O : Type 0} (sign : ℕ → T → Option O) (two : O → A → A → A) (operand : ℕ → Parser T (A × ℕ)) (E : List T → A → ℕ → Type 0) (reads : (b : ℕ) → Meets (operand b) (Spends E b) (Spends E b)) where
  tighten : (l b : ℕ) (ts : List T) (x : A × ℕ) → Spends (Levels sign two E l) b ts x → Spends (Levels sign two E (suc l)) b ts x
  tighten l b ts x h = record { signs = h.signs; spelled = Chained.one h.spelled; sum = h.sum }

  ends : (l b : ℕ) (x y : A × ℕ) (a : List T) → Onward sign two E l b x a y → Onward sign two E (suc l) b x (a ++ []) y
  ends l b x y a k c f = subst (λ (u : List T). Spends (Levels sign two E (suc l)) b (c ++ u) y) (sym (append-nil a)) (tighten l b (c ++ a) y (k c f))

  goes : (l b : ℕ) (x y : A × ℕ) (c : List T) (z : A × ℕ) → After (sign l) two (Levels sign two E l) b y c z → (a : List T) → Onward sign two E l b x a y → Onward sign two E (suc l) b x (a ++ c) z
  goes l b x y c z h a k d f = subst (λ (u : List T). Spends (Levels sign two E (suc l)) b u z) (append_assoc d a c) (h (d ++ a) (tighten l b (d ++ a) y (k d f)))

  -- What goes on from a first operand.
  pub onward_meets : (l b : ℕ) (x : A × ℕ) → Meets (onward sign two operand l x) (Onward sign two E l b x) (Onward sign two E l b x)
  unfolding onward
  onward_meets zero b x = meets_pure (λ a f. subst (λ (u : List T). Spends E b u x) (sym (append-nil a)) f)
  onward_meets (suc l) b x = bind_also {q = λ y. chain (sign l) two (levels sign two operand l) (suc y.1) y} {K = Onward sign two E (suc l) b x} {W = Onward sign two E (suc l) b x} (onward_meets l b x) (λ a y k. k)
      (λ y. weaken (chain_all (sign l) two (levels sign two operand l) (Levels sign two E l) (Levels sign two E l) (levels_meets sign two operand E reads l) (λ ts z n h. h) b (suc y.1) y)
      (λ c z h a k. goes l b x y c z h a k) (λ c z h a k. goes l b x y c z h a k))
      (λ a y k. ([], y, ends l b x y a k))

  module _ (n : ℕ) (F : List T → Type 0) (c : (b : ℕ) → Completes n (operand b) (Spends E b) F) (follow : (l : ℕ) (t : T) (o : O) (rest : List T) → sign l t ≡ Some o → F (t ∷ rest))
      (apart : (i l : ℕ) (t : T) (o : O) → sign l t ≡ Some o → i < l → sign i t ≡ None) where
    loose_sign : (l : ℕ) (t : T) (o : O) (rest : List T) → sign l t ≡ Some o → Loose sign l (t ∷ rest)
    unfolding peek
    loose_sign l t o rest h i k = apart i l t o h k

    looser : (l : ℕ) (rest : List T) → Loose sign (suc l) rest → Loose sign l rest
    looser l rest h i k = h i (omega (arith, k))

    -- Levels are read, in front of what may follow an operand and is no sign of them. apart: a sign is of one level.
    pub levels_completes : (l b : ℕ) → Completes n (levels sign two operand l b) (Spends (Levels sign two E l) b) (λ rest. F rest × Loose sign l rest)
    unfolding levels
    levels_completes zero b = completes_weaken (c b) (λ ts x h. h) (λ rest f. f.0)
    levels_completes (suc l) b = completes_weaken
        (level_completes (sign l) two (levels_meets sign two operand E reads l) (levels_completes l) (λ t o rest h. (follow l t o rest h, loose_sign l t o rest h)) b)
        (λ ts x h. h) (λ rest f. ((f.0, looser l rest f.1), f.1 l (omega arith)))

module _ {T A O : Type 0} (n m : ℕ) (sign : ℕ → T → Option O) (two : O → A → A → A) (p q : ℕ → Parser T (A × ℕ)) (E : List T → A → ℕ → Type 0) (reads : (b : ℕ) → Meets (p b) (Spends E b) (Spends E b)) (same : (b : ℕ) → Agree n m (p b) (q b)) where
  pub levels_agree : (l b : ℕ) → Agree n m (levels sign two p l b) (levels sign two q l b)
  unfolding levels
  levels_agree zero b = same b
  levels_agree (suc l) b = level_agree (sign l) two (levels_agree l) (λ d. shortens (levels_meets sign two p E reads l d)) b

  pub onward_agree : (l : ℕ) (x : A × ℕ) → Agree n m (onward sign two p l x) (onward sign two q l x)
  unfolding onward
  onward_agree zero x = record { same = λ ts h k. refl }
  onward_agree (suc l) x = agree_bind (onward_agree l x) (shortens (onward_meets sign two p E reads l 0 x))
      (λ y. chain_agree n m (sign l) two (levels sign two p l) (levels sign two q l) (levels_agree l) (λ d. shortens (levels_meets sign two p E reads l d)) (suc y.1) y)

-- ---- how a chain begins

module _ {T A O : Type 0} (sign : T → Option O) (two : O → A → A → A) (E : List T → A → ℕ → Type 0) (G : List T → Type 0) (first : (ts : List T) (x : A) (n : ℕ) → E ts x n → (rest : List T) → G (ts ++ rest)) where
  -- It begins as an operand does.
  pub chained_first : {ts : List T} {x : A} {n : ℕ} → Chained sign two E ts x n → (rest : List T) → G (ts ++ rest)
  chained_first (Chained.one {inside = ts} {inner = x} {count = n} h) rest = first ts x n h rest
  chained_first (Chained.pair {front = a} {back = b} t p q r) rest = subst G (sym (append_assoc a (t ∷ b) rest)) (chained_first p ((t ∷ b) ++ rest))

module _ {T A O : Type 0} (sign : ℕ → T → Option O) (two : O → A → A → A) (E : List T → A → ℕ → Type 0) (G : List T → Type 0) (first : (ts : List T) (x : A) (n : ℕ) → E ts x n → (rest : List T) → G (ts ++ rest)) where
  pub levels_first : (l : ℕ) (ts : List T) (x : A) (n : ℕ) → Levels sign two E l ts x n → (rest : List T) → G (ts ++ rest)
  levels_first zero ts x n h rest = first ts x n h rest
  levels_first (suc l) ts x n h rest = chained_first (sign l) two (Levels sign two E l) G (levels_first l) h rest

-- ---- a table of signs

module _ {O : Type 0} where
  test_is : (l : ℕ) (q : O) (m : ℕ) (o : O) (v : Bool) → eqb m l ≡ v → cond v (Some q) None ≡ Some o → ◌≡◌ {A = Option (O × ℕ)} (Some (q, m)) (Some (o, l))
  test_is l q m o true e h = let same : m ≡ l = eqb-true m l e in cc
  test_is l q m o false e h = absurd cc

  -- What a level shows is in the table at this level.
  pub of_level_is : (l : ℕ) (q : Option (O × ℕ)) (o : O) → of_level l q ≡ Some o → q ≡ Some (o, l)
  of_level_is l None o h = absurd cc
  of_level_is l (Some p) o h = test_is l p.0 p.1 o (eqb p.1 l) refl h

  pub of_level_own : (l : ℕ) (o : O) → of_level l (Some (o, l)) ≡ Some o
  of_level_own l o = grind arith

  pub of_level_other : (i l : ℕ) (o : O) → i < l → of_level i (Some (o, l)) ≡ None
  of_level_other i l o h = grind arith

-- A sign is of one level.
pub signs_apart : {T O : Type 0} (binds : T → Option (O × ℕ)) (i l : ℕ) (t : T) (o : O) → sign_of binds l t ≡ Some o → i < l → sign_of binds i t ≡ None
signs_apart binds i l t o h k = ap (of_level i) (of_level_is l (binds t) o h) ∙ of_level_other i l o k
