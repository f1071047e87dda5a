-- Where an exact parser stops, the first fault is, and nowhere else.
use Rattle.std.proofs.Common.{◌≡◌, ℕ, suc, ◌+◌, ◌<◌, ◌≤◌, List, [], ◌∷◌, ◌++◌, length, Ok, Err, refl, sym, ap, subst, ◌∙◌, append_assoc, arith}
use Rattle.std.proofs.lemmas.List.{append-nil, append_cancel_left, length-append}
use Rattle.gr_meets.specs.Parsers.{Outcome, Parser}
use Rattle.gr_meets.specs.LanguageWords.{Alike, Exact}
use Rattle.gr_meets.specs.Faults.{Continues, IsRefused, FirstFault}
use Rattle.gr_meets.proofs.Meets.{took, stopped}

-- Two ways to cut the same list, with as much behind.
pub same_cut : {T : Type 0} (a b f r : List T) → a ++ b ≡ f ++ r → length b ≡ length r → a ≡ f
same_cut [] b [] r e h = refl
same_cut [] b (u ∷ f) r e h = absurd (omega (arith, h, ap length e, length-append f r))
same_cut (t ∷ a) b [] r e h = absurd (omega (arith, h, ap length e, length-append a b))
same_cut (t ∷ a) b (u ∷ f) r e h = let heads : t ≡ u = cc in let tails : a ++ b ≡ f ++ r = cc in let k : a ≡ f = same_cut a b f r tails h in cc

data Compare {T : Type 0} (a g : List T) : Type 0 where
  begins : (more : List T) → g ≡ a ++ more → Compare a g
  shorter : length g < length a → Compare a g

one_more : {T : Type 0} (t u : T) (a g : List T) → t ≡ u → Compare a g → Compare (t ∷ a) (u ∷ g)
one_more t u a g e (Compare.begins more h) = Compare.begins more cc
one_more t u a g e (Compare.shorter h) = Compare.shorter (omega (arith, h))

-- Of two fronts of one list, one begins the other.
compare : {T : Type 0} (a r g s : List T) → a ++ r ≡ g ++ s → Compare a g
compare [] r g s e = Compare.begins g refl
compare (t ∷ a) r [] s e = Compare.shorter (omega arith)
compare (t ∷ a) r (u ∷ g) s e = let heads : t ≡ u = cc in let tails : a ++ r ≡ g ++ s = cc in one_more t u a g heads (compare a r g s tails)

-- ---- faults of a language

module _ {T A : Type 0} (W : List T → A → Type 0) where
  refused_whole : (front rest : List T) (x : A) → IsRefused W front rest → W (front ++ rest) x → ⊥
  refused_whole front [] x no_more h = no_more x (subst (λ (u : List T). W u x) (append-nil front) h)
  refused_whole front (t ∷ rest) x no_more h = no_more (rest, x, subst (λ (u : List T). W u x) (sym (append_assoc front (t ∷ []) rest)) h)

  -- A text that is spelled in the language has no fault.
  pub no_fault : (ts : List T) (left : ℕ) (x : A) → FirstFault W ts left → W ts x → ⊥
  no_fault ts left x fault h = refused_whole fault.front fault.rest x fault.refused (subst (λ (u : List T). W u x) fault.parts h)

  -- What begins what continues continues.
  continues_front : (a b : List T) → Continues W (a ++ b) → Continues W a
  continues_front a b h = (b ++ h.0, h.1, subst (λ (u : List T). W u h.1) (append_assoc a b h.0) h.2)

  past : (f g : List T) (t : T) → Compare (f ++ t ∷ []) g → (Continues W (f ++ t ∷ []) → ⊥) → Continues W g → length g ≤ length f
  past f g t (Compare.begins more e) no_more h = absurd (no_more (continues_front (f ++ t ∷ []) more (subst (Continues W) e h)))
  past f g t (Compare.shorter less) no_more h = omega (arith, less, length-append f (t ∷ []))

  -- What continues ends where nothing goes on at the latest.
  not_longer : (f r g s : List T) → f ++ r ≡ g ++ s → IsRefused W f r → Continues W g → length g ≤ length f
  not_longer f [] g s e no_more h = omega (arith, ap length e, length-append f [], length-append g s, ap length (append-nil f))
  not_longer f (t ∷ r) g s e no_more h = past f g t (compare (f ++ t ∷ []) r g s (append_assoc f (t ∷ []) r ∙ e)) no_more h

  -- At most one place is the first fault.
  pub only_one : (ts : List T) (i j : ℕ) → FirstFault W ts i → FirstFault W ts j → i ≡ j
  only_one ts i j h k =
      let one = not_longer h.front h.rest k.front k.rest (sym h.parts ∙ k.parts) h.refused k.before in
      let other = not_longer k.front k.rest h.front h.rest (sym k.parts ∙ h.parts) k.refused h.before in
      omega (arith, h.place, k.place, one, other, ap length h.parts, ap length k.parts, length-append h.front h.rest, length-append k.front k.rest)

-- ---- exact parsers

module _ {T A : Type 0} {P : ℕ → Parser T A} {W : List T → A → Type 0} (exact : Exact P W) where
  -- What it reads is spelled so.
  pub found : (n : ℕ) (ts : List T) (x : A) (rest : List T) → P n ts ≡ Ok (x, rest) → W ts x
  found n ts x rest e =
      let h = took (exact.meets n) ts x rest e in
      subst (λ (u : List T). W u x) (sym (h.parts ∙ ap (λ (u : List T). h.front ++ u) (exact.ends n ts x rest e) ∙ append-nil h.front)) h.spelled

  -- At most one thing is spelled by a text.
  pub only : (ts : List T) (x y : A) → W ts x → W ts y → x ≡ y
  only ts x y h k =
      let n : ℕ = suc (length ts) in
      let one : P n ts ≡ Ok (x, []) = exact.reads n ts x h (omega arith) in
      let other : P n ts ≡ Ok (y, []) = exact.reads n ts y k (omega arith) in
      let pair : ◌≡◌ {A = A × List T} (x, []) (y, []) = cc in
      ap (λ z. z.0) pair

  -- With as many turns as the longer text wants.
  refuses : (plenty : ℕ) (ts front rest : List T) (left : ℕ) → ts ≡ front ++ rest → left ≡ length rest → length ts < plenty → P plenty ts ≡ Err left → (r : List T) → Alike rest r → (x : A) → W (front ++ r) x → ⊥
  refuses plenty ts front rest left parts place few e r alike x h =
      let n : ℕ = suc (length ts + length (front ++ r)) in
      let err : P n ts ≡ Err left = (exact.agree n plenty).same ts (omega arith) few ∙ e in
      let s = stopped (exact.meets n) ts left err in
      let f : s.front ≡ front = same_cut s.front s.rest front rest (sym s.parts ∙ parts) (sym s.left ∙ place) in
      let b : s.rest ≡ rest = append_cancel_left front s.rest rest (ap (λ (u : List T). u ++ s.rest) (sym f) ∙ sym s.parts ∙ parts) in
      let again : P n (front ++ r) ≡ Err (length r) = ap (λ (u : List T). P n (u ++ r)) (sym f) ∙ s.again r (subst (λ (u : List T). Alike u r) (sym b) alike) in
      let ok : P n (front ++ r) ≡ Ok (x, []) = exact.reads n (front ++ r) x h (omega arith) in
      cc

  is_refused : (plenty : ℕ) (ts front rest : List T) (left : ℕ) → ts ≡ front ++ rest → left ≡ length rest → length ts < plenty → P plenty ts ≡ Err left → IsRefused W front rest
  is_refused plenty ts front [] left parts place few e = λ x h. refuses plenty ts front [] left parts place few e [] tt x (subst (λ (u : List T). W u x) (sym (append-nil front)) h)
  is_refused plenty ts front (t ∷ rest) left parts place few e = λ h.
      refuses plenty ts front (t ∷ rest) left parts place few e (t ∷ h.0) refl h.1 (subst (λ (u : List T). W u h.1) (append_assoc front (t ∷ []) h.0) h.2)

  -- Where it stops, the first fault is.
  pub first_fault : (n : ℕ) (ts : List T) (left : ℕ) → length ts < n → P n ts ≡ Err left → FirstFault W ts left
  first_fault n ts left few e =
      let s = stopped (exact.meets n) ts left e in
      record { front = s.front; rest = s.rest; parts = s.parts; place = s.left; before = (s.more, s.whole, s.spelled); refused = is_refused n ts s.front s.rest left s.parts s.left few e }

  same_fault : (n : ℕ) (ts : List T) (left : ℕ) → length ts < n → FirstFault W ts left → (o : Outcome T A) → P n ts ≡ o → o ≡ Err left
  same_fault n ts left few h (Ok z) e = absurd (no_fault W ts left z.0 h (found n ts z.0 z.1 e))
  same_fault n ts left few h (Err i) e = ap (λ (k : ℕ). Err k) (only_one W ts i left (first_fault n ts i few e) h)

  -- It stops where the first fault is.
  pub stops : (n : ℕ) (ts : List T) (left : ℕ) → length ts < n → FirstFault W ts left → P n ts ≡ Err left
  stops n ts left few h = same_fault n ts left few h (P n ts) refl
