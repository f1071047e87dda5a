-- Runs of elements: what was read is spelled so, what is spelled is read, and enough turns are enough.
use Rattle.std.proofs.Common.{◌≡◌, ℕ, zero, suc, ◌+◌, ◌-◌, ◌<◌, Bool, true, false, cond, List, [], ◌∷◌, ◌++◌, length, Ok, Err, refl, sym, ap, subst, ◌∙◌, append_assoc, arith}
use Rattle.std.proofs.lemmas.List.{append-nil, length-append}
use Rattle.gr_meets.specs.Parsers.{Outcome, Parser, and_then, ◌>>=◌, halts, run}
use Rattle.gr_meets.specs.LanguageWords.{Alike, Read, Meets, Completes, Agree, Takes}
use Rattle.gr_meets.specs.Lists.{Repeated}
use Rattle.gr_meets.specs.ListsWords.{Extends, Begins}
use Rattle.gr_meets.proofs.Meets.{weaken, meets_pure, meets_refuse, branch, bind_also}

pub halts-alike : {T : Type 0} (stop : T → Bool) (a b : List T) → Alike a b → halts stop a ≡ halts stop b
unfolding halts
halts-alike stop [] [] h = refl
halts-alike stop [] (u ∷ b) h = absurd h
halts-alike stop (t ∷ a) [] h = absurd h
halts-alike stop (t ∷ a) (u ∷ b) h = ap stop h

extends_none : {T A : Type 0} {E : List T → A → Type 0} {xs : List A} → Extends E xs [] xs
extends_none {xs} = record { new = []; spelled = Repeated.none; all = sym (append-nil xs) }

extends_more : {T A : Type 0} {E : List T → A → Type 0} {xs ys : List A} {b : List T} (a : List T) (x : A) → E a x → Extends E (xs ++ x ∷ []) b ys → Extends E xs (a ++ b) ys
extends_more {xs} a x h k = record { new = x ∷ k.new; spelled = Repeated.one_more h k.spelled; all = k.all ∙ append_assoc xs (x ∷ []) k.new }

extends_first : {T A : Type 0} {E : List T → A → Type 0} {b : List T} {ys : List A} → Extends E [] b ys → Repeated E b ys
extends_first {E} {b} h = subst (Repeated E b) (sym h.all) h.spelled

-- ---- what was read

module _ {T A : Type 0} (stop : T → Bool) (p : Parser T A) (E V : List T → A → Type 0) (m : Meets p E V) (also : (a : List T) (x : A) → E a x → V a x) where
  run_way : ℕ → List A → Bool → Parser T (List A)
  run_way n xs v = λ ts. cond v (Ok (xs, ts)) ((p >>= λ x. run stop p n (xs ++ x ∷ [])) ts)

  pub run_all : (n : ℕ) (xs : List A) → Meets (run stop p n xs) (Extends E xs) (Extends V xs)
  unfolding run run_way
  run_all zero xs = meets_refuse [] xs extends_none
  run_all (suc n) xs = branch (halts stop) (halts-alike stop) (run_way n xs) (Extends E xs) (Extends V xs)
      (λ v. elim v as (λ (w : Bool). (ts : List T) → halts stop ts ≡ w → Read (run_way n xs w) (Extends E xs) (Extends V xs) ts (run_way n xs w ts)) [
        | true ↦ λ ts h. (meets_pure {L = Extends E xs} {W = Extends V xs} extends_none).at ts
        | false ↦ λ ts h. (bind_also {K = Extends E xs} {W = Extends V xs} m also
            (λ x. weaken (run_all n (xs ++ x ∷ [])) (λ b y g a k. extends_more a x k g) (λ b y g a k. extends_more a x k g))
            (λ a x k. ([], xs ++ x ∷ [], extends_more a x k extends_none))).at ts
      ])

-- A run behind elements that were read before.
pub run_extends : {T A : Type 0} {p : Parser T A} {E V : List T → A → Type 0} (stop : T → Bool) (n : ℕ) (xs : List A) → Meets p E V → ((a : List T) (x : A) → E a x → V a x) → Meets (run stop p n xs) (Extends E xs) (Extends V xs)
run_extends {p} {E} {V} stop n xs m also = run_all stop p E V m also n xs

pub run_also : {T A : Type 0} {p : Parser T A} {E V : List T → A → Type 0} (stop : T → Bool) (n : ℕ) → Meets p E V → ((a : List T) (x : A) → E a x → V a x) → Meets (run stop p n []) (Repeated E) (Repeated V)
run_also {p} {E} {V} stop n m also = weaken (run_all stop p E V m also n []) (λ b y h. extends_first h) (λ b y h. extends_first h)

pub run_meets : {T A : Type 0} {p : Parser T A} {E : List T → A → Type 0} (stop : T → Bool) (n : ℕ) → Meets p E E → Meets (run stop p n []) (Repeated E) (Repeated E)
run_meets stop n m = run_also stop n m (λ a x h. h)

-- ---- one turn

module _ {T A : Type 0} (stop : T → Bool) (p : Parser T A) where
  pub run_end : (n : ℕ) (xs : List A) (ts : List T) → halts stop ts ≡ true → 0 < n → run stop p n xs ts ≡ Ok (xs, ts)
  unfolding run
  run_end zero xs ts h k = absurd (omega (arith, k))
  run_end (suc n) xs ts h k = ap (λ (v : Bool). cond v (Ok (xs, ts)) (and_then (p ts) (λ x. run stop p n (xs ++ x ∷ [])))) h

  pub run_go : (n : ℕ) (xs : List A) (ts : List T) → halts stop ts ≡ false → 0 < n → run stop p n xs ts ≡ and_then (p ts) (λ x. run stop p (n - 1) (xs ++ x ∷ []))
  unfolding run
  run_go zero xs ts h k = absurd (omega (arith, k))
  run_go (suc n) xs ts h k = let one : suc n - 1 ≡ n = omega arith in
      ap (λ (v : Bool). cond v (Ok (xs, ts)) (and_then (p ts) (λ x. run stop p n (xs ++ x ∷ [])))) h ∙ sym (ap (λ (m : ℕ). and_then (p ts) (λ x. run stop p m (xs ++ x ∷ []))) one)

-- ---- where a run ended

module _ {T A : Type 0} (stop : T → Bool) (p : Parser T A) where
  abbrev Ends : ℕ → Type 0
  Ends n = (xs ys : List A) (ts rest : List T) → run stop p n xs ts ≡ Ok (ys, rest) → halts stop rest ≡ true

  ended : (n : ℕ) → Ends n → (xs ys : List A) (ts rest : List T) (v : Bool) (o : Outcome T A) → halts stop ts ≡ v → cond v (Ok (xs, ts)) (and_then o (λ x. run stop p n (xs ++ x ∷ []))) ≡ Ok (ys, rest) → halts stop rest ≡ true
  ended n go xs ys ts rest true o h e = let pair : ◌≡◌ {A = List A × List T} (xs, ts) (ys, rest) = cc in subst (λ (u : List T). halts stop u ≡ true) (ap (λ z. z.1) pair) h
  ended n go xs ys ts rest false (Ok z) h e = go (xs ++ z.0 ∷ []) ys z.1 rest e
  ended n go xs ys ts rest false (Err i) h e = absurd cc

  pub run_ends : (n : ℕ) → Ends n
  unfolding run
  run_ends zero xs ys ts rest e = absurd cc
  run_ends (suc n) xs ys ts rest e = ended n (run_ends n) xs ys ts rest (halts stop ts) (p ts) refl e

none_left : {T : Type 0} (stop : T → Bool) → ((t : T) → stop t ≡ false) → (us : List T) → halts stop us ≡ true → us ≡ []
unfolding halts
none_left stop never [] h = refl
none_left stop never (t ∷ us) h = absurd (let e = never t in cc)

-- A run that halts at no token takes all of them.
pub run_takes_all : {T A : Type 0} (stop : T → Bool) (p : Parser T A) (n : ℕ) (xs ys : List A) (ts rest : List T) → ((t : T) → stop t ≡ false) → run stop p n xs ts ≡ Ok (ys, rest) → rest ≡ []
run_takes_all stop p n xs ys ts rest never e = none_left stop never rest (run_ends stop p n xs ys ts rest e)

-- ---- what is spelled

module _ {T A : Type 0} (n : ℕ) (stop : T → Bool) (p : Parser T A) (E : List T → A → Type 0) (F : List T → Type 0) (c : Completes n p E F) (begins : Begins stop E F) where
  follows : {ts : List T} {xs : List A} → Repeated E ts xs → (rest : List T) → F rest → F (ts ++ rest)
  follows Repeated.none rest f = f
  follows (Repeated.one_more {front = ts} {back = us} {first = x} h k) rest f = subst F (sym (append_assoc ts us rest)) (begins.follows ts x h (us ++ rest))

  has_token : (ts : List T) (x : A) → E ts x → 0 < length ts
  unfolding halts
  has_token [] x h = absurd (let e = begins.goes [] x h [] in cc)
  has_token (t ∷ ts) x h = omega arith

  pub run_reads : {ts : List T} {xs : List A} → Repeated E ts xs → (m : ℕ) (ys : List A) (rest : List T) → F rest → halts stop rest ≡ true → length (ts ++ rest) < n → length (ts ++ rest) < m → run stop p m ys (ts ++ rest) ≡ Ok (ys ++ xs, rest)
  run_reads Repeated.none m ys rest f h few enough = run_end stop p m ys rest h (omega (arith, enough)) ∙ ap (λ (zs : List A). Ok (zs, rest)) (sym (append-nil ys))
  run_reads (Repeated.one_more {front = ts} {back = us} {first = x} {others = xs} e k) m ys rest f h few enough =
      let cut : (ts ++ us) ++ rest ≡ ts ++ (us ++ rest) = append_assoc ts us rest in
      let size : length ((ts ++ us) ++ rest) ≡ length ts + length (us ++ rest) = ap length cut ∙ length-append ts (us ++ rest) in
      let some : 0 < length ts = has_token ts x e in
      let first : p (ts ++ (us ++ rest)) ≡ Ok (x, us ++ rest) = c.reads ts x e (us ++ rest) (follows k rest f) (subst (λ (u : List T). length u < n) cut few) in
      ap (run stop p m ys) cut
      ∙ run_go stop p m ys (ts ++ (us ++ rest)) (begins.goes ts x e (us ++ rest)) (omega (arith, enough))
      ∙ ap (λ (o : Outcome T A). and_then o (λ z. run stop p (m - 1) (ys ++ z ∷ []))) first
      ∙ run_reads k (m - 1) (ys ++ x ∷ []) rest f h (omega (arith, few, size)) (omega (arith, enough, size, some))
      ∙ ap (λ (zs : List A). Ok (zs, rest)) (append_assoc ys (x ∷ []) xs)

-- A run reads what is spelled, in front of what may follow an element and halts the run.
pub run_completes : {T A : Type 0} {n : ℕ} {stop : T → Bool} {p : Parser T A} {E : List T → A → Type 0} {F : List T → Type 0} → Completes n p E F → Begins stop E F → Completes n (run stop p n []) (Repeated E) (λ rest. F rest × halts stop rest ≡ true)
run_completes {n} {stop} {p} {E} {F} c begins = record { reads = λ ts xs h rest f few. run_reads n stop p E F c begins h n [] rest f.0 f.1 few few }

-- ---- enough turns

module _ {T A : Type 0} (n m : ℕ) (stop : T → Bool) (p q : Parser T A) (same : Agree n m p q) (takes : Takes p) where
  abbrev Loop : ℕ → ℕ → Type 0
  Loop a b = (xs : List A) (ts : List T) → length ts < a → length ts < b → length ts < n → length ts < m → run stop p a xs ts ≡ run stop q b xs ts

  turn_same : (a b : ℕ) → Loop a b → (xs : List A) (ts : List T) → length ts < suc a → length ts < suc b → length ts < n → length ts < m → (o : Outcome T A) → p ts ≡ o
      → and_then o (λ x. run stop p a (xs ++ x ∷ [])) ≡ and_then o (λ x. run stop q b (xs ++ x ∷ []))
  turn_same a b go xs ts h k l r (Err e) is = refl
  turn_same a b go xs ts h k l r (Ok z) is = let less = takes.less ts z.0 z.1 is in go (xs ++ z.0 ∷ []) z.1 (omega (arith, less)) (omega (arith, less)) (omega (arith, less)) (omega (arith, less))

  run_same : (a b : ℕ) → Loop a b
  unfolding run
  run_same zero b xs ts h k l r = absurd (omega arith)
  run_same (suc a) zero xs ts h k l r = absurd (omega arith)
  run_same (suc a) (suc b) xs ts h k l r =
      ap (λ (o : Outcome T (List A)). cond (halts stop ts) (Ok (xs, ts)) o)
      (turn_same a b (run_same a b) xs ts h k l r (p ts) refl ∙ ap (λ (o : Outcome T A). and_then o (λ x. run stop q b (xs ++ x ∷ []))) (same.same ts l r))

-- Enough turns are enough.
pub run_agree : {T A : Type 0} {n m : ℕ} {p q : Parser T A} (stop : T → Bool) (xs : List A) → Agree n m p q → Takes p → Agree n m (run stop p n xs) (run stop q m xs)
run_agree {n} {m} {p} {q} stop xs same takes = record { same = λ ts h k. run_same n m stop p q same takes n m xs ts h k h k }
