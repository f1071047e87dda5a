-- Lists with commas: what was read is spelled so, what is spelled is read, and enough turns are enough.
use Rattle.std.proofs.Common.{◌≡◌, ℕ, ◌+◌, ◌-◌, ◌<◌, ◌≤◌, Bool, true, false, not, cond, List, [], ◌∷◌, ◌++◌, length, Ok, Err, refl, sym, ap, subst, ◌∙◌, append_assoc, arith}
use Rattle.std.proofs.lemmas.List.{append-nil, length-append}
use Rattle.gr_meets.specs.Parsers.{Outcome, Parser, and_then, ◌>>=◌, ◌>>◌, pure, sees, next, expect, halts, run, other, commas, separated, enclosed}
use Rattle.gr_meets.specs.LanguageWords.{Tests, Meets, Completes, Agree, Shortens, Takes}
use Rattle.gr_meets.specs.Lists.{Repeated, Separated, Enclosed}
use Rattle.gr_meets.specs.ListsWords.{Extends, Begins, Behind}
use Rattle.gr_meets.proofs.Meets.{weaken, meets_pure, expect_then, either_meets, bind_also}
use Rattle.gr_meets.proofs.Completes.{expect_reads, either_first, either_second, reads_then}
use Rattle.gr_meets.proofs.Agrees.{agree_bind, agree_self, agree_expect, agree_either}
use Rattle.gr_meets.proofs.Runs.{run_extends, run_reads, run_agree, run_end, run_go}

-- ---- one turn

pub halts_other : {T : Type 0} (is : T → Bool) (ts : List T) → halts (other is) ts ≡ not (sees is ts)
unfolding halts sees
halts_other is [] = refl
halts_other is (t ∷ ts) = refl

pub halts_where : {T : Type 0} (is : T → Bool) (ts : List T) → sees is ts ≡ false → halts (other is) ts ≡ true
halts_where is ts h = halts_other is ts ∙ ap not h

pub halts_not : {T : Type 0} (is : T → Bool) (ts : List T) → sees is ts ≡ true → halts (other is) ts ≡ false
halts_not is ts h = halts_other is ts ∙ ap not h

expect_seen : {T A : Type 0} (is : T → Bool) (p : Parser T A) (ts : List T) → sees is ts ≡ true → (expect is >> p) ts ≡ p (next ts)
unfolding expect
expect_seen is p ts h = ap (λ (v : Bool). and_then (cond v (Ok (tt {0}, next ts)) (Err (length ts))) (λ _. p)) h

module _ {T A : Type 0} (comma : T → Bool) (p : Parser T A) where
  pub commas_end : (n : ℕ) (xs : List A) (ts : List T) → sees comma ts ≡ false → 0 < n → commas comma p n xs ts ≡ Ok (xs, ts)
  unfolding commas
  commas_end n xs ts h k = run_end (other comma) (expect comma >> p) n xs ts (halts_where comma ts h) k

  pub commas_go : (n : ℕ) (xs : List A) (ts : List T) → sees comma ts ≡ true → 0 < n → commas comma p n xs ts ≡ and_then (p (next ts)) (λ x. commas comma p (n - 1) (xs ++ x ∷ []))
  unfolding commas
  commas_go n xs ts h k = run_go (other comma) (expect comma >> p) n xs ts (halts_not comma ts h) k ∙ ap (λ (o : Outcome T A). and_then o (λ x. run (other comma) (expect comma >> p) (n - 1) (xs ++ x ∷ []))) (expect_seen comma p ts h)

-- ---- what was read

module _ {T A : Type 0} (comma : T) (E : List T → A → Type 0) where
  joined : {b : List T} {ys : List A} → Repeated (Behind comma E) b ys → (a : List T) (x : A) → E a x → Separated comma E (a ++ b) (x ∷ ys)
  joined Repeated.none a x h = subst (λ (u : List T). Separated comma E u (x ∷ [])) (sym (append-nil a)) (Separated.last h)
  joined (Repeated.one_more {back = us} {first = y} {others = xs} (Behind.behind {ts} g) k) a x h = Separated.before h (joined k ts y g)

  listed : (x : A) (b : List T) (ys : List A) → Extends (Behind comma E) (x ∷ []) b ys → (a : List T) → E a x → Separated comma E (a ++ b) ys
  listed x b ys h a k = subst (Separated comma E (a ++ b)) (sym h.all) (joined h.spelled a x k)

  alone : (x : A) (a : List T) → E a x → Separated comma E (a ++ []) (x ∷ [])
  alone x a k = joined Repeated.none a x k

module _ {T A : Type 0} (is_comma : T → Bool) (comma : T) (test : Tests is_comma comma) (p : Parser T A) (E V : List T → A → Type 0) (m : Meets p E V) (also : (a : List T) (x : A) → E a x → V a x)
    (b : List T) (y : A) (some : V b y) where
  behind_meets : Meets (expect is_comma >> p) (Behind comma E) (Behind comma V)
  behind_meets = expect_then test (weaken m (λ c x h. Behind.behind h) (λ c x h. Behind.behind h)) b y (Behind.behind some)

  behind_also : (c : List T) (x : A) → Behind comma E c x → Behind comma V c x
  behind_also c x (Behind.behind h) = Behind.behind (also _ x h)

  separated_all : (n : ℕ) → Meets (separated is_comma p n) (Separated comma E) (Separated comma V)
  unfolding separated commas
  separated_all n = bind_also m also
      (λ x. weaken (run_extends (other is_comma) n (x ∷ []) behind_meets behind_also) (λ c ys h a k. listed comma E x c ys h a k) (λ c ys h a k. listed comma V x c ys h a k))
      (λ a x k. ([], x ∷ [], alone comma V x a k))

-- One element or more. The last three arguments: an element.
pub separated_also : {T A : Type 0} {is_comma : T → Bool} {comma : T} {p : Parser T A} {E V : List T → A → Type 0} → Tests is_comma comma → (n : ℕ) → Meets p E V → ((a : List T) (x : A) → E a x → V a x) → (b : List T) (y : A) → V b y
    → Meets (separated is_comma p n) (Separated comma E) (Separated comma V)
separated_also {is_comma} {comma} {p} {E} {V} test n m also b y some = separated_all is_comma comma test p E V m also b y some n

pub separated_meets : {T A : Type 0} {is_comma : T → Bool} {comma : T} {p : Parser T A} {E : List T → A → Type 0} → Tests is_comma comma → (n : ℕ) → Meets p E E → (b : List T) (y : A) → E b y
    → Meets (separated is_comma p n) (Separated comma E) (Separated comma E)
separated_meets test n m b y some = separated_also test n m (λ a x h. h) b y some

separated_wider : {T A : Type 0} {comma : T} {E V : List T → A → Type 0} (also : (a : List T) (x : A) → E a x → V a x) {ts : List T} {xs : List A} → Separated comma E ts xs → Separated comma V ts xs
separated_wider also (Separated.last {front = ts} {only = x} h) = Separated.last (also ts x h)
separated_wider also (Separated.before {front = ts} {first = x} h k) = Separated.before (also ts x h) (separated_wider also k)

-- Up to the closing token. The last three arguments: an element.
pub enclosed_also : {T A : Type 0} {is_close is_comma : T → Bool} {close comma : T} {p : Parser T A} {E V : List T → A → Type 0} → Tests is_close close → Tests is_comma comma → (n : ℕ) → Meets p E V → ((a : List T) (x : A) → E a x → V a x) → (b : List T) (y : A) → V b y
    → Meets (enclosed is_close is_comma p n) (Enclosed close comma E) (Enclosed close comma V)
unfolding enclosed
enclosed_also {close} closing test n m also b y some =
    either_meets closing (meets_pure Enclosed.empty)
    (bind_also (separated_also test n m also b y some) (λ a xs h. separated_wider also h)
    (λ xs. expect_then closing (meets_pure (λ a h. Enclosed.some h)) [] xs (λ a h. Enclosed.some h))
    (λ a xs h. (close ∷ [], xs, Enclosed.some h)))

pub enclosed_meets : {T A : Type 0} {is_close is_comma : T → Bool} {close comma : T} {p : Parser T A} {E : List T → A → Type 0} → Tests is_close close → Tests is_comma comma → (n : ℕ) → Meets p E E → (b : List T) (y : A) → E b y
    → Meets (enclosed is_close is_comma p n) (Enclosed close comma E) (Enclosed close comma E)
enclosed_meets closing test n m b y some = enclosed_also closing test n m (λ a x h. h) b y some

-- ---- what is spelled

record Cut {T A : Type 0} (comma : T) (E : List T → A → Type 0) (ts : List T) (xs : List A) : Type 0 where
  first : A
  others : List A
  front : List T
  back : List T
  parts : ts ≡ front ++ back
  all : xs ≡ first ∷ others
  one : E front first
  rest : Repeated (Behind comma E) back others

module _ {T A : Type 0} (comma : T) (E : List T → A → Type 0) where
  cut : {ts : List T} {xs : List A} → Separated comma E ts xs → Cut comma E ts xs
  cut (Separated.last {front = ts} {only = x} h) = record { first = x; others = []; front = ts; back = []; parts = sym (append-nil ts); all = refl; one = h; rest = Repeated.none }
  cut (Separated.before {front = ts} {back = us} {first = x} {others = xs} h k) = let c = cut k in record {
    first = x;
    others = xs;
    front = ts;
    back = comma ∷ us;
    parts = refl;
    all = refl;
    one = h;
    rest = subst (λ (u : List T). Repeated (Behind comma E) (comma ∷ u) xs) (sym c.parts) (subst (Repeated (Behind comma E) (comma ∷ (c.front ++ c.back))) (sym c.all) (Repeated.one_more (Behind.behind c.one) c.rest));
  }

module _ {T A : Type 0} (n : ℕ) (is_comma : T → Bool) (comma : T) (test : Tests is_comma comma) (p : Parser T A) (E : List T → A → Type 0) (F : List T → Type 0) (c : Completes n p E F) (follow : (rest : List T) → F (comma ∷ rest)) where
  behind_reads : (ts : List T) (x : A) → Behind comma E ts x → (rest : List T) → F rest → length (ts ++ rest) < n → (expect is_comma >> p) (ts ++ rest) ≡ Ok (x, rest)
  behind_reads ts x (Behind.behind {ts = us} h) rest f few = expect_reads test p (us ++ rest) (c.reads us x h rest f (omega (arith, few)))

  behind_completes : Completes n (expect is_comma >> p) (Behind comma E) F
  behind_completes = record { reads = behind_reads }

  behind_goes : (ts : List T) (x : A) → Behind comma E ts x → (rest : List T) → halts (other is_comma) (ts ++ rest) ≡ false
  unfolding halts
  behind_goes ts x (Behind.behind h) rest = ap not test.own

  behind_follows : (ts : List T) (x : A) → Behind comma E ts x → (rest : List T) → F (ts ++ rest)
  behind_follows ts x (Behind.behind {ts = us} h) rest = follow (us ++ rest)

  behind_begins : Begins (other is_comma) (Behind comma E) F
  behind_begins = record { goes = behind_goes; follows = behind_follows }

  back_follows : {ts : List T} {xs : List A} → Repeated (Behind comma E) ts xs → (rest : List T) → F rest → F (ts ++ rest)
  back_follows Repeated.none rest f = f
  back_follows (Repeated.one_more {back = us} (Behind.behind {ts} h) k) rest f = follow ((ts ++ us) ++ rest)

  separated_reads : (ts : List T) (xs : List A) → Separated comma E ts xs → (rest : List T) → F rest → sees is_comma rest ≡ false → length (ts ++ rest) < n → separated is_comma p n (ts ++ rest) ≡ Ok (xs, rest)
  unfolding separated commas
  separated_reads ts xs h rest f no_more few =
      let k = cut comma E h in
      let fewer : length ((k.front ++ k.back) ++ rest) < n = subst (λ (u : List T). length (u ++ rest) < n) k.parts few in
      let size : length ((k.front ++ k.back) ++ rest) ≡ length k.front + length (k.back ++ rest) = ap length (append_assoc k.front k.back rest) ∙ length-append k.front (k.back ++ rest) in
      let less : length (k.back ++ rest) < n = omega (arith, fewer, size) in
      ap (λ (u : List T). separated is_comma p n (u ++ rest)) k.parts
      ∙ reads_then c k.one k.back rest (back_follows k.rest rest f) fewer (λ x. commas is_comma p n (x ∷ []))
      (run_reads n (other is_comma) (expect is_comma >> p) (Behind comma E) F behind_completes behind_begins k.rest n (k.first ∷ []) rest f (halts_where is_comma rest no_more) less less)
      ∙ ap (λ (ys : List A). Ok (ys, rest)) (sym k.all)

-- A list with commas is read, in front of what may follow an element and is no comma.
pub separated_completes : {T A : Type 0} {n : ℕ} {is_comma : T → Bool} {comma : T} {p : Parser T A} {E : List T → A → Type 0} {F : List T → Type 0} → Tests is_comma comma → Completes n p E F → ((rest : List T) → F (comma ∷ rest))
    → Completes n (separated is_comma p n) (Separated comma E) (λ rest. F rest × sees is_comma rest ≡ false)
separated_completes {n} {is_comma} {comma} {p} {E} {F} test c follow = record { reads = λ ts xs h rest f few. separated_reads n is_comma comma test p E F c follow ts xs h rest f.0 f.1 few }

separated_begins : {T A : Type 0} (is : T → Bool) (comma : T) (E : List T → A → Type 0) → ((ts : List T) (x : A) → E ts x → (rest : List T) → sees is (ts ++ rest) ≡ false) → {ts : List T} {xs : List A} → Separated comma E ts xs → (rest : List T) → sees is (ts ++ rest) ≡ false
separated_begins is comma E first (Separated.last {front = ts} {only = x} h) rest = first ts x h rest
separated_begins is comma E first (Separated.before {front = ts} {back = us} {first = x} h k) rest = ap (sees is) (append_assoc ts (comma ∷ us) rest) ∙ first ts x h ((comma ∷ us) ++ rest)

module _ {T A : Type 0} (n : ℕ) (is_close is_comma : T → Bool) (close comma : T) (closing : Tests is_close close) (test : Tests is_comma comma) (p : Parser T A) (E : List T → A → Type 0) (F : List T → Type 0) (c : Completes n p E F)
    (follow : (rest : List T) → F (comma ∷ rest)) (ends : (rest : List T) → F (close ∷ rest)) (differ : is_comma close ≡ false) (first : (ts : List T) (x : A) → E ts x → (rest : List T) → sees is_close (ts ++ rest) ≡ false) where
  comma_unseen : (rest : List T) → sees is_comma (close ∷ rest) ≡ false
  unfolding sees
  comma_unseen rest = differ

  enclosed_reads : {ts : List T} {xs : List A} → Enclosed close comma E ts xs → (rest : List T) → length (ts ++ rest) < n → enclosed is_close is_comma p n (ts ++ rest) ≡ Ok (xs, rest)
  unfolding enclosed
  enclosed_reads Enclosed.empty rest few = either_first closing (pure []) (separated is_comma p n >>= λ xs. expect is_close >> pure xs) rest refl
  enclosed_reads (Enclosed.some {inside = ts} {found = xs} h) rest few =
      either_second is_close (pure []) (separated is_comma p n >>= λ xs. expect is_close >> pure xs) ((ts ++ close ∷ []) ++ rest)
      (ap (sees is_close) (append_assoc ts (close ∷ []) rest) ∙ separated_begins is_close comma E first h (close ∷ rest))
      (reads_then (separated_completes test c follow) h (close ∷ []) rest (ends rest, comma_unseen rest) few (λ xs. expect is_close >> pure xs) (expect_reads closing (pure xs) rest refl))

-- A closed list is read, in front of anything.
pub enclosed_completes : {T A : Type 0} {n : ℕ} {is_close is_comma : T → Bool} {close comma : T} {p : Parser T A} {E : List T → A → Type 0} {F : List T → Type 0} → Tests is_close close → Tests is_comma comma → Completes n p E F
    → ((rest : List T) → F (comma ∷ rest)) → ((rest : List T) → F (close ∷ rest)) → is_comma close ≡ false → ((ts : List T) (x : A) → E ts x → (rest : List T) → sees is_close (ts ++ rest) ≡ false)
    → Completes n (enclosed is_close is_comma p n) (Enclosed close comma E) (λ rest. Unit {0})
enclosed_completes {n} {is_close} {is_comma} {close} {comma} {p} {E} {F} closing test c follow ends differ first = record { reads = λ ts xs h rest f few. enclosed_reads n is_close is_comma close comma closing test p E F c follow ends differ first h rest few }

-- ---- enough turns

module _ {T A : Type 0} (is_comma : T → Bool) (p : Parser T A) where
  behind_less : (ts : List T) (x : A) (rest : List T) (v : Bool) → ((us : List T) (y : A) (r : List T) → p us ≡ Ok (y, r) → length r ≤ length us) → sees is_comma ts ≡ v → and_then (cond v (Ok (tt {0}, next ts)) (Err (length ts))) (λ _. p) ≡ Ok (x, rest) → length rest < length ts
  unfolding sees next
  behind_less [] x rest true less h e = absurd cc
  behind_less (t ∷ ts) x rest true less h e = let fewer = less ts x rest e in omega (arith, fewer)
  behind_less ts x rest false less h e = absurd cc

  behind_takes : Shortens p → Takes (expect is_comma >> p)
  unfolding expect
  behind_takes s = record { less = λ ts x rest e. behind_less ts x rest (sees is_comma ts) s.less refl e }

pub separated_agree : {T A : Type 0} {n m : ℕ} {p q : Parser T A} (is_comma : T → Bool) → Agree n m p q → Shortens p → Agree n m (separated is_comma p n) (separated is_comma q m)
unfolding separated commas
separated_agree {p} is_comma same s = agree_bind same s (λ x. run_agree (other is_comma) (x ∷ []) (agree_expect is_comma same) (behind_takes is_comma p s))

-- What a list with commas leaves is no more than it was given: shortens of its Meets says so.
pub enclosed_agree : {T A : Type 0} {n m : ℕ} {p q : Parser T A} (is_close is_comma : T → Bool) → Agree n m p q → Shortens p → Shortens (separated is_comma p n) → Agree n m (enclosed is_close is_comma p n) (enclosed is_close is_comma q m)
unfolding enclosed
enclosed_agree is_close is_comma same s list = agree_either is_close (agree_self {p = pure []}) (agree_bind (separated_agree is_comma same s) list (λ xs. agree_self {p = expect is_close >> pure xs}))
