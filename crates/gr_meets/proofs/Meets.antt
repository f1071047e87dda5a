-- What meets a language, combinator by combinator.
use Rattle.std.proofs.Common.{◌≡◌, ℕ, Bool, true, false, cond, List, [], ◌∷◌, ◌++◌, length, Option, Some, None, Ok, Err, refl, sym, ap, subst, ◌∙◌, append_assoc}
use Rattle.gr_meets.specs.Parsers.{Outcome, Parser, and_then, ◌>>=◌, ◌>>◌, pure, skip, refuse, sees, peek, next, expect, either, look, value, take_meaning}
use Rattle.gr_meets.specs.LanguageWords.{Alike, Tests, Heads, Took, Stopped, Read, Meets}

pub alike-append : {T : Type 0} (front a b : List T) → Alike a b → Alike (front ++ a) (front ++ b)
alike-append [] a b h = h
alike-append (t ∷ front) a b h = refl

module _ {T A : Type 0} (P : Parser T A) (L W L' W' : List T → A → Type 0) (l : (ts : List T) (x : A) → L ts x → L' ts x) (w : (ts : List T) (x : A) → W ts x → W' ts x) where
  weaken_read : (ts : List T) (o : Outcome T A) → Read P L W ts o → Read P L' W' ts o
  weaken_read ts (Ok p) h = record { front = h.front; parts = h.parts; spelled = l h.front p.0 h.spelled; again = h.again }
  weaken_read ts (Err n) h = record { front = h.front; rest = h.rest; parts = h.parts; left = h.left; more = h.more; whole = h.whole; spelled = w (h.front ++ h.more) h.whole h.spelled; again = h.again }

  weaken_all : Meets P L W → Meets P L' W'
  weaken_all m = record { at = λ ts. weaken_read ts (P ts) (m.at ts) }

-- The same parser, for larger languages.
pub weaken : {T A : Type 0} {P : Parser T A} {L W L' W' : List T → A → Type 0} → Meets P L W → ((ts : List T) (x : A) → L ts x → L' ts x) → ((ts : List T) (x : A) → W ts x → W' ts x) → Meets P L' W'
weaken {P} {L} {W} {L'} {W'} m l w = weaken_all P L W L' W' l w m

same_read : {T A : Type 0} (P Q : Parser T A) (L W : List T → A → Type 0) → ((ts : List T) → P ts ≡ Q ts) → (ts : List T) (o : Outcome T A) → Read P L W ts o → Read Q L W ts o
same_read P Q L W same ts (Ok p) h = record { front = h.front; parts = h.parts; spelled = h.spelled; again = λ r a. sym (same (h.front ++ r)) ∙ h.again r a }
same_read P Q L W same ts (Err n) h = record { front = h.front; rest = h.rest; parts = h.parts; left = h.left; more = h.more; whole = h.whole; spelled = h.spelled; again = λ r a. sym (same (h.front ++ r)) ∙ h.again r a }

-- The same parser, told otherwise.
pub meets_same : {T A : Type 0} {P Q : Parser T A} {L W : List T → A → Type 0} → ((ts : List T) → P ts ≡ Q ts) → Meets P L W → Meets Q L W
meets_same {P} {Q} {L} {W} same m = record { at = λ ts. same_read P Q L W same ts (Q ts) (subst (Read P L W ts) (same ts) (m.at ts)) }

pub meets_pure : {T A : Type 0} {x : A} {L W : List T → A → Type 0} → L [] x → Meets (pure x) L W
meets_pure h = record { at = λ ts. record { front = []; parts = refl; spelled = h; again = λ r a. refl } }

-- Refusal here, where more would begin x.
pub read_refuse : {T A : Type 0} (L W : List T → A → Type 0) (ts more : List T) (x : A) → W more x → Read {A = A} refuse L W ts (Err (length ts))
read_refuse L W ts more x h = record { front = []; rest = ts; parts = refl; left = refl; more = more; whole = x; spelled = h; again = λ r a. refl }

pub meets_refuse : {T A : Type 0} {L W : List T → A → Type 0} (more : List T) (x : A) → W more x → Meets refuse L W
meets_refuse {L} {W} more x h = record { at = λ ts. read_refuse L W ts more x h }

-- ---- a choice by the next token

module _ {T A X : Type 0} (f : List T → X) (same : (a b : List T) → Alike a b → f a ≡ f b) (k : X → Parser T A) (L W : List T → A → Type 0) where
  branch_read : (x : X) (ts : List T) → f ts ≡ x → (o : Outcome T A) → Read (k x) L W ts o → Read (λ us. k (f us) us) L W ts o
  branch_read x ts e (Ok p) h = record {
    front = h.front;
    parts = h.parts;
    spelled = h.spelled;
    again = λ r a. let s : f (h.front ++ r) ≡ x = sym (ap f h.parts ∙ same (h.front ++ p.1) (h.front ++ r) (alike-append h.front p.1 r a)) ∙ e in
        ap (λ (y : X). k y (h.front ++ r)) s ∙ h.again r a;
  }
  branch_read x ts e (Err n) h = record {
    front = h.front;
    rest = h.rest;
    parts = h.parts;
    left = h.left;
    more = h.more;
    whole = h.whole;
    spelled = h.spelled;
    again = λ r a. let s : f (h.front ++ r) ≡ x = sym (ap f h.parts ∙ same (h.front ++ h.rest) (h.front ++ r) (alike-append h.front h.rest r a)) ∙ e in
        ap (λ (y : X). k y (h.front ++ r)) s ∙ h.again r a;
  }

  -- A choice by whatever depends on the next token alone.
  pub branch : ((x : X) (ts : List T) → f ts ≡ x → Read (k x) L W ts (k x ts)) → Meets (λ us. k (f us) us) L W
  branch h = record { at = λ ts. branch_read (f ts) ts refl (k (f ts) ts) (h (f ts) ts refl) }

pub sees-alike : {T : Type 0} (is : T → Bool) (a b : List T) → Alike a b → sees is a ≡ sees is b
unfolding sees
sees-alike is [] [] h = refl
sees-alike is [] (u ∷ b) h = absurd h
sees-alike is (t ∷ a) [] h = absurd h
sees-alike is (t ∷ a) (u ∷ b) h = ap is h

pub peek-alike : {T X : Type 0} (f : T → Option X) (a b : List T) → Alike a b → peek f a ≡ peek f b
unfolding peek
peek-alike f [] [] h = refl
peek-alike f [] (u ∷ b) h = absurd h
peek-alike f (t ∷ a) [] h = absurd h
peek-alike f (t ∷ a) (u ∷ b) h = ap f h

-- A choice by what the next token means.
pub look_meets : {T X A : Type 0} (f : T → Option X) (k : Option X → Parser T A) {L W : List T → A → Type 0}
    → ((x : Option X) (ts : List T) → peek f ts ≡ x → Read (k x) L W ts (k x ts)) → Meets (look f k) L W
look_meets f k {L} {W} h = branch (peek f) (peek-alike f) k L W h

-- ---- the next token is this one

pub sees_heads : {T : Type 0} {is : T → Bool} {t : T} → Tests is t → (ts : List T) → sees is ts ≡ true → Heads t ts
unfolding sees next
sees_heads test [] h = absurd cc
sees_heads test (u ∷ ts) h = record { is = ap (λ q. q ∷ ts) (test.only u h) }

pub record Means {T X : Type 0} (f : T → Option X) (x : X) (ts : List T) : Type 0 where
  pub token : T
  pub means : f token ≡ Some x
  pub heads : Heads token ts

pub peek_means : {T X : Type 0} (f : T → Option X) (x : X) (ts : List T) → peek f ts ≡ Some x → Means f x ts
unfolding peek next
peek_means f x [] h = absurd cc
peek_means f x (u ∷ ts) h = record { token = u; means = h; heads = record { is = refl } }

module _ {T A : Type 0} (t : T) (p : Parser T A) (K W : List T → A → Type 0) where
  skip_read : (ts : List T) → ts ≡ t ∷ next ts → (o : Outcome T A) → Read p (λ b y. K (t ∷ b) y) (λ b y. W (t ∷ b) y) (next ts) o → Read (skip >> p) K W ts o
  unfolding next
  skip_read ts e (Ok q) h = record {
    front = t ∷ h.front;
    parts = e ∙ ap (λ b. t ∷ b) h.parts;
    spelled = h.spelled;
    again = h.again;
  }
  skip_read ts e (Err n) h = record {
    front = t ∷ h.front;
    rest = h.rest;
    parts = e ∙ ap (λ b. t ∷ b) h.parts;
    left = h.left;
    more = h.more;
    whole = h.whole;
    spelled = h.spelled;
    again = h.again;
  }

  -- The token is taken, and p goes on.
  pub skip_then : (ts : List T) → Heads t ts → Meets p (λ b y. K (t ∷ b) y) (λ b y. W (t ∷ b) y) → Read (skip >> p) K W ts ((skip >> p) ts)
  skip_then ts h m = skip_read ts h.is (p (next ts)) (m.at (next ts))

module _ {T A : Type 0} (is : T → Bool) (t : T) (test : Tests is t) (p : Parser T A) (K W : List T → A → Type 0) (m : Meets p (λ b y. K (t ∷ b) y) (λ b y. W (t ∷ b) y))
    (b : List T) (y : A) (some : W (t ∷ b) y) where
  expect_way : Bool → Parser T A
  expect_way true = skip >> p
  expect_way false = refuse

  expect_read : (v : Bool) (ts : List T) → sees is ts ≡ v → Read (expect_way v) K W ts (expect_way v ts)
  unfolding expect_way
  expect_read true ts e = skip_then t p K W ts (sees_heads test ts e) m
  expect_read false ts e = read_refuse K W ts (t ∷ b) y some

  expect_is : (ts : List T) → expect_way (sees is ts) ts ≡ (expect is >> p) ts
  unfolding expect_way expect
  expect_is ts = elim (sees is ts) as (λ (v : Bool). expect_way v ts ≡ and_then (cond v (Ok (tt, next ts)) (Err (length ts))) (λ _. p)) [ true ↦ refl | false ↦ refl ]

  expect_all : Meets (expect is >> p) K W
  expect_all = meets_same expect_is (branch (sees is) (sees-alike is) expect_way K W expect_read)

-- This token is taken, and p goes on. The last three arguments: what may stand behind it.
pub expect_then : {T A : Type 0} {is : T → Bool} {t : T} {p : Parser T A} {K W : List T → A → Type 0} → Tests is t → Meets p (λ b y. K (t ∷ b) y) (λ b y. W (t ∷ b) y)
    → (b : List T) (y : A) → W (t ∷ b) y → Meets (expect is >> p) K W
expect_then {is} {t} {p} {K} {W} test m b y some = expect_all is t test p K W m b y some

module _ {T A B : Type 0} (p : Parser T A) (q : A → Parser T B) (L V : List T → A → Type 0) (K W : List T → B → Type 0) (m : Meets p L V)
    (also : (a : List T) (x : A) → L a x → V a x)
    (goes : (x : A) → Meets (q x) (λ b y. (a : List T) → L a x → K (a ++ b) y) (λ b y. (a : List T) → V a x → W (a ++ b) y))
    (some : (a : List T) (x : A) → V a x → (b : List T) × (y : B) × W (a ++ b) y) where
  bind_second : (ts mid : List T) (x : A) → Took p L ts x mid → (o : Outcome T B) → Read (q x) (λ b y. (a : List T) → L a x → K (a ++ b) y) (λ b y. (a : List T) → V a x → W (a ++ b) y) mid o → Read (p >>= q) K W ts o
  bind_second ts mid x f (Ok z) g = record {
    front = f.front ++ g.front;
    parts = f.parts ∙ ap (λ (u : List T). f.front ++ u) g.parts ∙ sym (append_assoc f.front g.front z.1);
    spelled = g.spelled f.front f.spelled;
    again = λ r h. ap (λ (u : List T). and_then (p u) q) (append_assoc f.front g.front r)
        ∙ ap (λ (o : Outcome T A). and_then o q) (f.again (g.front ++ r) (subst (λ (u : List T). Alike u (g.front ++ r)) (sym g.parts) (alike-append g.front z.1 r h)))
        ∙ g.again r h;
  }
  bind_second ts mid x f (Err n) g = record {
    front = f.front ++ g.front;
    rest = g.rest;
    parts = f.parts ∙ ap (λ (u : List T). f.front ++ u) g.parts ∙ sym (append_assoc f.front g.front g.rest);
    left = g.left;
    more = g.more;
    whole = g.whole;
    spelled = subst (λ (u : List T). W u g.whole) (sym (append_assoc f.front g.front g.more)) (g.spelled f.front (also f.front x f.spelled));
    again = λ r h. ap (λ (u : List T). and_then (p u) q) (append_assoc f.front g.front r)
        ∙ ap (λ (o : Outcome T A). and_then o q) (f.again (g.front ++ r) (subst (λ (u : List T). Alike u (g.front ++ r)) (sym g.parts) (alike-append g.front g.rest r h)))
        ∙ g.again r h;
  }

  bind_first : (ts : List T) (o : Outcome T A) → Read p L V ts o → Read (p >>= q) K W ts (and_then o q)
  bind_first ts (Ok z) f = bind_second ts z.1 z.0 f (q z.0 z.1) ((goes z.0).at z.1)
  bind_first ts (Err n) f = let e = some (f.front ++ f.more) f.whole f.spelled in record {
    front = f.front;
    rest = f.rest;
    parts = f.parts;
    left = f.left;
    more = f.more ++ e.0;
    whole = e.1;
    spelled = subst (λ (u : List T). W u e.1) (append_assoc f.front f.more e.0) e.2;
    again = λ r h. ap (λ (o : Outcome T A). and_then o q) (f.again r h);
  }

  bind_all : Meets (p >>= q) K W
  bind_all = record { at = λ ts. bind_first ts (p ts) (m.at ts) }

-- p, and what goes on from there, where what p reads before a fault may be spelled in a larger language than what it takes.
pub bind_also : {T A B : Type 0} {p : Parser T A} {q : A → Parser T B} {L V : List T → A → Type 0} {K W : List T → B → Type 0} (m : Meets p L V)
    (also : (a : List T) (x : A) → L a x → V a x)
    (goes : (x : A) → Meets (q x) (λ b y. (a : List T) → L a x → K (a ++ b) y) (λ b y. (a : List T) → V a x → W (a ++ b) y))
    (some : (a : List T) (x : A) → V a x → (b : List T) × (y : B) × W (a ++ b) y) → Meets (p >>= q) K W
bind_also {p} {q} {L} {V} {K} {W} m also goes some = bind_all p q L V K W m also goes some

-- p, and what goes on from there. The last argument: how each thing that p reads can go on.
pub bind : {T A B : Type 0} {p : Parser T A} {q : A → Parser T B} {L : List T → A → Type 0} {K W : List T → B → Type 0} (m : Meets p L L)
    (goes : (x : A) → Meets (q x) (λ b y. (a : List T) → L a x → K (a ++ b) y) (λ b y. (a : List T) → L a x → W (a ++ b) y))
    (some : (a : List T) (x : A) → L a x → (b : List T) × (y : B) × W (a ++ b) y) → Meets (p >>= q) K W
bind {p} {q} {L} {K} {W} m goes some = bind_all p q L L K W m (λ a x h. h) goes some

module _ {T A : Type 0} (is : T → Bool) (t : T) (test : Tests is t) (p q : Parser T A) (K W : List T → A → Type 0) (m : Meets p (λ b y. K (t ∷ b) y) (λ b y. W (t ∷ b) y)) (n : Meets q K W) where
  either_way : Bool → Parser T A
  either_way v = λ ts. cond v ((skip >> p) ts) (q ts)

  either_read : (v : Bool) (ts : List T) → sees is ts ≡ v → Read (either_way v) K W ts (either_way v ts)
  unfolding either_way
  either_read true ts e = skip_then t p K W ts (sees_heads test ts e) m
  either_read false ts e = n.at ts

  either_all : Meets (either is p q) K W
  unfolding either_way
  either_all = branch (sees is) (sees-alike is) either_way K W either_read

-- p behind this token, and else q.
pub either_meets : {T A : Type 0} {is : T → Bool} {t : T} {p q : Parser T A} {K W : List T → A → Type 0} → Tests is t → Meets p (λ b y. K (t ∷ b) y) (λ b y. W (t ∷ b) y) → Meets q K W → Meets (either is p q) K W
either_meets {is} {t} {p} {q} {K} {W} test m n = either_all is t test p q K W m n

module _ {T X A : Type 0} (f : T → Option X) (q : X → Parser T A) (K W : List T → A → Type 0)
    (m : (t : T) (x : X) → f t ≡ Some x → Meets (q x) (λ b y. K (t ∷ b) y) (λ b y. W (t ∷ b) y)) (b : List T) (y : A) (some : W b y) where
  value_way : Option X → Parser T A
  value_way o = take_meaning o >>= q

  value_read : (o : Option X) (ts : List T) → peek f ts ≡ o → Read (value_way o) K W ts (value_way o ts)
  unfolding value_way
  value_read None ts e = read_refuse K W ts b y some
  value_read (Some x) ts e = let h = peek_means f x ts e in skip_then h.token (q x) K W ts h.heads (m h.token x h.means)

  value_is : (ts : List T) → value_way (peek f ts) ts ≡ (value f >>= q) ts
  unfolding value_way value
  value_is ts = refl

  value_all : Meets (value f >>= q) K W
  value_all = meets_same value_is (branch (peek f) (peek-alike f) value_way K W value_read)

-- A token that means something is taken, and q goes on with that. The last three arguments: what may stand here.
pub value_then : {T X A : Type 0} {f : T → Option X} {q : X → Parser T A} {K W : List T → A → Type 0} → ((t : T) (x : X) → f t ≡ Some x → Meets (q x) (λ b y. K (t ∷ b) y) (λ b y. W (t ∷ b) y))
    → (b : List T) (y : A) → W b y → Meets (value f >>= q) K W
value_then {f} {q} {K} {W} m b y some = value_all f q K W m b y some

pure_same : {T A : Type 0} (o : Outcome T A) → and_then o (λ x. pure x) ≡ o
pure_same (Ok z) = refl
pure_same (Err n) = refl

-- A token that means something is taken. The last three arguments: one that does.
pub value_meets : {T X : Type 0} {f : T → Option X} {L W : List T → X → Type 0} → ((t : T) (x : X) → f t ≡ Some x → L (t ∷ []) x) → (b : List T) (x : X) → W b x → Meets (value f) L W
value_meets {f} {L} {W} h b x some = meets_same (λ ts. pure_same (value f ts)) (value_all f (λ y. pure y) L W (λ t y e. meets_pure (h t y e)) b x some)

module _ {T X A : Type 0} (f : T → Option X) (k : Option X → Parser T A) (q : X → Parser T A) (same : (x : X) (ts : List T) → (skip >> q x) ts ≡ k (Some x) ts) (K W : List T → A → Type 0) (m : Meets (k None) K W)
    (goes : (t : T) (x : X) → f t ≡ Some x → Meets (q x) (λ b y. K (t ∷ b) y) (λ b y. W (t ∷ b) y)) where
  takes_read : (o : Option X) (ts : List T) → peek f ts ≡ o → Read (k o) K W ts (k o ts)
  takes_read None ts e = m.at ts
  takes_read (Some x) ts e =
      let h = peek_means f x ts e in
      same_read (skip >> q x) (k (Some x)) K W (same x) ts (k (Some x) ts) (subst (Read (skip >> q x) K W ts) (same x ts) (skip_then h.token (q x) K W ts h.heads (goes h.token x h.means)))

  takes_all : Meets (look f k) K W
  takes_all = branch (peek f) (peek-alike f) k K W takes_read

-- A token that means something is taken, and q goes on with that; any other is left to k None. The fourth argument is λ x ts. refl where k (Some x) skips the token.
pub look_takes : {T X A : Type 0} {K W : List T → A → Type 0} (f : T → Option X) (k : Option X → Parser T A) (q : X → Parser T A) → ((x : X) (ts : List T) → (skip >> q x) ts ≡ k (Some x) ts) → Meets (k None) K W
    → ((t : T) (x : X) → f t ≡ Some x → Meets (q x) (λ b y. K (t ∷ b) y) (λ b y. W (t ∷ b) y)) → Meets (look f k) K W
look_takes {K} {W} f k q same m goes = takes_all f k q same K W m goes

-- ---- what an outcome says

pub took : {T A : Type 0} {P : Parser T A} {L W : List T → A → Type 0} → Meets P L W → (ts : List T) (x : A) (rest : List T) → P ts ≡ Ok (x, rest) → Took P L ts x rest
took {P} {L} {W} m ts x rest e = subst (Read P L W ts) e (m.at ts)

pub stopped : {T A : Type 0} {P : Parser T A} {L W : List T → A → Type 0} → Meets P L W → (ts : List T) (n : ℕ) → P ts ≡ Err n → Stopped P W ts n
stopped {P} {L} {W} m ts n e = subst (Read P L W ts) e (m.at ts)
