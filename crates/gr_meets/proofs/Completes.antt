-- What is spelled is read, combinator by combinator.
use Rattle.std.proofs.Common.{◌≡◌, ℕ, suc, ◌<◌, Bool, true, false, cond, List, [], ◌∷◌, ◌++◌, length, Option, Some, None, Ok, Err, sym, ap, subst, ◌∙◌, append_assoc}
use Rattle.std.proofs.lemmas.List.{append-nil}
use Rattle.gr_meets.specs.Parsers.{Outcome, Parser, and_then, ◌>>=◌, ◌>>◌, sees, peek, next, expect, either, look, value, take_meaning}
use Rattle.gr_meets.specs.LanguageWords.{Tests, Completes}

pub sees_own : {T : Type 0} {is : T → Bool} {t : T} → Tests is t → (ts : List T) → sees is (t ∷ ts) ≡ true
unfolding sees
sees_own test ts = test.own

-- Where a first parser answered so, what goes on from there.
pub then_reads : {T A B : Type 0} {o : Outcome T A} {us : List T} {x : A} {r : Outcome T B} (q : A → Parser T B) → o ≡ Ok (x, us) → q x us ≡ r → and_then o q ≡ r
then_reads q h k = ap (λ u. and_then u q) h ∙ k

-- This token is next.
pub expect_reads : {T A : Type 0} {is : T → Bool} {t : T} {r : Outcome T A} → Tests is t → (p : Parser T A) (ts : List T) → p ts ≡ r → (expect is >> p) (t ∷ ts) ≡ r
unfolding expect next
expect_reads test p ts h = ap (λ v. and_then (cond v (Ok (tt {0}, ts)) (Err (suc (length ts)))) (λ _. p)) (sees_own test ts) ∙ h

-- The first way, behind its token.
pub either_first : {T A : Type 0} {is : T → Bool} {t : T} {r : Outcome T A} → Tests is t → (p q : Parser T A) (ts : List T) → p ts ≡ r → either is p q (t ∷ ts) ≡ r
unfolding next
either_first {t} test p q ts h = ap (λ v. cond v (p ts) (q (t ∷ ts))) (sees_own test ts) ∙ h

-- The second way, where another token comes next.
pub either_second : {T A : Type 0} {r : Outcome T A} (is : T → Bool) (p q : Parser T A) (ts : List T) → sees is ts ≡ false → q ts ≡ r → either is p q ts ≡ r
either_second is p q ts e h = ap (λ v. cond v (p (next ts)) (q ts)) e ∙ h

pub look_reads : {T X A : Type 0} (f : T → Option X) (k : Option X → Parser T A) {ts : List T} {x : Option X} {r : Outcome T A} → peek f ts ≡ x → k x ts ≡ r → look f k ts ≡ r
look_reads f k {ts} e h = ap (λ x. k x ts) e ∙ h

-- The next token is looked at, and taken.
pub look_first : {T X A : Type 0} {r : Outcome T A} (f : T → Option X) (k : Option X → Parser T A) (t : T) (x : X) (ts : List T) → f t ≡ Some x → k (Some x) (t ∷ ts) ≡ r → look f k (t ∷ ts) ≡ r
unfolding peek
look_first f k t x ts e h = ap (λ o. k o (t ∷ ts)) e ∙ h

-- The next token means nothing.
pub look_second : {T X A : Type 0} {r : Outcome T A} (f : T → Option X) (k : Option X → Parser T A) (ts : List T) → peek f ts ≡ None → k None ts ≡ r → look f k ts ≡ r
look_second f k ts e h = ap (λ o. k o ts) e ∙ h

-- The next token means this.
pub value_reads : {T X A : Type 0} {t : T} {x : X} {r : Outcome T A} (f : T → Option X) (q : X → Parser T A) (ts : List T) → f t ≡ Some x → q x ts ≡ r → (value f >>= q) (t ∷ ts) ≡ r
unfolding value peek next
value_reads {t} f q ts e h = ap (λ o. and_then (take_meaning o (t ∷ ts)) q) e ∙ h

pub value_is : {T X : Type 0} {t : T} {x : X} (f : T → Option X) (ts : List T) → f t ≡ Some x → value f (t ∷ ts) ≡ Ok (x, ts)
unfolding value peek next
value_is {t} f ts e = ap (λ o. take_meaning o (t ∷ ts)) e

-- ---- what is spelled in front of something else

-- First what p reads of a, then what goes on with b.
pub reads_then : {T A B : Type 0} {n : ℕ} {p : Parser T A} {L : List T → A → Type 0} {F : List T → Type 0} {a : List T} {x : A} {r : Outcome T B} → Completes n p L F
    → L a x → (b rest : List T) → F (b ++ rest) → length ((a ++ b) ++ rest) < n → (q : A → Parser T B) → q x (b ++ rest) ≡ r → (p >>= q) ((a ++ b) ++ rest) ≡ r
reads_then {n} {p} {a} {x} c h b rest f few q k =
    let cut : (a ++ b) ++ rest ≡ a ++ (b ++ rest) = append_assoc a b rest in
    ap (λ u. and_then (p u) q) cut ∙ then_reads q (c.reads a x h (b ++ rest) f (subst (λ u. length u < n) cut few)) k

-- What p reads of a is all.
pub reads_last : {T A B : Type 0} {n : ℕ} {p : Parser T A} {L : List T → A → Type 0} {F : List T → Type 0} {a : List T} {x : A} {r : Outcome T B} → Completes n p L F
    → L a x → (rest : List T) → F rest → length (a ++ rest) < n → (q : A → Parser T B) → q x rest ≡ r → (p >>= q) (a ++ rest) ≡ r
reads_last {a} {x} c h rest f few q k = then_reads q (c.reads a x h rest f few) k

-- The same parser, for a smaller language and in front of less.
pub completes_weaken : {T A : Type 0} {n : ℕ} {p : Parser T A} {L L' : List T → A → Type 0} {F F' : List T → Type 0} → Completes n p L F → ((ts : List T) (x : A) → L' ts x → L ts x) → ((ts : List T) → F' ts → F ts) → Completes n p L' F'
completes_weaken c l f = record { reads = λ ts x h rest g few. c.reads ts x (l ts x h) rest (f rest g) few }

pub completes_same : {T A : Type 0} {n : ℕ} {p q : Parser T A} {L : List T → A → Type 0} {F : List T → Type 0} → ((ts : List T) → p ts ≡ q ts) → Completes n p L F → Completes n q L F
completes_same same c = record { reads = λ ts x h rest g few. sym (same (ts ++ rest)) ∙ c.reads ts x h rest g few }

-- Nothing follows.
pub reads_whole : {T A : Type 0} {n : ℕ} {p : Parser T A} {L : List T → A → Type 0} {F : List T → Type 0} → Completes n p L F → F [] → (ts : List T) (x : A) → L ts x → length ts < n → p ts ≡ Ok (x, [])
reads_whole {n} {p} c f ts x h few =
    let e : ts ++ [] ≡ ts = append-nil ts in
    subst (λ u. p u ≡ Ok (x, [])) e (c.reads ts x h [] f (subst (λ u. length u < n) (sym e) few))
