-- Parsers that differ in the bound of their turns alone answer the same to texts short enough, combinator by combinator.
use Rattle.std.proofs.Common.{◌≡◌, ℕ, ◌<◌, ◌≤◌, Bool, true, false, cond, List, length, Option, Some, None, Ok, Err, refl, ap, ◌∙◌, arith}
use Rattle.std.proofs.lemmas.List.{length-append, length-drop}
use Rattle.gr_meets.specs.Parsers.{Outcome, Parser, and_then, ◌>>=◌, ◌>>◌, skip, sees, peek, next, expect, either, look, value, take_meaning}
use Rattle.gr_meets.specs.LanguageWords.{Meets, Agree, Shortens, Takes}
use Rattle.gr_meets.proofs.Meets.{took}

pub next_shorter : {T : Type 0} (ts : List T) → length (next ts) ≤ length ts
unfolding next
next_shorter ts = omega (arith, length-drop 1 ts)

-- Who meets a language leaves no more tokens than it was given.
pub shortens : {T A : Type 0} {P : Parser T A} {L W : List T → A → Type 0} → Meets P L W → Shortens P
shortens m = record { less = λ ts x rest e. let h = took m ts x rest e in omega (arith, ap length h.parts, length-append h.front rest) }

-- Where each thing that is spelled has a token, the parser takes one.
pub takes : {T A : Type 0} {P : Parser T A} {L W : List T → A → Type 0} → Meets P L W → ((ts : List T) (x : A) → L ts x → 0 < length ts) → Takes P
takes m some = record { less = λ ts x rest e. let h = took m ts x rest e in omega (arith, ap length h.parts, length-append h.front rest, some h.front x h.spelled) }

pub takes_shortens : {T A : Type 0} {P : Parser T A} → Takes P → Shortens P
takes_shortens h = record { less = λ ts x rest e. omega (arith, h.less ts x rest e) }

pub agree_self : {T A : Type 0} {n m : ℕ} {p : Parser T A} → Agree n m p p
agree_self = record { same = λ ts h k. refl }

module _ {T A B : Type 0} (n m : ℕ) (p p' : Parser T A) (q q' : A → Parser T B) (same : Agree n m p p') (less : Shortens p) (goes : (x : A) → Agree n m (q x) (q' x)) where
  bind_same : (ts : List T) → length ts < n → length ts < m → (o : Outcome T A) → p ts ≡ o → and_then o q ≡ and_then o q'
  bind_same ts h k (Err i) e = refl
  bind_same ts h k (Ok z) e = let fewer = less.less ts z.0 z.1 e in (goes z.0).same z.1 (omega (arith, fewer)) (omega (arith, fewer))

  bind_all : Agree n m (p >>= q) (p' >>= q')
  bind_all = record { same = λ ts h k. bind_same ts h k (p ts) refl ∙ ap (λ o. and_then o q') (same.same ts h k) }

pub agree_bind : {T A B : Type 0} {n m : ℕ} {p p' : Parser T A} {q q' : A → Parser T B} → Agree n m p p' → Shortens p → ((x : A) → Agree n m (q x) (q' x)) → Agree n m (p >>= q) (p' >>= q')
agree_bind {n} {m} {p} {p'} {q} {q'} same less goes = bind_all n m p p' q q' same less goes

pub skip_same : {T A : Type 0} {n m : ℕ} {p q : Parser T A} → Agree n m p q → (ts : List T) → length ts < n → length ts < m → p (next ts) ≡ q (next ts)
skip_same same ts h k = let less = next_shorter ts in same.same (next ts) (omega (arith, less)) (omega (arith, less))

pub agree_skip : {T A : Type 0} {n m : ℕ} {p q : Parser T A} → Agree n m p q → Agree n m (skip >> p) (skip >> q)
agree_skip same = record { same = λ ts h k. skip_same same ts h k }

module _ {T : Type 0} (is : T → Bool) where
  expect_less : (ts : List T) (v : Bool) (x : Unit {0}) (rest : List T) → cond {A = Outcome T (Unit {0})} v (Ok (tt {0}, next ts)) (Err (length ts)) ≡ Ok (x, rest) → length rest ≤ length ts
  expect_less ts true x rest e = let pair : ◌≡◌ {A = Unit {0} × List T} (tt, next ts) (x, rest) = cc in let tails = ap (λ z. z.1) pair in let less = next_shorter ts in omega (arith, less, ap length tails)
  expect_less ts false x rest e = absurd cc

  pub shortens_expect : Shortens (expect is)
  unfolding expect
  shortens_expect = record { less = λ ts x rest e. expect_less ts (sees is ts) x rest e }

pub agree_expect : {T A : Type 0} {n m : ℕ} {p q : Parser T A} (is : T → Bool) → Agree n m p q → Agree n m (expect is >> p) (expect is >> q)
agree_expect is same = agree_bind agree_self (shortens_expect is) (λ x. same)

pub agree_either : {T A : Type 0} {n m : ℕ} {p p' q q' : Parser T A} (is : T → Bool) → Agree n m p p' → Agree n m q q' → Agree n m (either is p q) (either is p' q')
agree_either {p'} {q} is first second = record { same = λ ts h k. ap (λ o. cond (sees is ts) o (q ts)) (skip_same first ts h k) ∙ ap (λ o. cond (sees is ts) (p' (next ts)) o) (second.same ts h k) }

pub agree_look : {T X A : Type 0} {n m : ℕ} (f : T → Option X) (k k' : Option X → Parser T A) → ((x : Option X) → Agree n m (k x) (k' x)) → Agree n m (look f k) (look f k')
agree_look f k k' same = record { same = λ ts h j. (same (peek f ts)).same ts h j }

module _ {T X : Type 0} (f : T → Option X) where
  taken_less : (o : Option X) (ts : List T) (x : X) (rest : List T) → take_meaning o ts ≡ Ok (x, rest) → length rest ≤ length ts
  taken_less None ts x rest e = absurd cc
  taken_less (Some y) ts x rest e = let pair : ◌≡◌ {A = X × List T} (y, next ts) (x, rest) = cc in let tails = ap (λ z. z.1) pair in let less = next_shorter ts in omega (arith, less, ap length tails)

  pub shortens_value : Shortens (value f)
  unfolding value
  shortens_value = record { less = λ ts x rest e. taken_less (peek f ts) ts x rest e }

pub agree_value : {T X A : Type 0} {n m : ℕ} {q q' : X → Parser T A} (f : T → Option X) → ((x : X) → Agree n m (q x) (q' x)) → Agree n m (value f >>= q) (value f >>= q')
agree_value f same = agree_bind agree_self (shortens_value f) same
