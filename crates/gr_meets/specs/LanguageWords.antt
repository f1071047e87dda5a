-- What it means that a parser meets a language: what it took is spelled so, what it refused could have gone on, and it looks one token ahead.
use Rattle.std.specs.Prelude.{◌≡◌, ℕ, ◌<◌, ◌≤◌, Bool, true, List, [], ◌∷◌, ◌++◌, length, Ok, Err}
use Rattle.gr_meets.specs.Parsers.{Outcome, Parser, next}

-- The same token comes next, or none in both.
abbrev pub Alike : {T : Type 0} → List T → List T → Type 0
Alike [] [] = Unit {0}
Alike [] (u ∷ b) = ⊥
Alike (t ∷ a) [] = ⊥
Alike (t ∷ a) (u ∷ b) = t ≡ u

-- The test passes this token and no other.
pub record Tests {T : Type 0} (is : T → Bool) (t : T) : Type 0 where
  pub own : is t ≡ true
  pub only : (u : T) → is u ≡ true → u ≡ t

-- This token comes next.
pub record Heads {T : Type 0} (t : T) (ts : List T) : Type 0 where
  pub is : ts ≡ t ∷ next ts

-- The parser took a front that spells x, and does so whatever follows, if only the next token is the same.
pub record Took {T A : Type 0} (P : Parser T A) (L : List T → A → Type 0) (ts : List T) (x : A) (rest : List T) : Type 0 where
  pub front : List T
  pub parts : ts ≡ front ++ rest
  pub spelled : L front x
  pub again : (r : List T) → Alike rest r → P (front ++ r) ≡ Ok (x, r)

-- The parser stopped behind a front with which something begins, and does so whatever follows, if only the next token is the same.
pub record Stopped {T A : Type 0} (P : Parser T A) (W : List T → A → Type 0) (ts : List T) (n : ℕ) : Type 0 where
  pub front : List T
  pub rest : List T
  pub parts : ts ≡ front ++ rest
  pub left : n ≡ length rest
  pub more : List T
  pub whole : A
  pub spelled : W (front ++ more) whole
  pub again : (r : List T) → Alike rest r → P (front ++ r) ≡ Err (length r)

abbrev pub Read : {T A : Type 0} → Parser T A → (List T → A → Type 0) → (List T → A → Type 0) → List T → Outcome T A → Type 0
Read P L W ts (Ok p) = Took P L ts p.0 p.1
Read P L W ts (Err n) = Stopped P W ts n

-- What the parser reads is spelled in L, and what it read before a fault begins something that is spelled in W.
pub record Meets {T A : Type 0} (P : Parser T A) (L W : List T → A → Type 0) : Type 0 where
  pub at : (ts : List T) → Read P L W ts (P ts)

-- What L spells is read, in front of whatever F allows there, from fewer than n tokens.
pub record Completes {T A : Type 0} (n : ℕ) (P : Parser T A) (L : List T → A → Type 0) (F : List T → Type 0) : Type 0 where
  pub reads : (ts : List T) (x : A) → L ts x → (rest : List T) → F rest → length (ts ++ rest) < n → P (ts ++ rest) ≡ Ok (x, rest)

-- The two answer the same to fewer than n and fewer than m tokens.
pub record Agree {T A : Type 0} (n m : ℕ) (P Q : Parser T A) : Type 0 where
  pub same : (ts : List T) → length ts < n → length ts < m → P ts ≡ Q ts

-- The parser leaves no more tokens than it was given.
pub record Shortens {T A : Type 0} (P : Parser T A) : Type 0 where
  pub less : (ts : List T) (x : A) (rest : List T) → P ts ≡ Ok (x, rest) → length rest ≤ length ts

-- The parser takes a token at least.
pub record Takes {T A : Type 0} (P : Parser T A) : Type 0 where
  pub less : (ts : List T) (x : A) (rest : List T) → P ts ≡ Ok (x, rest) → length rest < length ts

-- A parser for each bound of the turns that reads exactly the language, up to the end of the tokens.
pub record Exact {T A : Type 0} (P : ℕ → Parser T A) (W : List T → A → Type 0) : Type 0 where
  pub meets : (n : ℕ) → Meets (P n) W W
  pub reads : (n : ℕ) (ts : List T) (x : A) → W ts x → length ts < n → P n ts ≡ Ok (x, [])
  pub agree : (n m : ℕ) → Agree n m (P n) (P m)
  pub ends : (n : ℕ) (ts : List T) (x : A) (rest : List T) → P n ts ≡ Ok (x, rest) → rest ≡ []
