-- Parts of lists and of chains of signs, between the steps by which they are read.
use Rattle.std.specs.Prelude.{◌≡◌, ℕ, ◌<◌, Bool, false, List, ◌∷◌, ◌++◌, Option, None}
use Rattle.gr_meets.specs.Parsers.{halts, peek}
use Rattle.gr_meets.specs.Lists.{Repeated, Levels, Spends}

-- What elements spell behind those that were read before.
pub record Extends {T A : Type 0} (E : List T → A → Type 0) (xs : List A) (ts : List T) (ys : List A) : Type 0 where
  pub new : List A
  pub spelled : Repeated E ts new
  pub all : ys ≡ xs ++ new

-- No run of elements halts at one, and one may follow an element.
pub record Begins {T A : Type 0} (stop : T → Bool) (E : List T → A → Type 0) (F : List T → Type 0) : Type 0 where
  pub goes : (ts : List T) (x : A) → E ts x → (rest : List T) → halts stop (ts ++ rest) ≡ false
  pub follows : (ts : List T) (x : A) → E ts x → (rest : List T) → F (ts ++ rest)

-- An element behind a comma.
pub data Behind {T A : Type 0} (comma : T) (E : List T → A → Type 0) : List T → A → Type 0 where
  behind : {ts : List T} {x : A} → E ts x → Behind comma E (comma ∷ ts) x

-- No sign of a level below this one comes next.
abbrev pub Loose : {T O : Type 0} → (ℕ → T → Option O) → ℕ → List T → Type 0
Loose sign l rest = (i : ℕ) → i < l → peek (sign i) rest ≡ None

-- What goes on after an operand that was read already.
abbrev pub Onward : {T A O : Type 0} → (ℕ → T → Option O) → (O → A → A → A) → (List T → A → ℕ → Type 0) → ℕ → ℕ → A × ℕ → List T → A × ℕ → Type 0
Onward {T} sign two E l b x c y = (a : List T) → Spends E b a x → Spends (Levels sign two E l) b (a ++ c) y
