-- Languages of lists of elements and of chains of binary signs, made of the language of their parts.
use Rattle.std.specs.Prelude.{◌≡◌, ℕ, zero, suc, ◌+◌, List, [], ◌∷◌, ◌++◌, Option, Some}

-- Elements, one behind the other.
pub data Repeated {T A : Type 0} (Element : List T → A → Type 0) : List T → List A → Type 0 where
  none : Repeated Element [] []
  one_more : {front back : List T} {first : A} {others : List A} → Element front first → Repeated Element back others → Repeated Element (front ++ back) (first ∷ others)

-- One element or more, with a comma between two.
pub data Separated {T A : Type 0} (comma : T) (Element : List T → A → Type 0) : List T → List A → Type 0 where
  last : {front : List T} {only : A} → Element front only → Separated comma Element front (only ∷ [])
  before : {front back : List T} {first : A} {others : List A} → Element front first → Separated comma Element back others → Separated comma Element (front ++ comma ∷ back) (first ∷ others)

-- Elements with a comma between two, or none, and the closing token.
pub data Enclosed {T A : Type 0} (close comma : T) (Element : List T → A → Type 0) : List T → List A → Type 0 where
  empty : Enclosed close comma Element (close ∷ []) []
  some : {inside : List T} {found : List A} → Separated comma Element inside found → Enclosed close comma Element (inside ++ close ∷ []) found

-- An operand, or what binary signs make of operands from the left. The number counts the signs, those of the operands included.
pub data Chained {T A O : Type 0} (sign : T → Option O) (two : O → A → A → A) (Operand : List T → A → ℕ → Type 0) : List T → A → ℕ → Type 0 where
  one : {inside : List T} {inner : A} {count : ℕ} → Operand inside inner count → Chained sign two Operand inside inner count
  pair : {front back : List T} {left right : A} {count more : ℕ} {op : O} (token : T) → Chained sign two Operand front left count → sign token ≡ Some op → Operand back right more
      → Chained sign two Operand (front ++ token ∷ back) (two op left right) (suc (count + more))

-- What a chain of signs spells that has so many levels, the tightest first.
abbrev pub Levels : {T A O : Type 0} → (ℕ → T → Option O) → (O → A → A → A) → (List T → A → ℕ → Type 0) → ℕ → List T → A → ℕ → Type 0
Levels sign two Operand zero = Operand
Levels sign two Operand (suc level) = Chained (sign level) two (Levels sign two Operand level)

-- Spelled with as many signs as the budget lost.
pub record Spends {T A : Type 0} (Operand : List T → A → ℕ → Type 0) (budget : ℕ) (tokens : List T) (read : A × ℕ) : Type 0 where
  pub signs : ℕ
  pub spelled : Operand tokens read.0 signs
  pub sum : signs + read.1 ≡ budget
