-- An example: lines of sums of products, each line in square brackets, with commas between two sums, and round brackets that nest so deep.
use Rattle.std.specs.Prelude.{ℕ, zero, suc, Bool, true, false, List, [], ◌∷◌, ◌++◌, Option, Some, None}
use Rattle.gr_meets.specs.Parsers.{Parser, ◌>>=◌, ◌>>◌, pure, expect, value, either, run, enclosed, levels, sign_of}
use Rattle.gr_meets.specs.Lists.{Repeated, Enclosed, Levels, Spends}

pub data Token : Type 0 where
  Number : ℕ → Token
  Open : Token
  Close : Token
  Begin : Token
  End : Token
  Comma : Token
  Plus : Token
  Times : Token

pub data Operation : Type 0 where
  Add : Operation
  Multiply : Operation

pub data Tree : Type 0 where
  Leaf : ℕ → Tree
  Two : Operation → Tree → Tree → Tree

abbrev pub is_open : Token → Bool
is_open Open = true
is_open t = false

abbrev pub is_close : Token → Bool
is_close Close = true
is_close t = false

abbrev pub is_begin : Token → Bool
is_begin Begin = true
is_begin t = false

abbrev pub is_end : Token → Bool
is_end End = true
is_end t = false

abbrev pub is_comma : Token → Bool
is_comma Comma = true
is_comma t = false

abbrev pub number : Token → Option ℕ
number (Number n) = Some n
number t = None

abbrev pub binds : Token → Option (Operation × ℕ)
binds Times = Some (Multiply, 0)
binds Plus = Some (Add, 1)
binds t = None

-- ---- the grammar

-- A number, or something in round brackets.
pub data OperandOf (Inner : List Token → Tree → ℕ → Type 0) : List Token → Tree → ℕ → Type 0 where
  single : {n : ℕ} → OperandOf Inner (Number n ∷ []) (Leaf n) 0
  group : {ts : List Token} {x : Tree} {n : ℕ} → Inner ts x n → OperandOf Inner (Open ∷ (ts ++ Close ∷ [])) x n

-- With room for so many nestings.
abbrev pub IsOperand : ℕ → List Token → Tree → ℕ → Type 0
IsOperand zero = OperandOf (λ ts x n. ⊥)
IsOperand (suc d) = OperandOf (Levels (sign_of binds) Two (IsOperand d) 2)

-- With four signs at most.
pub record IsSum (d : ℕ) (ts : List Token) (x : Tree) : Type 0 where
  pub left : ℕ
  pub spelled : Spends (Levels (sign_of binds) Two (IsOperand d) 2) 4 ts (x, left)

pub data IsLine (d : ℕ) : List Token → List Tree → Type 0 where
  whole : {ts : List Token} {xs : List Tree} → Enclosed End Comma (IsSum d) ts xs → IsLine d (Begin ∷ ts) xs

abbrev pub IsText : ℕ → List Token → List (List Tree) → Type 0
IsText d = Repeated (IsLine d)

-- ---- the parser

unfoldable pub leaf : ℕ → Parser Token (Tree × ℕ)
leaf b = value number >>= λ n. pure (Leaf n, b)

unfoldable pub operand : ℕ → ℕ → Parser Token (Tree × ℕ)
operand zero b = leaf b
operand (suc d) b = either is_open (levels (sign_of binds) Two (operand d) 2 b >>= λ x. expect is_close >> pure x) (leaf b)

unfoldable pub sum : ℕ → Parser Token Tree
sum d = levels (sign_of binds) Two (operand d) 2 4 >>= λ x. pure x.0

unfoldable pub line : ℕ → ℕ → Parser Token (List Tree)
line d turns = expect is_begin >> enclosed is_end is_comma (sum d) turns

abbrev pub never : Token → Bool
never t = false

unfoldable pub text : ℕ → ℕ → Parser Token (List (List Tree))
text d turns = run never (line d turns) turns []
