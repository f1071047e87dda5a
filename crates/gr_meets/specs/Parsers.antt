-- Parsers that read a list of tokens from left to right; an error is the number of tokens left from the fault on.
use Rattle.std.specs.Prelude.{ℕ, zero, suc, ◌==◌, Bool, true, false, not, if◌then◌else◌, List, [], ◌∷◌, ◌++◌, length, drop, Option, Some, None, Result, Ok, Err}

-- What was read and the tokens after it, or how many tokens are left from the fault on.
abbrev pub Outcome : Type 0 → Type 0 → Type 0
Outcome T A = Result (A × List T) ℕ

abbrev pub Parser : Type 0 → Type 0 → Type 0
Parser T A = List T → Outcome T A

abbrev pub and_then : {T A B : Type 0} → Outcome T A → (A → Parser T B) → Outcome T B
and_then (Ok p) f = f p.0 p.1
and_then (Err n) f = Err n

infixl 10 ◌>>=◌
abbrev pub ◌>>=◌ : {T A B : Type 0} → Parser T A → (A → Parser T B) → Parser T B
p >>= f = λ ts. and_then (p ts) f

infixl 10 ◌>>◌
abbrev pub ◌>>◌ : {T A B : Type 0} → Parser T A → Parser T B → Parser T B
p >> q = p >>= (λ _. q)

-- Reads no token.
abbrev pub pure : {T A : Type 0} → A → Parser T A
pure a = λ ts. Ok (a, ts)

-- The fault is here.
abbrev pub refuse : {T A : Type 0} → Parser T A
refuse = λ ts. Err (length ts)

-- Whether there is a next token and it passes the test.
unfoldable pub sees : {T : Type 0} → (T → Bool) → List T → Bool
sees is [] = false
sees is (t ∷ ts) = is t

-- What the next token means, if there is one and it means anything.
unfoldable pub peek : {T X : Type 0} → (T → Option X) → List T → Option X
peek f [] = None
peek f (t ∷ ts) = f t

-- The tokens after the next one.
unfoldable pub next : {T : Type 0} → List T → List T
next ts = drop 1 ts

abbrev pub skip : {T : Type 0} → Parser T (Unit {0})
skip = λ ts. Ok (tt, next ts)

-- Takes the next token, which has to pass the test.
unfoldable pub expect : {T : Type 0} → (T → Bool) → Parser T (Unit {0})
expect is = λ ts. if sees is ts then Ok (tt, next ts) else Err (length ts)

-- Behind a token that passes the test the first parser, and else the second.
abbrev pub either : {T A : Type 0} → (T → Bool) → Parser T A → Parser T A → Parser T A
either is p q = λ ts. if sees is ts then (skip >> p) ts else q ts

-- Goes on by what the next token means, which is not taken.
abbrev pub look : {T X A : Type 0} → (T → Option X) → (Option X → Parser T A) → Parser T A
look f k = λ ts. k (peek f ts) ts

abbrev pub take_meaning : {T X : Type 0} → Option X → Parser T X
take_meaning None = refuse
take_meaning (Some x) = skip >> pure x

-- Takes the next token, which has to mean something, and answers that.
unfoldable pub value : {T X : Type 0} → (T → Option X) → Parser T X
value f = look f take_meaning

-- ---- repetition

-- Whether a run ends here: no token is left, or the next one passes the test.
unfoldable pub halts : {T : Type 0} → (T → Bool) → List T → Bool
halts stop [] = true
halts stop (t ∷ ts) = stop t

-- Elements up to where the run halts, put behind those that were read before. Each takes one of the turns.
unfoldable pub run : {T A : Type 0} → (T → Bool) → Parser T A → ℕ → List A → Parser T (List A)
run stop element zero xs = refuse
run stop element (suc n) xs = λ ts. if halts stop ts then Ok (xs, ts) else (element >>= λ x. run stop element n (xs ++ x ∷ [])) ts

-- The test that fails where the given one passes.
abbrev pub other : {T : Type 0} → (T → Bool) → T → Bool
other is t = not (is t)

-- More elements, each behind a comma.
unfoldable pub commas : {T A : Type 0} → (T → Bool) → Parser T A → ℕ → List A → Parser T (List A)
commas comma element turns xs = run (other comma) (expect comma >> element) turns xs

-- One element or more, with a comma between two.
unfoldable pub separated : {T A : Type 0} → (T → Bool) → Parser T A → ℕ → Parser T (List A)
separated comma element turns = element >>= λ x. commas comma element turns (x ∷ [])

-- Elements with a comma between two, none of them needed, up to the closing token, which is taken.
unfoldable pub enclosed : {T A : Type 0} → (T → Bool) → (T → Bool) → Parser T A → ℕ → Parser T (List A)
enclosed close comma element turns = either close (pure []) (separated comma element turns >>= λ xs. expect close >> pure xs)

-- ---- binary signs, from the left

-- With room for another sign, goes on with what has one less.
abbrev pub spend : {T A : Type 0} → ℕ → (ℕ → Parser T A) → Parser T A
spend zero p = refuse
spend (suc b) p = p b

abbrev pub go_on : {T A O : Type 0} → Parser T A → (O → Parser T A) → Option O → Parser T A
go_on stop go None = stop
go_on stop go (Some o) = go o

-- The signs of one level behind a first operand, each with an operand behind it, grouped to the left.
-- A tree comes with the number of signs that may still be read. The first number bounds the turns, each of which spends a sign.
unfoldable pub chain : {T A O : Type 0} → (T → Option O) → (O → A → A → A) → (ℕ → Parser T (A × ℕ)) → ℕ → A × ℕ → Parser T (A × ℕ)
chain sign two operand zero x = pure x
chain sign two operand (suc n) x = look sign (go_on (pure x) (λ o. spend x.1 (λ b. skip >> operand b >>= λ y. chain sign two operand n (two o x.0 y.0, y.1))))

-- An operand and the signs of this level behind it, with so many signs at most.
unfoldable pub level : {T A O : Type 0} → (T → Option O) → (O → A → A → A) → (ℕ → Parser T (A × ℕ)) → ℕ → Parser T (A × ℕ)
level sign two operand b = operand b >>= λ x. chain sign two operand (suc x.1) x

-- So many levels of signs, the tightest first.
unfoldable pub levels : {T A O : Type 0} → (ℕ → T → Option O) → (O → A → A → A) → (ℕ → Parser T (A × ℕ)) → ℕ → ℕ → Parser T (A × ℕ)
levels sign two operand zero b = operand b
levels sign two operand (suc l) b = level (sign l) two (levels sign two operand l) b

-- The same from a first operand on that was read already.
unfoldable pub onward : {T A O : Type 0} → (ℕ → T → Option O) → (O → A → A → A) → (ℕ → Parser T (A × ℕ)) → ℕ → A × ℕ → Parser T (A × ℕ)
onward sign two operand zero x = pure x
onward sign two operand (suc l) x = onward sign two operand l x >>= λ y. chain (sign l) two (levels sign two operand l) (suc y.1) y

-- The sign, if it is of this level.
abbrev pub of_level : {O : Type 0} → ℕ → Option (O × ℕ) → Option O
of_level l None = None
of_level l (Some p) = if p.1 == l then Some p.0 else None

-- The signs of each level, of a table that says what a token binds and at which level.
abbrev pub sign_of : {T O : Type 0} → (T → Option (O × ℕ)) → ℕ → T → Option O
sign_of binds l t = of_level l (binds t)
