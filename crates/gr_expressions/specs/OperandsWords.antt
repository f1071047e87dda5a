-- The parser as a specification, up to calls: what the functions that read expressions, arguments and calls read, from the tokens that are left.
use Rattle.std.specs.Prelude.{ℕ, zero, suc, ◌^◌, List, [], Option, Some, None}
use Rattle.gr_meets.specs.Parsers.{Parser, ◌>>=◌, ◌>>◌, pure, skip, expect, either, look, value, enclosed, spend, go_on, levels, onward}
use Rattle.gr_syntax.specs.declared.syntax.Name.{Name}
use Rattle.gr_syntax.specs.declared.syntax.Number.{Number}
use Rattle.gr_syntax.specs.declared.syntax.BinOp.{BinOp}
use Rattle.gr_syntax.specs.declared.syntax.Expr.{Expr}
use Rattle.gr_syntax.specs.declared.syntax.Expr.TheVariants as e
use Rattle.gr_syntax.specs.declared.syntax.CallText.{CallText}
use Rattle.gr_text.specs.declared.token.Sign.TheVariants as s
use Rattle.gr_expressions.specs.declared.limits.TheConstants.{LOOSEST, MAX_SIGNS}
use Rattle.gr_expressions.specs.Tok.{Tok, is_sign}
use Rattle.gr_expressions.specs.Expressions.{call_of}
use Rattle.gr_expressions.specs.TokWords.{is_missing, name_of, number_of, object_of, atom_of, operator}

-- More turns than a text has tokens.
unfoldable pub plenty : ℕ
plenty = 2 ^ 64

-- ---- names and numbers

unfoldable pub name : Parser Tok Name
name = value name_of

unfoldable pub number : Parser Tok Number
number = value number_of

unfoldable pub semicolon : Parser Tok (Unit {0})
semicolon = expect (is_sign s.Semicolon)

-- ---- expressions, each with the number of binary signs that may still come

abbrev pub Counted : Type 0
Counted = Expr × ℕ

abbrev pub negation : Counted → Counted
negation x = (e.Not x.0, x.1)

abbrev pub two : BinOp → Expr → Expr → Expr
two o x y = e.Two o x y

-- A number or a local.
unfoldable pub atom : ℕ → Parser Tok Counted
atom b = value atom_of >>= λ x. pure (x, b)

-- Behind a first operand, a comparison with a second one, if there is one.
unfoldable pub comparing : (ℕ → Parser Tok Counted) → Counted → Parser Tok Counted
comparing u x = look (operator LOOSEST) (go_on (pure x) (λ o. spend x.1 (λ b. skip >> (levels operator two u LOOSEST b >>= λ y. pure (two o x.0 y.0, y.1)))))

-- All operators.
unfoldable pub comparison : (ℕ → Parser Tok Counted) → ℕ → Parser Tok Counted
comparison u b = levels operator two u LOOSEST b >>= comparing u

unfoldable pub group : Parser Tok Counted → Parser Tok Counted
group inner = inner >>= λ x. expect (is_sign s.RightParen) >> pure x

-- An operand, with room for so many nestings.
unfoldable pub unary : ℕ → ℕ → Parser Tok Counted
unary zero b = atom b
unary (suc d) b = either (is_sign s.Bang) (unary d b >>= λ x. pure (negation x)) (either (is_sign s.LeftParen) (group (comparison (unary d) b)) (atom b))

-- An expression, with room for so many nestings.
unfoldable pub expr : ℕ → Parser Tok Expr
expr d = comparison (unary d) MAX_SIGNS >>= λ x. pure x.0

-- An expression whose first operand was read.
unfoldable pub expr_from : ℕ → Expr → Parser Tok Expr
expr_from d x = onward operator two (unary d) LOOSEST (x, MAX_SIGNS) >>= λ y. comparing (unary d) y >>= λ z. pure z.0

-- ---- arguments and calls. The number `turns` bounds the turns of each loop; each turn takes a token.

abbrev pub no_room : {A : Type 0} → Parser Tok (List A)
no_room = expect is_missing >> pure []

-- Arguments, with room for so many nestings.
unfoldable pub args : ℕ → ℕ → Parser Tok (List Expr)
args turns zero = no_room
args turns (suc d) = expect (is_sign s.LeftParen) >> enclosed (is_sign s.RightParen) (is_sign s.Comma) (expr d) turns

abbrev pub some_name : Option Name → Parser Tok (Option Name)
some_name None = pure None
some_name (Some n) = skip >> pure (Some n)

-- A reducer's name, if there is one.
unfoldable pub reducer : Parser Tok (Option Name)
reducer = look name_of some_name

-- A call behind its dot.
unfoldable pub operation : ℕ → ℕ → Name → Parser Tok CallText
operation turns d object = name >>= λ op. reducer >>= λ r. args turns d >>= λ xs. pure (call_of object op r xs)

-- A call behind its object.
unfoldable pub method : ℕ → ℕ → Name → Parser Tok CallText
method turns d object = expect (is_sign s.Dot) >> operation turns d object

unfoldable pub call : ℕ → ℕ → Parser Tok CallText
call turns d = value object_of >>= method turns d
