-- What single tokens mean to the parser.
use Rattle.std.specs.Prelude.{ℕ, Bool, true, false, if◌then◌else◌, ◌==◌, Option, Some, None}
use denote.Enum.Bare.{sameb}
use Rattle.gr_syntax.specs.declared.syntax.Name.{Name}
use Rattle.gr_syntax.specs.declared.syntax.Number.{Number}
use Rattle.gr_syntax.specs.declared.syntax.BinOp.{BinOp}
use Rattle.gr_syntax.specs.declared.syntax.BinOp.TheVariants as ops
use Rattle.gr_syntax.specs.declared.syntax.Expr.{Expr}
use Rattle.gr_syntax.specs.declared.syntax.Expr.TheVariants as exprs
use Rattle.gr_text.specs.contracts.token.Keyword as word_contracts
use Rattle.gr_text.specs.declared.token.Keyword.{Keyword}
use Rattle.gr_text.specs.declared.token.Sign.{Sign}
use Rattle.gr_text.specs.declared.token.Sign.TheVariants as signs
pub use Rattle.gr_expressions.specs.Tok.{Tok, Toks, heap_name, tok_of_word, tok_of_kind, tok_of, toks, same_sign, is_sign, sign_of, level_of}

unfoldable pub same_key : Keyword → Keyword → Bool
same_key = sameb word_contracts.the_type

abbrev pub is_key : Keyword → Tok → Bool
is_key want (Tok.key w) = same_key w want
is_key want _ = false

-- No token: what a list that goes to the end stops at.
abbrev pub never : Tok → Bool
never _ = false

abbrev pub is_missing : Tok → Bool
is_missing Tok.missing = true
is_missing _ = false

-- ---- what tokens mean

abbrev pub name_of : Tok → Option Name
name_of (Tok.name n) = Some n
name_of _ = None

abbrev pub number_of : Tok → Option Number
number_of (Tok.number n) = Some n
number_of _ = None

-- The heap as an object, where it is named.
abbrev pub heap_of : Tok → Option Name
heap_of (Tok.heap at) = Some (heap_name at)
heap_of _ = None

-- The object that a call begins with.
abbrev pub object_of : Tok → Option Name
object_of (Tok.name n) = Some n
object_of (Tok.heap at) = Some (heap_name at)
object_of _ = None

-- A number or a local as an operand.
abbrev pub atom_of : Tok → Option Expr
atom_of (Tok.number n) = Some (exprs.Lit n)
atom_of (Tok.name n) = Some (exprs.Local n)
atom_of _ = None

-- ---- binary signs

-- What it is written for.
abbrev pub op_of_sign : Sign → Option BinOp
op_of_sign signs.EqualEqual = Some ops.Eq
op_of_sign signs.BangEqual = Some ops.Ne
op_of_sign signs.Less = Some ops.Lt
op_of_sign signs.LessEqual = Some ops.Le
op_of_sign signs.Greater = Some ops.Gt
op_of_sign signs.GreaterEqual = Some ops.Ge
op_of_sign signs.Bar = Some ops.Or
op_of_sign signs.Caret = Some ops.Xor
op_of_sign signs.Ampersand = Some ops.And
op_of_sign signs.Plus = Some ops.Add
op_of_sign signs.Minus = Some ops.Sub
op_of_sign signs.Star = Some ops.Mul
op_of_sign signs.Slash = Some ops.Div
op_of_sign signs.Percent = Some ops.Rem
op_of_sign _ = None

abbrev pub of_level : ℕ → Option BinOp → Option BinOp
of_level level None = None
of_level level (Some o) = if level_of o == level then Some o else None

-- The binary sign of this level that the token is.
unfoldable pub operator : ℕ → Tok → Option BinOp
operator level (Tok.sign g) = of_level level (op_of_sign g)
operator level _ = None
