-- Tokens as the grammar sees them: with the names and numbers that they stand for, and without the places of words and signs.
use Rattle.std.specs.Prelude.{ℕ, Bool, false, List, map, slice_range, codes}
use denote.Enum.Bare.{sameb}
use Rattle.gr_syntax.specs.declared.syntax.Place.{Place}
use Rattle.gr_syntax.specs.declared.syntax.Name.{Name}
use Rattle.gr_syntax.specs.declared.syntax.Number.{Number}
use Rattle.gr_syntax.specs.declared.syntax.BinOp.{BinOp}
use Rattle.gr_syntax.specs.declared.syntax.BinOp.TheVariants as ops
use Rattle.gr_text.specs.declared.token.Keyword.{Keyword}
use Rattle.gr_text.specs.declared.token.Keyword.TheVariants as words
use Rattle.gr_text.specs.contracts.token.Sign as sign_contracts
use Rattle.gr_text.specs.declared.token.Sign.{Sign}
use Rattle.gr_text.specs.declared.token.Sign.TheVariants as signs
use Rattle.gr_text.specs.declared.token.TokenKind.{TokenKind}
use Rattle.gr_text.specs.declared.token.TokenKind.TheVariants as kinds
use Rattle.gr_text.specs.declared.token.Token.{Token}
use Rattle.gr_expressions.specs.declared.limits.TheConstants.{LOOSEST}

-- The keyword `heap` keeps its place, since it is the name of an object too. No text has the token `missing`: it stands for what the nesting limit leaves no room for.
pub data Tok : Type 0 where
  name : Name → Tok
  number : Number → Tok
  heap : Place → Tok
  key : Keyword → Tok
  sign : Sign → Tok
  missing : Tok

abbrev pub Toks : Type 0
Toks = List Tok

-- The name of the heap as an object.
abbrev pub heap_name : Place → Name
heap_name at = record { text = codes "heap"; at = at }

abbrev pub tok_of_word : Place → Keyword → Tok
tok_of_word at words.Heap = Tok.heap at
tok_of_word at word = Tok.key word

abbrev pub tok_of_kind : List ℕ → Place → TokenKind → Tok
tok_of_kind text at kinds.Name = Tok.name (record { text = text; at = at })
tok_of_kind text at (kinds.Number value) = Tok.number (record { value = value; at = at })
tok_of_kind text at (kinds.Keyword word) = tok_of_word at word
tok_of_kind text at (kinds.Sign mark) = Tok.sign mark
tok_of_kind text at kinds.End = Tok.missing

-- What a token of this text stands for.
abbrev pub tok_of : List ℕ → Token → Tok
tok_of text token = tok_of_kind (slice_range text token.from token.to) token.at token.kind

unfoldable pub toks : List ℕ → List Token → Toks
toks text tokens = map (tok_of text) tokens

-- ---- signs

unfoldable pub same_sign : Sign → Sign → Bool
same_sign = sameb sign_contracts.the_type

-- Whether it is this sign.
abbrev pub is_sign : Sign → Tok → Bool
is_sign wanted (Tok.sign mark) = same_sign mark wanted
is_sign wanted _ = false

-- How a binary sign is written.
abbrev pub sign_of : BinOp → Sign
sign_of ops.Eq = signs.EqualEqual
sign_of ops.Ne = signs.BangEqual
sign_of ops.Lt = signs.Less
sign_of ops.Le = signs.LessEqual
sign_of ops.Gt = signs.Greater
sign_of ops.Ge = signs.GreaterEqual
sign_of ops.Or = signs.Bar
sign_of ops.Xor = signs.Caret
sign_of ops.And = signs.Ampersand
sign_of ops.Add = signs.Plus
sign_of ops.Sub = signs.Minus
sign_of ops.Mul = signs.Star
sign_of ops.Div = signs.Slash
sign_of ops.Rem = signs.Percent

-- How loosely it binds: 0 the tightest.
abbrev pub level_of : BinOp → ℕ
level_of ops.Eq = LOOSEST
level_of ops.Ne = LOOSEST
level_of ops.Lt = LOOSEST
level_of ops.Le = LOOSEST
level_of ops.Gt = LOOSEST
level_of ops.Ge = LOOSEST
level_of ops.Or = 4
level_of ops.Xor = 3
level_of ops.And = 2
level_of ops.Add = 1
level_of ops.Sub = 1
level_of ops.Mul = 0
level_of ops.Div = 0
level_of ops.Rem = 0
