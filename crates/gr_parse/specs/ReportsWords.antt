-- What the parser reports of a fault: the error at the token behind which so many are left.
use Rattle.std.specs.Prelude.{◌≡◌, ℕ, ◌<◌, List, ◌∷◌, ◌++◌, length}
use Rattle.gr_syntax.specs.declared.syntax.Place.{Place}
use Rattle.gr_text.specs.declared.token.Token.{Token}
use Rattle.gr_text.specs.declared.token.TokenKind.{TokenKind}
use Rattle.gr_text.specs.declared.token.TokenKind.TheVariants as kind
use Rattle.gr_expressions.specs.declared.fault.Stop.{Stop}
use Rattle.gr_expressions.specs.declared.fault.Stop.TheVariants as stops
use Rattle.gr_parse.specs.declared.fault.ParseError.{ParseError}
use Rattle.gr_parse.specs.declared.fault.ParseError.TheVariants as errors

abbrev pub error_of : TokenKind → Place → ParseError
error_of kind.End at = errors.UnexpectedEnd at.line at.column
error_of _ at = errors.Unexpected at.line at.column

-- The error where the first fault is at this token.
abbrev pub error_at : Token → ParseError
error_at token = error_of token.kind token.at

-- The token is one of these, and so many stand behind it.
pub record Stands (token : Token) (tokens : List Token) (left : ℕ) : Type 0 where
  pub before : List Token
  pub after : List Token
  pub parts : tokens ≡ before ++ token ∷ after
  pub place : length after ≡ left

-- A fault is at one of so many tokens.
abbrev pub IsWithin : Stop → ℕ → Type 0
IsWithin stops.OutOfMemory count = Unit {0}
IsWithin (stops.Fault left) count = left < count

-- The error that a stop comes to: want of memory stays so, and a fault is the error at its token.
abbrev pub Reports : Stop → List Token → ParseError → Type 0
Reports stops.OutOfMemory tokens error = error ≡ errors.OutOfMemory
Reports (stops.Fault left) tokens error = (token : Token) × Stands token tokens left × (error ≡ error_at token)
