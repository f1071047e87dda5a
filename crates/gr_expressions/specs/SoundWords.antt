-- Which tokens a parser can read names from: no end among them, and each name a part of the text, in UTF-8.
use Rattle.std.specs.Prelude.{◌≡◌, ℕ, ◌≤◌, List, length, slice_range, All}
use Rattle.std.specs.Str.{IsUtf8}
use Rattle.gr_text.specs.declared.token.Token.{Token}
use Rattle.gr_text.specs.declared.token.TokenKind.TheVariants as kind

-- A token's name can be read.
pub record IsNamed (text : List ℕ) (token : Token) : Type 0 where
  pub rises : token.from ≤ token.to
  pub within : token.to ≤ length text
  pub letters : IsUtf8 (slice_range text token.from token.to)

pub record IsSound (text : List ℕ) (token : Token) : Type 0 where
  pub no_end : token.kind ≡ kind.End → ⊥
  pub named : token.kind ≡ kind.Name → IsNamed text token

abbrev pub AreSound : List ℕ → List Token → Type 0
AreSound text tokens = All (IsSound text) tokens
