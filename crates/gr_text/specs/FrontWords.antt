-- What stands at the front of a text, as the functions of the tokenizer tell it to each other.
use Rattle.std.specs.Prelude.{◌≡◌, ℕ, ◌<◌, ◌≤◌, ◌^◌, ◌==◌, ◌&&◌, if◌then◌else◌, [], ◌∷◌, length, Option, Some, None}
use Rattle.gr_text.specs.declared.front.Front.{Front}
use Rattle.gr_text.specs.declared.front.Front.TheVariants as fronts
use Rattle.gr_text.specs.declared.token.TokenKind.TheVariants as kinds
use Rattle.gr_text.specs.declared.token.Sign.{Sign}
use Rattle.gr_text.specs.declared.token.Sign.TheVariants.{LeftParen, RightParen, LeftBrace, RightBrace, LeftBracket, RightBracket, Semicolon, Comma, Dot, DotDot, Assign, EqualEqual, BangEqual, Less, LessEqual, Greater, GreaterEqual, Plus, Minus, Star, Slash, Percent, Ampersand, Bar, Caret, Bang}
use Rattle.gr_syntax.specs.declared.limits.TheConstants.{MAX_NAME}
use Rattle.gr_text.specs.Text.{Text, IsLongest, Fits, BeginsNoToken, blank_len}

-- The sign of one byte.
abbrev pub single_sign : ℕ → Option Sign
single_sign b = if b == 40 then Some LeftParen else (if b == 41 then Some RightParen else (if b == 123 then Some LeftBrace else (if b == 125 then Some RightBrace else (if b == 91 then Some LeftBracket else (if b == 93 then Some RightBracket else (if b == 59 then Some Semicolon else (if b == 44 then Some Comma else (if b == 46 then Some Dot else (if b == 61 then Some Assign else (if b == 60 then Some Less else (if b == 62 then Some Greater else (if b == 43 then Some Plus else (if b == 45 then Some Minus else (if b == 42 then Some Star else (if b == 47 then Some Slash else (if b == 37 then Some Percent else (if b == 38 then Some Ampersand else (if b == 124 then Some Bar else (if b == 94 then Some Caret else (if b == 33 then Some Bang else None))))))))))))))))))))

-- The sign of two bytes.
abbrev pub double_sign : ℕ → ℕ → Option Sign
double_sign a b = if (a == 46) && (b == 46) then Some DotDot else (if (a == 61) && (b == 61) then Some EqualEqual else (if (a == 33) && (b == 61) then Some BangEqual else (if (a == 60) && (b == 61) then Some LessEqual else (if (a == 62) && (b == 61) then Some GreaterEqual else None))))

abbrev pub or_else : Option Sign → Option Sign → Option Sign
or_else (Some s) other = Some s
or_else None other = other

-- The longest sign at the front.
abbrev pub front_sign : Text → Option Sign
front_sign [] = None
front_sign (a ∷ []) = single_sign a
front_sign (a ∷ b ∷ rest) = or_else (double_sign a b) (single_sign a)

-- The text isn't empty, and its first byte is such a one.
abbrev pub HasHead : (ℕ → Type 0) → Text → Type 0
HasHead P [] = ⊥
HasHead P (byte ∷ rest) = P byte

-- What stands at the front of this text.
abbrev pub IsFront : Front → Text → Type 0
IsFront (fronts.Blank len) text = (0 < len) × (len ≤ length text) × (len ≡ blank_len text)
IsFront (fronts.Token kind len) text = IsLongest kind len text × Fits kind len
IsFront fronts.TooWide text = (n len : ℕ) × IsLongest (kinds.Number n) len text × (2 ^ 64 ≤ n)
IsFront fronts.TooLong text = (len : ℕ) × IsLongest kinds.Name len text × (MAX_NAME < len)
IsFront fronts.Bad text = (0 < length text) × (blank_len text ≡ 0) × BeginsNoToken text
