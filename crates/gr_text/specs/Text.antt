-- What the tokens of a text are, and what a text reads as: its tokens with their places, or its first fault.
use Rattle.std.specs.Prelude.{◌≡◌, ◌≢◌, ℕ, ◌+◌, ◌-◌, ◌<◌, ◌≤◌, ◌^◌, Bool, true, false, ◌||◌, ◌==◌, if◌then◌else◌, List, [], ◌∷◌, ◌++◌, length, take, drop, slice_range, All, Result, Ok, Err}
use Rattle.std.specs.List.{list_all, prefix_len}
use Rattle.std.specs.Str.Parse.{digits_value}
use Rattle.std.specs.Str.{IsAscii}
use Rattle.gr_syntax.specs.declared.limits.TheConstants.{MAX_NAME}
use Rattle.gr_syntax.specs.Names.{is_letter, is_digit, is_word}
use Rattle.gr_text.specs.declared.token.Keyword.{Keyword}
use Rattle.gr_text.specs.declared.token.TokenKind.{TokenKind}
use Rattle.gr_text.specs.declared.token.TokenKind.TheVariants as kinds
use Rattle.gr_text.specs.declared.token.Token.{Token}
use Rattle.gr_text.specs.declared.fault.TextError.{TextError}
use Rattle.gr_text.specs.declared.fault.TextError.TheVariants as faults
use Rattle.gr_text.specs.Places.{place_of}
use Rattle.gr_text.specs.Spelling.{keyword_bytes, sign_bytes}

abbrev pub Text : Type 0
Text = List ℕ

-- ---- bytes

-- A space, a tab, a carriage return or a newline.
abbrev pub is_white : ℕ → Bool
is_white byte = byte == 32 || byte == 9 || byte == 13 || byte == 10

abbrev pub not_newline : ℕ → Bool
not_newline byte = if byte == 10 then false else true

-- How many bytes at the front are blank: one of white space, or those of a comment, from its `#` to before the next newline.
abbrev pub blank_len : Text → ℕ
blank_len [] = 0
blank_len (byte ∷ rest) = if is_white byte then 1 else (if byte == 35 then prefix_len not_newline (byte ∷ rest) else 0)

-- ---- tokens

-- The bytes are one token of this kind, if its limits are left aside.
abbrev pub IsToken : TokenKind → Text → Type 0
IsToken kind [] = ⊥
IsToken kinds.Name (byte ∷ bytes) = (is_letter byte ≡ true) × (list_all is_word bytes ≡ true) × ((word : Keyword) → byte ∷ bytes ≢ keyword_bytes word)
IsToken (kinds.Number number) (byte ∷ bytes) = (list_all is_digit (byte ∷ bytes) ≡ true) × (number ≡ digits_value 10 (byte ∷ bytes))
IsToken (kinds.Keyword word) (byte ∷ bytes) = byte ∷ bytes ≡ keyword_bytes word
IsToken (kinds.Sign sign) (byte ∷ bytes) = byte ∷ bytes ≡ sign_bytes sign
IsToken kinds.End (byte ∷ bytes) = ⊥

-- The text begins with a token of this kind and length, and with no longer one.
pub record IsLongest (kind : TokenKind) (len : ℕ) (text : Text) : Type 0 where
  pub within : len ≤ length text
  pub token : IsToken kind (take len text)
  pub longest : (other : TokenKind) (more : ℕ) → more ≤ length text → IsToken other (take more text) → more ≤ len

abbrev pub BeginsNoToken : Text → Type 0
BeginsNoToken text = (kind : TokenKind) (len : ℕ) → len ≤ length text → IsToken kind (take len text) → ⊥

-- The limits of a token: so many bytes for a name, 2 ^ 64 - 1 for a number.
abbrev pub Fits : TokenKind → ℕ → Type 0
Fits kinds.Name len = len ≤ MAX_NAME
Fits (kinds.Number number) len = number < 2 ^ 64
Fits (kinds.Keyword word) len = Unit {0}
Fits (kinds.Sign sign) len = Unit {0}
Fits kinds.End len = Unit {0}

-- ---- texts

-- The tokens of a text, or its first fault.
abbrev pub Outcome : Type 0
Outcome = Result (List Token) TextError

abbrev pub with_front : Token → Outcome → Outcome
with_front token (Ok tokens) = Ok (token ∷ tokens)
with_front token (Err fault) = Err fault

-- The token of this kind from here on, so many bytes long.
abbrev pub token_at : Text → TokenKind → ℕ → ℕ → Token
token_at whole kind at len = record { kind = kind; from = at; to = at + len; at = place_of whole at }

-- What the rest of a whole text reads as, which begins at this place: blanks are passed over, each token is the longest at its place, and the first fault ends the text.
pub data ReadsFrom (whole : Text) : ℕ → Text → Outcome → Type 0 where
  ends : {at : ℕ} → ReadsFrom whole at [] (Ok (token_at whole kinds.End at 0 ∷ []))
  blank : {at : ℕ} {text : Text} {r : Outcome} → 0 < blank_len text → ReadsFrom whole (at + blank_len text) (drop (blank_len text) text) r → ReadsFrom whole at text r
  token : {at len : ℕ} {text : Text} {kind : TokenKind} {r : Outcome} → IsLongest kind len text → Fits kind len → ReadsFrom whole (at + len) (drop len text) r
      → ReadsFrom whole at text (with_front (token_at whole kind at len) r)
  too_wide : {at n len : ℕ} {text : Text} → IsLongest (kinds.Number n) len text → 2 ^ 64 ≤ n → ReadsFrom whole at text (Err (faults.NumberTooWide at))
  too_long : {at len : ℕ} {text : Text} → IsLongest kinds.Name len text → MAX_NAME < len → ReadsFrom whole at text (Err (faults.NameTooLong at))
  bad : {at : ℕ} {text : Text} → 0 < length text → blank_len text ≡ 0 → BeginsNoToken text → ReadsFrom whole at text (Err (faults.BadByte at))

-- What a text reads as: its tokens, each with its span and its place, or its first fault.
abbrev pub Reads : Text → Outcome → Type 0
Reads text outcome = ReadsFrom text 0 text outcome

-- The text reads as this fault, unless it is only that memory is out.
abbrev pub IsFaultOf : Text → TextError → Type 0
IsFaultOf text faults.OutOfMemory = Unit {0}
IsFaultOf text (faults.BadByte at) = Reads text (Err (faults.BadByte at))
IsFaultOf text (faults.NumberTooWide at) = Reads text (Err (faults.NumberTooWide at))
IsFaultOf text (faults.NameTooLong at) = Reads text (Err (faults.NameTooLong at))

-- ---- what callers rely on

-- The token is the bytes of its span, which aren't none, within its limits, and it knows its place.
pub record IsTokenOf (text : Text) (found : Token) : Type 0 where
  pub some : found.from < found.to
  pub within : found.to ≤ length text
  pub token : IsToken found.kind (slice_range text found.from found.to)
  pub fits : Fits found.kind (found.to - found.from)
  pub ascii : found.kind ≡ kinds.Name → IsAscii (slice_range text found.from found.to)
  pub place : found.at ≡ place_of text found.from

-- Each token begins at or behind the end of the one before it.
abbrev pub IsRising : ℕ → List Token → Type 0
IsRising from [] = Unit {0}
IsRising from (first ∷ others) = (from ≤ first.from) × IsRising first.to others

-- The tokens of a text: one end behind tokens that are parts of the text in their order.
pub record AreTokens (text : Text) (tokens : List Token) : Type 0 where
  pub front : List Token
  pub parts : tokens ≡ front ++ token_at text kinds.End (length text) 0 ∷ []
  pub no_end : All (λ token. token.kind ≢ kinds.End) front
  pub tokens_of : All (IsTokenOf text) front
  pub rise : IsRising 0 tokens
