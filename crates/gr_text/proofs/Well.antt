-- What the tokens of a text are, by how the text reads.
use Rattle.std.proofs.Common.{◌≡◌, ◌≢◌, ℕ, ◌+◌, ◌-◌, ◌≤◌, ◌<◌, true, List, [], ◌∷◌, ◌++◌, length, get_or, take, drop, Ok, Err, refl, sym, ap, subst, ◌∙◌, arith}
use Rattle.std.specs.Prelude.{All, slice_range, IsAscii}
use Rattle.std.proofs.lemmas.List.{length-drop, drop-drop}
use Rattle.std.proofs.lemmas.List.Elements.{All-cons, All-nil}
use Rattle.std.proofs.lemmas.Str.Ascii.{IsAscii-from_reads}
use Rattle.gr_text.specs.declared.token.Token.{Token}
use Rattle.gr_text.specs.declared.token.TokenKind.{TokenKind}
use Rattle.gr_text.specs.declared.token.TokenKind.TheVariants as kinds
use Rattle.std.specs.List.{list_all}
use Rattle.gr_syntax.specs.Names.{is_word}
use Rattle.gr_text.specs.Text.{Text, Outcome, ReadsFrom, IsToken, IsTokenOf, IsLongest, Fits, AreTokens, IsRising, with_front, token_at, blank_len}
use Rattle.gr_text.proofs.Found.{blank_fits}
use Rattle.gr_text.proofs.Longest.{letter_word, some_token}
use Rattle.gr_text.proofs.Runs.{and_both, all_at}

-- ---- names are ASCII

word_ascii : (b : ℕ) → is_word b ≡ true → b < 128
word_ascii b h = grind arith

name_ascii : (bytes : Text) → IsToken kinds.Name bytes → IsAscii bytes
name_ascii [] t = absurd t
name_ascii (b ∷ bytes) t = IsAscii-from_reads (b ∷ bytes) (length (b ∷ bytes)) (omega arith) (λ k less. word_ascii (get_or (b ∷ bytes) k 0) (all_at is_word (b ∷ bytes) k (and_both (is_word b) (list_all is_word bytes) (letter_word b t.0) t.1) less))

-- ---- the tokens from a place on

record From (whole : Text) (at : ℕ) (tokens : List Token) : Type 0 where
  front : List Token
  parts : tokens ≡ front ++ token_at whole kinds.End (length whole) 0 ∷ []
  no_end : All (λ t. t.kind ≢ kinds.End) front
  tokens_of : All (IsTokenOf whole) front
  rise : IsRising at tokens

rising_from : (a b : ℕ) (ts : List Token) → a ≤ b → IsRising b ts → IsRising a ts
rising_from a b [] h r = r
rising_from a b (t ∷ ts) h r = (omega (arith, r.0), r.1)

no_end_token : (bytes : Text) → IsToken kinds.End bytes → ⊥
no_end_token [] t = t
no_end_token (b ∷ bytes) t = t

width : (at len : ℕ) → at + len - at ≡ len
width at len = omega arith

span : (whole : Text) (at len : ℕ) → slice_range whole at (at + len) ≡ take len (drop at whole)
span whole at len = let e : at + len - at ≡ len = omega arith in ap (λ (n : ℕ). take n (drop at whole)) e

token_of : (whole : Text) (kind : TokenKind) (at len : ℕ) (text : Text) → text ≡ drop at whole → at + length text ≡ length whole → IsLongest kind len text → Fits kind len → IsTokenOf whole (token_at whole kind at len)
token_of whole kind at len text here size t fit =
    let some = some_token kind len text t.token in
    let within = t.within in
    let bytes : take len text ≡ slice_range whole at (at + len) = ap (take len) here ∙ sym (span whole at len) in
    let token : IsToken kind (slice_range whole at (at + len)) = subst (λ (x : Text). IsToken kind x) bytes t.token in
    record {
      some = omega arith;
      within = omega arith;
      token = token;
      fits = subst (λ (n : ℕ). Fits kind n) (sym (width at len)) fit;
      ascii = λ e. name_ascii (slice_range whole at (at + len)) (subst (λ (x : TokenKind). IsToken x (slice_range whole at (at + len))) e token);
      place = refl;
    }

kind_not_end : (kind : TokenKind) (bytes : Text) → IsToken kind bytes → kind ≢ kinds.End
kind_not_end kind bytes t e = no_end_token bytes (subst (λ (x : TokenKind). IsToken x bytes) e t)

end_from : (whole : Text) (at : ℕ) (ts : List Token) → at ≡ length whole → token_at whole kinds.End at 0 ∷ [] ≡ ts → From whole at ts
end_from whole at ts here e = subst (λ (x : List Token). From whole at x) e (record {
  front = [];
  parts = ap (λ (n : ℕ). token_at whole kinds.End n 0 ∷ []) here;
  no_end = All-nil (λ t. t.kind ≢ kinds.End);
  tokens_of = All-nil (IsTokenOf whole);
  rise = (omega arith, tt);
})

more_from : (whole : Text) (kind : TokenKind) (at len : ℕ) (text : Text) (us ts : List Token) → text ≡ drop at whole → at + length text ≡ length whole → IsLongest kind len text → Fits kind len → From whole (at + len) us → token_at whole kind at len ∷ us ≡ ts → From whole at ts
more_from whole kind at len text us ts here size t fit h e = subst (λ (x : List Token). From whole at x) e (record {
  front = token_at whole kind at len ∷ h.front;
  parts = ap (λ (x : List Token). token_at whole kind at len ∷ x) h.parts;
  no_end = All-cons (λ t. t.kind ≢ kinds.End) (token_at whole kind at len) h.front (kind_not_end kind (take len text) t.token) h.no_end;
  tokens_of = All-cons (IsTokenOf whole) (token_at whole kind at len) h.front (token_of whole kind at len text here size t fit) h.tokens_of;
  rise = (omega arith, h.rise);
})

front_ok : (t : Token) (tail : Outcome) (ts : List Token) → with_front t tail ≡ Ok ts → (us : List Token) × (tail ≡ Ok us) × (t ∷ us ≡ ts)
front_ok t (Ok us) ts e = (us, refl, cc)
front_ok t (Err x) ts e = absurd cc

from_reads : (whole : Text) (at : ℕ) (text : Text) (r : Outcome) → ReadsFrom whole at text r → text ≡ drop at whole → at + length text ≡ length whole → (ts : List Token) → r ≡ Ok ts → From whole at ts
from_reads whole at _ _ ReadsFrom.ends here size ts e = end_from whole at ts (omega (arith, size)) cc
from_reads whole at text r (ReadsFrom.blank some h) here size ts e =
    let k = from_reads whole (at + blank_len text) (drop (blank_len text) text) r h (ap (drop (blank_len text)) here ∙ drop-drop (blank_len text) at whole) (omega (arith, size, blank_fits text, length-drop (blank_len text) text)) ts e in
    record { front = k.front; parts = k.parts; no_end = k.no_end; tokens_of = k.tokens_of; rise = rising_from at (at + blank_len text) ts (omega arith) k.rise }
from_reads whole at text _ (ReadsFrom.token {len = len} {kind = kind} {r = tail} t fits h) here size ts e =
    let x = front_ok (token_at whole kind at len) tail ts e in
    let within = t.within in
    more_from whole kind at len text x.0 ts here size t fits
    (from_reads whole (at + len) (drop len text) tail h (ap (drop len) here ∙ drop-drop len at whole) (omega (arith, size, length-drop len text)) x.0 x.1) x.2
from_reads whole at text _ (ReadsFrom.too_wide t wide) here size ts e = absurd cc
from_reads whole at text _ (ReadsFrom.too_long t long) here size ts e = absurd cc
from_reads whole at text _ (ReadsFrom.bad some dark none) here size ts e = absurd cc

pub well : (whole : Text) (ts : List Token) → ReadsFrom whole 0 whole (Ok ts) → AreTokens whole ts
well whole ts h =
    let k = from_reads whole 0 whole (Ok ts) h refl (omega arith) ts refl in
    record { front = k.front; parts = k.parts; no_end = k.no_end; tokens_of = k.tokens_of; rise = k.rise }
