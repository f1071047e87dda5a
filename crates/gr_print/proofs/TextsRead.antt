-- The text of a layout is read as the layout's tokens.
use Rattle.std.proofs.Common.{◌≡◌, ◌≢◌, ℕ, ◌+◌, ◌-◌, ◌<◌, Bool, true, false, cond, List, [], ◌∷◌, ◌++◌, map, length, get_or, take, drop, Ok, refl, sym, ap, subst, ◌∙◌, arith}
use Rattle.std.specs.Prelude.{◌==◌, ◌||◌, slice_range}
use Rattle.std.specs.Fmt.{decimal}
use Rattle.std.proofs.lemmas.Bool.Decides.{nat_tests}
use Rattle.std.proofs.lemmas.List.{append-nil, length-append, drop-drop}
use Rattle.std.proofs.Math.Seq.{take-append_seam, drop-append_seam}
use Rattle.gr_syntax.specs.declared.syntax.Place.{Place}
use Rattle.gr_syntax.specs.declared.syntax.Name.{Name}
use Rattle.gr_syntax.specs.declared.syntax.Number.{Number}
use Rattle.gr_text.specs.declared.token.Keyword.{Keyword}
use Rattle.gr_text.specs.declared.token.Keyword.TheVariants as k
use Rattle.gr_text.specs.declared.token.Sign.{Sign}
use Rattle.gr_text.specs.declared.token.Sign.TheVariants as s
use Rattle.gr_text.specs.declared.token.Token.{Token}
use Rattle.gr_text.specs.declared.token.TokenKind.{TokenKind}
use Rattle.gr_text.specs.declared.token.TokenKind.TheVariants as kinds
use Rattle.gr_text.specs.Places.{place_of}
use Rattle.gr_text.specs.Spelling.{keyword_bytes, sign_bytes}
use Rattle.std.specs.List.{list_all}
use Rattle.gr_syntax.specs.Names.{is_letter, is_digit, is_word}
use Rattle.gr_text.specs.Text.{Text, IsLongest, IsToken, ReadsFrom, token_at}
use Rattle.gr_text.specs.FrontWords.{HasHead}
use Rattle.gr_text.specs.Text as text
use Rattle.gr_text.proofs.Longest.{IsOther, sign_front}
use Rattle.gr_text.proofs.Runs.{and_first}
use Rattle.gr_text.proofs.Signs.{sign_head, some_sign}
use Rattle.gr_text.proofs.Words.{keyword_head}
use Rattle.gr_expressions.specs.Tok.{Tok, tok_of, tok_of_kind, toks, Toks}
use Rattle.gr_parse.proofs.Whole.{toks_more, toks_none}
use Rattle.gr_print.specs.Unplaced.{unplaced_tok}
use Rattle.gr_print.specs.Pieces.{Piece, Layout, token_bytes, bytes_of}
use Rattle.gr_print.specs.Printed.{IsWritten, AreWritten}
use Rattle.gr_print.proofs.Apart.{is_half, ends_sign, ends_word, Fits, Apart}
use Rattle.gr_print.proofs.Fronts.{Stops, NoHalf, name_longest, keyword_longest, number_longest, sign_ahead, decimal_digits, decimal_some}
use Rattle.gr_print.proofs.Seen.{tokens_of}

-- ---- what stands behind a token

sign_other : (bytes rest : Text) → is_letter (get_or bytes 0 0) ≡ false → is_digit (get_or bytes 0 0) ≡ false → 0 < length bytes → HasHead IsOther (bytes ++ rest)
sign_other [] rest h k some = absurd (omega arith)
sign_other (b ∷ bytes) rest h k some = ap (λ (v : Bool). v || is_digit b) h ∙ k

other_stops : (bytes : Text) → HasHead IsOther bytes → Stops is_word bytes
other_stops [] h = tt
other_stops (b ∷ bytes) h = h

digits_stop : (rest : Text) → Stops is_word rest → Stops is_digit rest
digits_stop [] h = tt
digits_stop (b ∷ rest) h = by (is_letter b) (is_digit b) h
  where
    by : (v w : Bool) → (v || w) ≡ false → w ≡ false
    by true w e = absurd cc
    by false w e = e

sign_is_other : (g : Sign) (rest : Text) → HasHead IsOther (sign_bytes g ++ rest)
sign_is_other g rest = sign_other (sign_bytes g) rest (sign_head g).letter (sign_head g).digit (some_sign g)

sign_longest : (g : Sign) (rest : Text) → NoHalf rest → IsLongest (kinds.Sign g) (length (sign_bytes g)) (sign_bytes g ++ rest)
sign_longest g rest h = sign_front (sign_bytes g ++ rest) g (sign_is_other g rest) (sign_ahead g rest h)

word_ends : (p : Piece) (ps : Layout) → ends_word p ≡ true → Stops is_word (bytes_of (p ∷ ps))
word_ends Piece.blank ps h = refl
word_ends Piece.newline ps h = refl
word_ends (Piece.token (Tok.sign g)) ps h = other_stops (sign_bytes g ++ bytes_of ps) (sign_is_other g (bytes_of ps))
word_ends (Piece.token (Tok.name n)) ps h = absurd cc
word_ends (Piece.token (Tok.number n)) ps h = absurd cc
word_ends (Piece.token (Tok.heap at)) ps h = absurd cc
word_ends (Piece.token (Tok.key word)) ps h = absurd cc
word_ends (Piece.token Tok.missing) ps h = absurd cc

letter_no_half : (bytes rest : Text) → is_letter (get_or bytes 0 0) ≡ true → NoHalf (bytes ++ rest)
letter_no_half [] rest h = absurd cc
letter_no_half (b ∷ bytes) rest h = (dot b h, equal b h)
  where
    dot : (b : ℕ) → is_letter b ≡ true → (b == 46) ≡ false
    dot b h = grind (arith, nat_tests)

    equal : (b : ℕ) → is_letter b ≡ true → (b == 61) ≡ false
    equal b h = grind (arith, nat_tests)

digit_no_half : (bytes rest : Text) → 0 < length bytes → list_all is_digit bytes ≡ true → NoHalf (bytes ++ rest)
digit_no_half [] rest some h = absurd (omega arith)
digit_no_half (b ∷ bytes) rest some h = let digit = and_first (is_digit b) (list_all is_digit bytes) h in (dot b digit, equal b digit)
  where
    dot : (b : ℕ) → is_digit b ≡ true → (b == 46) ≡ false
    dot b h = grind (arith, nat_tests)

    equal : (b : ℕ) → is_digit b ≡ true → (b == 61) ≡ false
    equal b h = grind (arith, nat_tests)

name_letter : (bytes : Text) → IsToken kinds.Name bytes → is_letter (get_or bytes 0 0) ≡ true
name_letter [] t = absurd t
name_letter (b ∷ bytes) t = t.0

whole_sign : (g : Sign) (rest : Text) → cond (is_half g) false true ≡ true → NoHalf (sign_bytes g ++ rest)
whole_sign s.Assign rest h = absurd cc
whole_sign s.EqualEqual rest h = absurd cc
whole_sign s.Dot rest h = absurd cc
whole_sign s.DotDot rest h = absurd cc
whole_sign s.LeftParen rest h = (refl, refl)
whole_sign s.RightParen rest h = (refl, refl)
whole_sign s.LeftBrace rest h = (refl, refl)
whole_sign s.RightBrace rest h = (refl, refl)
whole_sign s.LeftBracket rest h = (refl, refl)
whole_sign s.RightBracket rest h = (refl, refl)
whole_sign s.Semicolon rest h = (refl, refl)
whole_sign s.Comma rest h = (refl, refl)
whole_sign s.BangEqual rest h = (refl, refl)
whole_sign s.Less rest h = (refl, refl)
whole_sign s.LessEqual rest h = (refl, refl)
whole_sign s.Greater rest h = (refl, refl)
whole_sign s.GreaterEqual rest h = (refl, refl)
whole_sign s.Plus rest h = (refl, refl)
whole_sign s.Minus rest h = (refl, refl)
whole_sign s.Star rest h = (refl, refl)
whole_sign s.Slash rest h = (refl, refl)
whole_sign s.Percent rest h = (refl, refl)
whole_sign s.Ampersand rest h = (refl, refl)
whole_sign s.Bar rest h = (refl, refl)
whole_sign s.Caret rest h = (refl, refl)
whole_sign s.Bang rest h = (refl, refl)

sign_ends : (p : Piece) (ps : Layout) → ends_sign p ≡ true → AreWritten (tokens_of (p ∷ ps)) → NoHalf (bytes_of (p ∷ ps))
sign_ends Piece.blank ps h w = (refl, refl)
sign_ends Piece.newline ps h w = (refl, refl)
sign_ends (Piece.token (Tok.sign g)) ps h w = whole_sign g (bytes_of ps) h
sign_ends (Piece.token (Tok.name n)) ps h w = letter_no_half n.text (bytes_of ps) (name_letter n.text w.0.0)
sign_ends (Piece.token (Tok.number n)) ps h w = digit_no_half (decimal n.value) (bytes_of ps) (decimal_some n.value w.0) (decimal_digits n.value w.0)
sign_ends (Piece.token (Tok.heap at)) ps h w = (refl, refl)
sign_ends (Piece.token (Tok.key word)) ps h w = letter_no_half (keyword_bytes word) (bytes_of ps) (keyword_head word)
sign_ends (Piece.token Tok.missing) ps h w = absurd w.0

-- ---- one token

abbrev kind_of : Tok → TokenKind
kind_of (Tok.name n) = kinds.Name
kind_of (Tok.number n) = kinds.Number n.value
kind_of (Tok.heap at) = kinds.Keyword k.Heap
kind_of (Tok.key word) = kinds.Keyword word
kind_of (Tok.sign g) = kinds.Sign g
kind_of Tok.missing = kinds.End

name_stops : (n : Name) (ps : Layout) → Fits (Piece.token (Tok.name n)) ps → Stops is_word (bytes_of ps)
name_stops n [] h = tt
name_stops n (p ∷ ps) h = word_ends p ps h

number_stops : (n : Number) (ps : Layout) → Fits (Piece.token (Tok.number n)) ps → Stops is_word (bytes_of ps)
number_stops n [] h = tt
number_stops n (p ∷ ps) h = word_ends p ps h

heap_stops : (at : Place) (ps : Layout) → Fits (Piece.token (Tok.heap at)) ps → Stops is_word (bytes_of ps)
heap_stops at [] h = tt
heap_stops at (p ∷ ps) h = word_ends p ps h

key_stops : (word : Keyword) (ps : Layout) → Fits (Piece.token (Tok.key word)) ps → Stops is_word (bytes_of ps)
key_stops word [] h = tt
key_stops word (p ∷ ps) h = word_ends p ps h

sign_stops : (g : Sign) (ps : Layout) → Fits (Piece.token (Tok.sign g)) ps → AreWritten (tokens_of ps) → NoHalf (bytes_of ps)
sign_stops g [] h w = tt
sign_stops g (p ∷ ps) h w = sign_ends p ps h w

token_longest : (t : Tok) (ps : Layout) → IsWritten t → Fits (Piece.token t) ps → AreWritten (tokens_of ps) → IsLongest (kind_of t) (length (token_bytes t)) (token_bytes t ++ bytes_of ps)
token_longest (Tok.name n) ps w h v = name_longest n.text (bytes_of ps) w.0 (name_stops n ps h)
token_longest (Tok.number n) ps w h v = number_longest n.value (bytes_of ps) w (digits_stop (bytes_of ps) (number_stops n ps h))
token_longest (Tok.heap at) ps w h v = keyword_longest k.Heap (bytes_of ps) (heap_stops at ps h)
token_longest (Tok.key word) ps w h v = keyword_longest word (bytes_of ps) (key_stops word ps h)
token_longest (Tok.sign g) ps w h v = sign_longest g (bytes_of ps) (sign_stops g ps h v)
token_longest Tok.missing ps w h v = absurd w

token_fits : (t : Tok) → IsWritten t → text.Fits (kind_of t) (length (token_bytes t))
token_fits (Tok.name n) w = w.1
token_fits (Tok.number n) w = w
token_fits (Tok.heap at) w = tt
token_fits (Tok.key word) w = tt
token_fits (Tok.sign g) w = tt
token_fits Tok.missing w = absurd w

word_seen : (at : Place) (bytes : Text) (word : Keyword) → word ≢ k.Heap → unplaced_tok (tok_of_kind bytes at (kinds.Keyword word)) ≡ Tok.key word
word_seen at bytes k.Array h = refl
word_seen at bytes k.Set h = refl
word_seen at bytes k.Map h = refl
word_seen at bytes k.Vector h = refl
word_seen at bytes k.Heap h = absurd (h refl)
word_seen at bytes k.Input h = refl
word_seen at bytes k.Show h = refl
word_seen at bytes k.Task h = refl
word_seen at bytes k.Let h = refl
word_seen at bytes k.If h = refl
word_seen at bytes k.Else h = refl
word_seen at bytes k.While h = refl
word_seen at bytes k.Print h = refl
word_seen at bytes k.Spawn h = refl
word_seen at bytes k.At h = refl
word_seen at bytes k.Offer h = refl
word_seen at bytes k.Finish h = refl
word_seen at bytes k.Forall h = refl
word_seen at bytes k.Grain h = refl

token_seen : (t : Tok) (at : Place) → IsWritten t → unplaced_tok (tok_of_kind (token_bytes t) at (kind_of t)) ≡ unplaced_tok t
token_seen (Tok.name n) at w = refl
token_seen (Tok.number n) at w = refl
token_seen (Tok.heap p) at w = refl
token_seen (Tok.key word) at w = word_seen at (keyword_bytes word) word w
token_seen (Tok.sign g) at w = refl
token_seen Tok.missing at w = absurd w

-- ---- the whole text

module _ (whole : Text) where
  -- What the rest of the text is read as: tokens that are the layout's but for places.
  pub record Found (at : ℕ) (ps : Layout) : Type 0 where
    pub front : List Token
    pub reads : ReadsFrom whole at (bytes_of ps) (Ok (front ++ token_at whole kinds.End (length whole) 0 ∷ []))
    pub seen : map unplaced_tok (toks whole front) ≡ map unplaced_tok (tokens_of ps)

  span : (at len : ℕ) → slice_range whole at (at + len) ≡ take len (drop at whole)
  span at len = let e : at + len - at ≡ len = omega arith in ap (λ (n : ℕ). take n (drop at whole)) e

  ends_case : (at : ℕ) → at + 0 ≡ length whole → Found at []
  ends_case at size = let here : at ≡ length whole = omega arith in record {
    front = [];
    reads = subst (λ (n : ℕ). ReadsFrom whole at [] (Ok (token_at whole kinds.End n 0 ∷ []))) here ReadsFrom.ends;
    seen = ap (map unplaced_tok) (toks_none whole);
  }

  white_case : (at b : ℕ) (ps : Layout) → text.blank_len (b ∷ bytes_of ps) ≡ 1 → (f : Found (at + 1) ps) → ReadsFrom whole at (b ∷ bytes_of ps) (Ok (f.front ++ token_at whole kinds.End (length whole) 0 ∷ []))
  white_case at b ps e f =
      let some : 0 < text.blank_len (b ∷ bytes_of ps) = omega arith in
      ReadsFrom.blank some (subst (λ (n : ℕ). ReadsFrom whole (at + n) (drop n (b ∷ bytes_of ps)) (Ok (f.front ++ token_at whole kinds.End (length whole) 0 ∷ []))) (sym e) f.reads)

  token_case : (at : ℕ) (t : Tok) (ps : Layout) → IsWritten t → Fits (Piece.token t) ps → AreWritten (tokens_of ps) → token_bytes t ++ bytes_of ps ≡ drop at whole → Found (at + length (token_bytes t)) ps → Found at (Piece.token t ∷ ps)
  token_case at t ps w h v here f =
      let len = length (token_bytes t) in
      let bytes : slice_range whole at (at + len) ≡ token_bytes t = span at len ∙ ap (take len) (sym here) ∙ take-append_seam (token_bytes t) (bytes_of ps) in
      let one : unplaced_tok (tok_of whole (token_at whole (kind_of t) at len)) ≡ unplaced_tok t = ap (λ (u : Text). unplaced_tok (tok_of_kind u (place_of whole at) (kind_of t))) bytes ∙ token_seen t (place_of whole at) w in
      record {
        front = token_at whole (kind_of t) at len ∷ f.front;
        reads = ReadsFrom.token (token_longest t ps w h v) (token_fits t w) (subst (λ (u : Text). ReadsFrom whole (at + len) u (Ok (f.front ++ token_at whole kinds.End (length whole) 0 ∷ []))) (sym (drop-append_seam (token_bytes t) (bytes_of ps))) f.reads);
        seen = ap (map unplaced_tok) (toks_more whole (token_at whole (kind_of t) at len) f.front) ∙ ap (λ (u : Tok). u ∷ map unplaced_tok (toks whole f.front)) one ∙ ap (λ (us : Toks). unplaced_tok t ∷ us) f.seen;
      }

  pub found : (ps : Layout) (at : ℕ) → Apart ps [] → AreWritten (tokens_of ps) → bytes_of ps ≡ drop at whole → at + length (bytes_of ps) ≡ length whole → Found at ps
  found [] at a w here size = ends_case at size
  found (Piece.blank ∷ ps) at a w here size =
      let f = found ps (at + 1) a.1 w (ap (drop 1) here ∙ drop-drop 1 at whole) (omega (arith, size)) in
      record { front = f.front; reads = white_case at 32 ps refl f; seen = f.seen }
  found (Piece.newline ∷ ps) at a w here size =
      let f = found ps (at + 1) a.1 w (ap (drop 1) here ∙ drop-drop 1 at whole) (omega (arith, size)) in
      record { front = f.front; reads = white_case at 10 ps refl f; seen = f.seen }
  found (Piece.token t ∷ ps) at a w here size =
      let rest : bytes_of ps ≡ drop (at + length (token_bytes t)) whole = sym (drop-append_seam (token_bytes t) (bytes_of ps)) ∙ ap (drop (length (token_bytes t))) here ∙ drop-drop (length (token_bytes t)) at whole in
      token_case at t ps w.0 (subst (Fits (Piece.token t)) (append-nil ps) a.0) w.1 here (found ps (at + length (token_bytes t)) a.1 w.1 rest (omega (arith, size, length-append (token_bytes t) (bytes_of ps))))
