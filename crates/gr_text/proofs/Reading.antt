-- How far a text is read: the invariant of the tokenizer's loop, and its steps.
use Rattle.std.proofs.Common.{◌≡◌, ℕ, ◌+◌, ◌≤◌, ◌<◌, Bool, true, false, cond, eqb, List, [], ◌∷◌, ◌++◌, length, take, drop, Ok, Err, refl, sym, ap, subst, ◌∙◌, append_assoc, arith}
use Rattle.std.proofs.lemmas.List.{length-take, length-drop, drop-drop}
use Rattle.std.proofs.Math.Seq.{take-add}
use Rattle.gr_syntax.specs.declared.syntax.Place.{Place}
use Rattle.gr_text.specs.declared.fault.TextError.TheVariants as faults
use Rattle.gr_text.specs.declared.front.Front.TheVariants as fronts
use Rattle.gr_text.specs.declared.token.Token.{Token}
use Rattle.gr_text.specs.declared.token.TokenKind.{TokenKind}
use Rattle.gr_text.specs.declared.token.TokenKind.TheVariants as kinds
use Rattle.gr_text.specs.FrontWords.{IsFront}
use Rattle.gr_text.specs.Places.{place_of, after_bytes, after_byte, first_place}
use Rattle.gr_text.specs.Text.{Text, Outcome, ReadsFrom, with_front, token_at}
use Rattle.gr_text.proofs.Found.{blank_fits}
use Rattle.gr_text.proofs.Longest.{some_token}
use Rattle.gr_text.proofs.Steps.{forward, backward}

-- ---- places

after_bytes-append : (p : Place) (xs ys : Text) → after_bytes p (xs ++ ys) ≡ after_bytes (after_bytes p xs) ys
after_bytes-append p [] ys = refl
after_bytes-append p (b ∷ xs) ys = after_bytes-append (after_byte p b) xs ys

place_more : (whole : Text) (at len : ℕ) → place_of whole (at + len) ≡ after_bytes (place_of whole at) (take len (drop at whole))
place_more whole at len = ap (after_bytes first_place) (take-add at len whole) ∙ after_bytes-append first_place (take at whole) (take len (drop at whole))

-- A line or a column is at most one more than the bytes before it.
pub record Low (p : Place) (n : ℕ) : Type 0 where
  pub line : p.line ≤ n
  pub column : p.column ≤ n

low_byte : (p : Place) (b n : ℕ) → Low p n → 0 < n → Low (after_byte p b) (n + 1)
low_byte p b n h some = go (eqb b 10)
  where
    go : (v : Bool) → Low (cond v (record { line = p.line + 1; column = 1 }) (record { line = p.line; column = p.column + 1 })) (n + 1)
    go true = let l = h.line in record { line = omega arith; column = omega arith }
    go false = let l = h.line in let k = h.column in record { line = omega arith; column = omega arith }

low_bytes : (p : Place) (xs : Text) (n m : ℕ) → Low p n → 0 < n → n + length xs ≤ m → Low (after_bytes p xs) m
low_bytes p [] n m h some most = let l = h.line in let k = h.column in record { line = omega arith; column = omega arith }
low_bytes p (b ∷ xs) n m h some most = low_bytes (after_byte p b) xs (n + 1) m (low_byte p b n h some) (omega arith) (omega arith)

pub place_low : (whole : Text) (at : ℕ) → at ≤ length whole → Low (place_of whole at) (at + 1)
place_low whole at h = low_bytes first_place (take at whole) 1 (at + 1) (record { line = omega arith; column = omega arith }) (omega arith) (omega (arith, length-take at whole))

-- ---- how far

-- Tokens that stand before.
abbrev pub after : List Token → Outcome → Outcome
after ts (Ok us) = Ok (ts ++ us)
after ts (Err e) = Err e

after_nil : (r : Outcome) → after [] r ≡ r
after_nil (Ok us) = refl
after_nil (Err e) = refl

after-with_front : (ts : List Token) (t : Token) (r : Outcome) → after (ts ++ t ∷ []) r ≡ after ts (with_front t r)
after-with_front ts t (Ok us) = ap (λ (x : List Token). Ok x) (append_assoc ts (t ∷ []) us)
after-with_front ts t (Err e) = refl

pub record Tail (whole : Text) (at : ℕ) (rest : Text) (found : List Token) (r : Outcome) : Type 0 where
  pub tail : Outcome
  pub reads : ReadsFrom whole at rest tail
  pub joins : r ≡ after found tail

pub record Reached (whole : Text) (at : ℕ) (p : Place) (rest : Text) (found : List Token) : Type 0 where
  pub size : at + length rest ≡ length whole
  pub here : rest ≡ drop at whole
  pub place : p ≡ place_of whole at
  pub reads : (r : Outcome) → ReadsFrom whole at rest r → ReadsFrom whole 0 whole (after found r)
  pub only : (r : Outcome) → ReadsFrom whole 0 whole r → Tail whole at rest found r

pub start : (whole : Text) → Reached whole 0 (record { line = 1; column = 1 }) whole []
start whole = record {
  size = omega arith;
  here = refl;
  place = refl;
  reads = λ r h. subst (λ (x : Outcome). ReadsFrom whole 0 whole x) (sym (after_nil r)) h;
  only = λ r h. record { tail = r; reads = h; joins = sym (after_nil r) };
}

step_place : (whole rest : Text) (at len : ℕ) (p q : Place) → p ≡ place_of whole at → rest ≡ drop at whole → q ≡ after_bytes p (take len rest) → q ≡ place_of whole (at + len)
step_place whole rest at len p q e f g = g ∙ ap (λ (x : Place). after_bytes x (take len rest)) e ∙ ap (λ (x : Text). after_bytes (place_of whole at) (take len x)) f ∙ sym (place_more whole at len)

pub blank_step : (whole : Text) (at len : ℕ) (p q : Place) (rest : Text) (found : List Token) → Reached whole at p rest found → IsFront (fronts.Blank len) rest → q ≡ after_bytes p (take len rest) → Reached whole (at + len) q (drop len rest) found
blank_step whole at len p q rest found h f e = record {
  size = omega (arith, length-drop len rest, f.1, h.size);
  here = ap (drop len) h.here ∙ drop-drop len at whole;
  place = step_place whole rest at len p q h.place h.here e;
  reads = λ r k. h.reads r (forward (fronts.Blank len) whole at rest r f k);
  only = λ r k. let t = h.only r k in record { tail = t.tail; reads = backward (fronts.Blank len) whole at rest t.tail (omega (arith, f.0, f.1)) f t.reads; joins = t.joins };
}

pub token_step : (whole : Text) (kind : TokenKind) (at len : ℕ) (p q : Place) (rest : Text) (found : List Token) → Reached whole at p rest found → IsFront (fronts.Token kind len) rest → q ≡ after_bytes p (take len rest)
    → Reached whole (at + len) q (drop len rest) (found ++ record { kind = kind; from = at; to = at + len; at = p } ∷ [])
token_step whole kind at len p q rest found h f e = subst (λ (x : Place). Reached whole (at + len) q (drop len rest) (found ++ record { kind = kind; from = at; to = at + len; at = x } ∷ [])) (sym h.place) (record {
  size = omega (arith, length-drop len rest, f.0.within, h.size);
  here = ap (drop len) h.here ∙ drop-drop len at whole;
  place = step_place whole rest at len p q h.place h.here e;
  reads = λ r k. subst (λ (x : Outcome). ReadsFrom whole 0 whole x) (sym (after-with_front found (token_at whole kind at len) r)) (h.reads (with_front (token_at whole kind at len) r) (forward (fronts.Token kind len) whole at rest (with_front (token_at whole kind at len) r) f (record { tail = r; reads = k; joins = refl })));
  only = λ r k.
      let t = h.only r k in
      let next = backward (fronts.Token kind len) whole at rest t.tail (omega (arith, f.0.within, some_token kind len rest f.0.token)) f t.reads in
      record { tail = next.tail; reads = next.reads; joins = t.joins ∙ ap (after found) next.joins ∙ sym (after-with_front found (token_at whole kind at len) next.tail) };
})

-- ---- the end of reading

-- The text reads as this, and as nothing else.
pub record Final (whole : Text) (x : Outcome) : Type 0 where
  pub reads : ReadsFrom whole 0 whole x
  pub only : (r : Outcome) → ReadsFrom whole 0 whole r → r ≡ x

final : (whole : Text) (at : ℕ) (p : Place) (rest : Text) (found : List Token) (x : Outcome) → Reached whole at p rest found → ReadsFrom whole at rest x → ((r : Outcome) → ReadsFrom whole at rest r → r ≡ x) → Final whole (after found x)
final whole at p rest found x h reads only = record {
  reads = h.reads x reads;
  only = λ r k. let t = h.only r k in t.joins ∙ ap (after found) (only t.tail t.reads);
}

pub wide_end : (whole : Text) (at : ℕ) (p : Place) (rest : Text) (found : List Token) → Reached whole at p rest found → 0 < length rest → IsFront fronts.TooWide rest → Final whole (Err (faults.NumberTooWide at))
wide_end whole at p rest found h some f = final whole at p rest found (Err (faults.NumberTooWide at)) h (forward fronts.TooWide whole at rest (Err (faults.NumberTooWide at)) f refl) (λ r k. backward fronts.TooWide whole at rest r some f k)

pub long_end : (whole : Text) (at : ℕ) (p : Place) (rest : Text) (found : List Token) → Reached whole at p rest found → 0 < length rest → IsFront fronts.TooLong rest → Final whole (Err (faults.NameTooLong at))
long_end whole at p rest found h some f = final whole at p rest found (Err (faults.NameTooLong at)) h (forward fronts.TooLong whole at rest (Err (faults.NameTooLong at)) f refl) (λ r k. backward fronts.TooLong whole at rest r some f k)

pub bad_end : (whole : Text) (at : ℕ) (p : Place) (rest : Text) (found : List Token) → Reached whole at p rest found → 0 < length rest → IsFront fronts.Bad rest → Final whole (Err (faults.BadByte at))
bad_end whole at p rest found h some f = final whole at p rest found (Err (faults.BadByte at)) h (forward fronts.Bad whole at rest (Err (faults.BadByte at)) f refl) (λ r k. backward fronts.Bad whole at rest r some f k)

ends_reads : (whole : Text) (at : ℕ) (text : Text) → length text ≡ 0 → ReadsFrom whole at text (Ok (token_at whole kinds.End at 0 ∷ []))
ends_reads whole at [] e = ReadsFrom.ends
ends_reads whole at (b ∷ text) e = absurd (omega arith)

ends_only : (whole : Text) (at : ℕ) (text : Text) (r : Outcome) → length text ≡ 0 → ReadsFrom whole at text r → r ≡ Ok (token_at whole kinds.End at 0 ∷ [])
ends_only whole at _ r e ReadsFrom.ends = refl
ends_only whole at text r e (ReadsFrom.blank some h) = absurd (omega (arith, blank_fits text))
ends_only whole at text _ e (ReadsFrom.token {len = l} {kind = k} t fits h) = absurd (omega (arith, t.within, some_token k l text t.token))
ends_only whole at text _ e (ReadsFrom.too_wide {n = n} {len = l} t wide) = absurd (omega (arith, t.within, some_token (kinds.Number n) l text t.token))
ends_only whole at text _ e (ReadsFrom.too_long {len = l} t long) = absurd (omega (arith, t.within, some_token kinds.Name l text t.token))
ends_only whole at text _ e (ReadsFrom.bad some dark none) = absurd (omega arith)

pub the_end : (whole : Text) (at : ℕ) (p : Place) (rest : Text) (found : List Token) → Reached whole at p rest found → length rest ≡ 0 → Final whole (Ok (found ++ record { kind = kinds.End; from = at; to = at; at = p } ∷ []))
the_end whole at p rest found h e =
    subst (λ (n : ℕ). Final whole (Ok (found ++ record { kind = kinds.End; from = at; to = n; at = p } ∷ []))) (omega arith)
    (subst (λ (x : Place). Final whole (Ok (found ++ record { kind = kinds.End; from = at; to = at + 0; at = x } ∷ []))) (sym h.place)
    (final whole at p rest found (Ok (token_at whole kinds.End at 0 ∷ [])) h (ends_reads whole at rest e) (λ r k. ends_only whole at rest r e k)))

pub reached_low : (whole : Text) (at : ℕ) (p : Place) (rest : Text) (found : List Token) → Reached whole at p rest found → Low p (at + 1)
reached_low whole at p rest found h = subst (λ (x : Place). Low x (at + 1)) (sym h.place) (place_low whole at (omega (arith, h.size)))
