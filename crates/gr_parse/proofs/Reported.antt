-- What the parser reports of a text with its tokens: the program, or the error at the first fault.
use Rattle.std.proofs.Common.{◌≡◌, ℕ, zero, suc, ◌-◌, ◌<◌, ◌^◌, List, [], ◌∷◌, ◌++◌, length, take, drop, get_or, Result, Ok, Err, refl, sym, ap, subst, ◌∙◌, arith}
use Rattle.std.proofs.lemmas.List.{length-append, length-drop}
use Rattle.std.proofs.lemmas.Str.{IsUtf8-from_ascii}
use Rattle.std.proofs.Math.Seq.{take-append_seam}
use Rattle.gr_meets.specs.Parsers.{Outcome}
use Rattle.gr_meets.proofs.Meets.{stopped}
use Rattle.gr_syntax.specs.declared.syntax.Place.{Place}
use Rattle.gr_syntax.specs.declared.syntax.Item.{Item}
use Rattle.gr_syntax.specs.declared.syntax.Program.{Program}
use Rattle.gr_text.specs.Text.{AreTokens, token_at}
use Rattle.gr_text.specs.declared.token.Token.{Token}
use Rattle.gr_text.specs.declared.token.TokenKind.{TokenKind}
use Rattle.gr_text.specs.declared.token.TokenKind.TheVariants as kinds
use Rattle.gr_expressions.specs.declared.fault.Stop.{Stop}
use Rattle.gr_expressions.specs.declared.fault.Stop.TheVariants as stops
use Rattle.gr_expressions.specs.Tok.{Tok, toks, Toks}
use Rattle.gr_expressions.specs.SoundWords.{AreSound}
use Rattle.gr_expressions.specs.OperandsWords.{plenty}
use Rattle.gr_expressions.specs.GivesWords.{Fails, Gives}
use Rattle.gr_expressions.proofs.Steps.{plenty_is}
use Rattle.gr_parse.specs.declared.fault.ParseError.{ParseError}
use Rattle.gr_parse.specs.declared.fault.ParseError.TheVariants as errors
use Rattle.gr_parse.specs.ParsingWords.{program}
use Rattle.gr_parse.specs.Grammar.{IsProgramOf, Says}
use Rattle.gr_parse.specs.ReportsWords.{error_of, error_at, IsWithin, Reports, Stands}
use Rattle.gr_parse.proofs.Agree.{exact}
use Rattle.gr_parse.proofs.Whole.{Cut, cut, toks_length, program_found, program_read, fault_at_end, fault_at_token}

-- ---- lists

split : (tokens : List Token) (i : ℕ) (d : Token) → i < length tokens → tokens ≡ take i tokens ++ get_or tokens i d ∷ drop (suc i) tokens
split [] i d h = absurd (omega (arith, h))
split (t ∷ tokens) zero d h = refl
split (t ∷ tokens) (suc i) d h = ap (λ (us : List Token). t ∷ us) (split tokens i d (omega (arith, h)))

-- So many tokens from the back stands a token with so many behind it.
pub stands : (tokens : List Token) (left : ℕ) (d : Token) → left < length tokens → Stands (get_or tokens (length tokens - 1 - left) d) tokens left
stands tokens left d h =
    let i : ℕ = length tokens - 1 - left in
    record { before = take i tokens; after = drop (suc i) tokens; parts = split tokens i d (omega (arith, h)); place = omega (arith, h, length-drop (suc i) tokens) }

made : (xs ys : List Item) (a b : Place) → xs ≡ ys → a ≡ b → ◌≡◌ {A = Program} (record { items = xs; end = a }) (record { items = ys; end = b })
made xs ys a b e f = ap (λ (q : List Item). record { items = q; end = a }) e ∙ ap (λ (q : Place). record { items = ys; end = q }) f

-- ---- what a part of the parser gave

pub gave_stop : (o : Outcome Tok (List Item)) (r : Result (List Item) Stop) (stop : Stop) → Gives (λ x. (x, [])) r o → r ≡ Err stop → Fails stop o
gave_stop o r stop g e = subst (λ (q : Result (List Item) Stop). Gives (λ x. (x, [])) q o) e g

pub gave_items : {o : Outcome Tok (List Item)} (r : Result (List Item) Stop) (xs : List Item) → Gives (λ x. (x, [])) r o → r ≡ Ok xs → o ≡ Ok (xs, [])
gave_items {o} r xs g e = subst (λ (q : Result (List Item) Stop). Gives (λ x. (x, [])) q o) e g

-- ---- texts

module _ (text : List ℕ) (tokens : List Token) (are : AreTokens text tokens) where
  abbrev last : Token
  last = token_at text kinds.End (length text) 0

  one_more : length tokens ≡ suc (length are.front)
  one_more = omega (arith, ap length are.parts, length-append are.front (last ∷ []))

  body_is : take (length tokens - 1) tokens ≡ are.front
  body_is = let one : length tokens - 1 ≡ length are.front = omega (arith, one_more) in
      ap (λ (n : ℕ). take n tokens) one ∙ ap (take (length are.front)) are.parts ∙ take-append_seam are.front (last ∷ [])

  front_sound : AreSound text are.front
  front_sound = λ k d less. let t = are.tokens_of k d less in record {
    no_end = are.no_end k d less;
    named = λ e. record { rises = omega (arith, t.some); within = t.within; letters = IsUtf8-from_ascii _ (t.ascii e) };
  }

  -- Names can be read from all tokens but the last.
  pub body_sound : AreSound text (take (length tokens - 1) tokens)
  body_sound = subst (AreSound text) (sym body_is) front_sound

  module _ (ts : Toks) (is : ts ≡ toks text (take (length tokens - 1) tokens)) where
    seen : ts ≡ toks text are.front
    seen = is ∙ ap (toks text) body_is

    at_front : {o : Outcome Tok (List Item)} → program plenty ts ≡ o → program plenty (toks text are.front) ≡ o
    at_front e = ap (program plenty) (sym seen) ∙ e

    few_front : length tokens < 2 ^ 64 → length are.front < plenty
    few_front few = omega (arith, few, one_more, plenty_is)

    -- The fault is at one of the tokens.
    pub reported_range : (left : ℕ) → program plenty ts ≡ Err left → left < length tokens
    reported_range left e =
        let s = stopped (exact.meets plenty) ts left e in
        omega (arith, s.left, ap length s.parts, length-append s.front s.rest, ap length seen, toks_length text are.front, one_more)

    is_last : (t : Token) (a r : List Token) → Cut are.front last a t r → length r ≡ 0 → t ≡ last
    is_last t a r (Cut.at_end e f g) h = f
    is_last t a r (Cut.inside b e f) h = absurd (omega (arith, h, ap length f, length-append b (last ∷ [])))

    last_stands : (t : Token) → Stands t tokens 0 → t ≡ last
    last_stands t s = is_last t s.before s.after (cut are.front last s.before t s.after (sym are.parts ∙ s.parts)) s.place

    pub reported_found : (xs : List Item) (t : Token) → program plenty ts ≡ Ok (xs, []) → Stands t tokens 0 → IsProgramOf text tokens (record { items = xs; end = t.at })
    reported_found xs t e s = subst (λ (q : Token). IsProgramOf text tokens (record { items = xs; end = q.at })) (sym (last_stands t s)) (program_found text tokens are.front last are.parts refl plenty xs [] (at_front e))

    pub reported_only : length tokens < 2 ^ 64 → (xs : List Item) (t : Token) → program plenty ts ≡ Ok (xs, []) → Stands t tokens 0 → (p : Program) → IsProgramOf text tokens p → ◌≡◌ {A = Program} (record { items = xs; end = t.at }) p
    reported_only few xs t e s p h =
        let k = program_read text tokens are.front last are.parts refl plenty p (few_front few) h in
        let both = sym (at_front e) ∙ k.0 in
        let pair : ◌≡◌ {A = List Item × Toks} (xs, []) (p.items, []) = cc in
        let same : xs ≡ p.items = ap (λ z. z.0) pair in
        let place : t.at ≡ p.end = ap (λ (q : Token). q.at) (last_stands t s) ∙ sym k.1 in
        made xs p.items t.at p.end same place

    pub reported_none : length tokens < 2 ^ 64 → (left : ℕ) → program plenty ts ≡ Err left → (p : Program) → IsProgramOf text tokens p → ⊥
    reported_none few left e p h =
        let k = program_read text tokens are.front last are.parts refl plenty p (few_front few) h in
        let both = sym (at_front e) ∙ k.0 in
        absurd cc

    module _ (few : length tokens < 2 ^ 64) (left : ℕ) (e : program plenty ts ≡ Err left) (t : Token) (s : Stands t tokens left) where
      of_kind : (kind : TokenKind) → t.kind ≡ kind → Says (error_of kind t.at) text tokens
      of_kind kinds.End k = fault_at_end text tokens are.front last are.parts refl are.no_end plenty (few_front few) left (at_front e) s.before t s.after s.parts s.place k
      of_kind kinds.Name k = fault_at_token text tokens are.front last are.parts refl are.no_end plenty (few_front few) left (at_front e) s.before t s.after s.parts s.place (λ j. absurd cc)
      of_kind (kinds.Number n) k = fault_at_token text tokens are.front last are.parts refl are.no_end plenty (few_front few) left (at_front e) s.before t s.after s.parts s.place (λ j. absurd cc)
      of_kind (kinds.Keyword w) k = fault_at_token text tokens are.front last are.parts refl are.no_end plenty (few_front few) left (at_front e) s.before t s.after s.parts s.place (λ j. absurd cc)
      of_kind (kinds.Sign g) k = fault_at_token text tokens are.front last are.parts refl are.no_end plenty (few_front few) left (at_front e) s.before t s.after s.parts s.place (λ j. absurd cc)

      -- The error at that token says what is so.
      pub reported_fault : Says (error_at t) text tokens
      reported_fault = of_kind t.kind refl

    pub stop_within : (stop : Stop) → Fails stop (program plenty ts) → IsWithin stop (length tokens)
    stop_within stops.OutOfMemory f = tt
    stop_within (stops.Fault left) f = reported_range left f

    pub stop_only : length tokens < 2 ^ 64 → (stop : Stop) (error : ParseError) → Fails stop (program plenty ts) → Reports stop tokens error → (p : Program) → IsProgramOf text tokens p → error ≡ errors.OutOfMemory
    stop_only few stops.OutOfMemory error f r p h = r
    stop_only few (stops.Fault left) error f r p h = absurd (reported_none few left f p h)

    pub stop_says : length tokens < 2 ^ 64 → (stop : Stop) (error : ParseError) → Fails stop (program plenty ts) → Reports stop tokens error → Says error text tokens
    stop_says few stops.OutOfMemory error f r = subst (λ (q : ParseError). Says q text tokens) (sym r) tt
    stop_says few (stops.Fault left) error f r = subst (λ (q : ParseError). Says q text tokens) (sym r.2) (reported_fault few left f r.0 r.1)
