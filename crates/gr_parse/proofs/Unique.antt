-- A text has at most one program, at most one first fault, and never both.
use Rattle.std.proofs.Common.{◌≡◌, ◌≢◌, ℕ, suc, List, [], ◌∷◌, ◌++◌, length, All, refl, sym, ap, subst, ◌∙◌, arith}
use Rattle.std.proofs.lemmas.List.{append-nil, length-append}
use Rattle.gr_meets.specs.Faults.{Continues, IsRefused, FirstFault}
use Rattle.gr_meets.proofs.FirstFaults as exactly
use Rattle.gr_syntax.specs.declared.syntax.Place.{Place}
use Rattle.gr_syntax.specs.declared.syntax.Item.{Item}
use Rattle.gr_syntax.specs.declared.syntax.Program.{Program}
use Rattle.gr_text.specs.Text.{AreTokens, token_at}
use Rattle.gr_text.specs.declared.token.Token.{Token}
use Rattle.gr_text.specs.declared.token.TokenKind.{TokenKind}
use Rattle.gr_text.specs.declared.token.TokenKind.TheVariants as kinds
use Rattle.gr_expressions.specs.Tok.{tok_of, toks, Toks}
use Rattle.gr_parse.specs.declared.fault.ParseError.{ParseError}
use Rattle.gr_parse.specs.declared.fault.ParseError.TheVariants as errors
use Rattle.gr_parse.specs.Grammar.{IsProgram, IsProgramOf, Reached, Says}
use Rattle.gr_parse.specs.ReportsWords.{error_of, error_at}
use Rattle.gr_parse.proofs.Agree.{exact}
use Rattle.gr_parse.proofs.Whole.{Cut, cut, same_cut, in_middle, toks_length, toks_append, toks_more, toks_none}

-- ---- programs

same_program : (xs ys : List Item) (a b : Place) → xs ≡ ys → a ≡ b → ◌≡◌ {A = Program} (record { items = xs; end = a }) (record { items = ys; end = b })
same_program xs ys a b e f = ap (λ (q : List Item). record { items = q; end = a }) e ∙ ap (λ (q : Place). record { items = ys; end = q }) f

ends_alike : (f g : List Token) (end : Token) (e : Token) → Cut f end g e [] → (f ≡ g) × (end ≡ e)
ends_alike f g end e (Cut.at_end p q r) = (p, sym q)
ends_alike f g end e (Cut.inside b p q) = absurd (omega (arith, ap length q, length-append b (end ∷ [])))

-- At most one program is a text's.
pub one_program : (text : List ℕ) (tokens : List Token) (p q : Program) → IsProgramOf text tokens p → IsProgramOf text tokens q → p ≡ q
one_program text tokens p q h k =
    let same = ends_alike h.front k.front h.end k.end (cut h.front h.end k.front k.end [] (sym h.parts ∙ k.parts)) in
    let spelled : IsProgram (toks text h.front) q.items = subst (λ (f : List Token). IsProgram (toks text f) q.items) (sym same.0) k.spelled in
    same_program p.items q.items p.end q.end (exactly.only exact (toks text h.front) p.items q.items h.spelled spelled) (h.place ∙ ap (λ (t : Token). t.at) same.1 ∙ sym k.place)

-- ---- faults

error_token : (line column : ℕ) (kind : TokenKind) (at : Place) → (kind ≡ kinds.End → ⊥) → at ≡ record { line = line; column = column } → errors.Unexpected line column ≡ error_of kind at
error_token line column kinds.End at k e = absurd (k refl)
error_token line column kinds.Name at k e = ap (λ (q : Place). errors.Unexpected q.line q.column) (sym e)
error_token line column (kinds.Number n) at k e = ap (λ (q : Place). errors.Unexpected q.line q.column) (sym e)
error_token line column (kinds.Keyword w) at k e = ap (λ (q : Place). errors.Unexpected q.line q.column) (sym e)
error_token line column (kinds.Sign g) at k e = ap (λ (q : Place). errors.Unexpected q.line q.column) (sym e)

error_end : (line column : ℕ) (kind : TokenKind) (at : Place) → kind ≡ kinds.End → at ≡ record { line = line; column = column } → errors.UnexpectedEnd line column ≡ error_of kind at
error_end line column kind at k e = ap (λ (q : Place). errors.UnexpectedEnd q.line q.column) (sym e) ∙ ap (λ (q : TokenKind). error_of q at) (sym k)

module _ (text : List ℕ) (tokens : List Token) (are : AreTokens text tokens) where
  abbrev last : Token
  last = token_at text kinds.End (length text) 0

  -- The error is that at a token, which is the first fault.
  record Told (error : ParseError) : Type 0 where
    before : List Token
    token : Token
    after : List Token
    parts : tokens ≡ before ++ token ∷ after
    fault : FirstFault IsProgram (toks text are.front) (length after)
    is : error ≡ error_at token

  told_token : (line column : ℕ) (r : Reached text tokens line column) → (r.token.kind ≡ kinds.End → ⊥) → (Continues IsProgram (toks text (r.front ++ r.token ∷ [])) → ⊥) → Cut are.front last r.front r.token r.rest → Told (errors.Unexpected line column)
  told_token line column r k refused (Cut.at_end e f g) = absurd (k (ap (λ (q : Token). q.kind) f))
  told_token line column r k refused (Cut.inside b e f) =
      let spelled : toks text (r.front ++ r.token ∷ []) ≡ toks text r.front ++ tok_of text r.token ∷ [] = toks_append text r.front (r.token ∷ []) ∙ ap (λ (u : Toks). toks text r.front ++ u) (toks_more text r.token [] ∙ ap (λ (u : Toks). tok_of text r.token ∷ u) (toks_none text)) in
      record {
        before = r.front;
        token = r.token;
        after = r.rest;
        parts = r.parts;
        is = error_token line column r.token.kind r.token.at k r.place;
        fault = record {
          front = toks text r.front;
          rest = toks text (r.token ∷ b);
          parts = ap (toks text) e ∙ toks_append text r.front (r.token ∷ b);
          place = omega (arith, ap length f, length-append b (last ∷ []), toks_length text (r.token ∷ b));
          before = r.before;
          refused = subst (IsRefused IsProgram (toks text r.front)) (sym (toks_more text r.token b)) (subst (λ (u : Toks). Continues IsProgram u → ⊥) spelled refused);
        };
      }

  told_end : (line column : ℕ) (r : Reached text tokens line column) → r.token.kind ≡ kinds.End → ((xs : List Item) → IsProgram (toks text r.front) xs → ⊥) → Cut are.front last r.front r.token r.rest → Told (errors.UnexpectedEnd line column)
  told_end line column r k refused (Cut.inside b e f) = absurd (in_middle (λ (q : Token). q.kind ≢ kinds.End) r.front r.token b (subst (All (λ t. t.kind ≢ kinds.End)) e are.no_end) k)
  told_end line column r k refused (Cut.at_end e f g) = record {
    before = r.front;
    token = r.token;
    after = r.rest;
    parts = r.parts;
    is = error_end line column r.token.kind r.token.at k r.place;
    fault = record {
      front = toks text r.front;
      rest = [];
      parts = ap (toks text) e ∙ sym (append-nil (toks text r.front));
      place = ap length g;
      before = r.before;
      refused = refused;
    };
  }

  told : (error : ParseError) → error ≢ errors.OutOfMemory → Says error text tokens → Told error
  told errors.OutOfMemory n h = absurd (n refl)
  told (errors.Unexpected line column) n h = told_token line column h.0 h.1 h.2 (cut are.front last h.0.front h.0.token h.0.rest (sym are.parts ∙ h.0.parts))
  told (errors.UnexpectedEnd line column) n h = told_end line column h.0 h.1 h.2 (cut are.front last h.0.front h.0.token h.0.rest (sym are.parts ∙ h.0.parts))

  told_once : (one other : ParseError) → Told one → Told other → one ≡ other
  told_once one other h k =
      let lengths = exactly.only_one IsProgram (toks text are.front) (length h.after) (length k.after) h.fault k.fault in
      let same = same_cut h.before (h.token ∷ h.after) k.before (k.token ∷ k.after) (sym h.parts ∙ k.parts) (ap (λ n. suc n) lengths) in
      let rests = same.rests in
      let token : h.token ≡ k.token = cc in
      h.is ∙ ap error_at token ∙ sym k.is

  -- At most one place is the first fault.
  pub one_fault : (one other : ParseError) → one ≢ errors.OutOfMemory → other ≢ errors.OutOfMemory → Says one text tokens → Says other text tokens → one ≡ other
  one_fault one other n m h k = told_once one other (told one n h) (told other m k)

  fault_alone : (error : ParseError) → Told error → (p : Program) → IsProgramOf text tokens p → ⊥
  fault_alone error t p h =
      let same = ends_alike h.front are.front h.end last (cut h.front h.end are.front last [] (sym h.parts ∙ are.parts)) in
      exactly.no_fault IsProgram (toks text are.front) (length t.after) p.items t.fault (subst (λ (f : List Token). IsProgram (toks text f) p.items) same.0 h.spelled)

  -- No text with a fault has a program.
  pub no_program : (error : ParseError) → error ≢ errors.OutOfMemory → Says error text tokens → (p : Program) → IsProgramOf text tokens p → ⊥
  no_program error n s p h = fault_alone error (told error n s) p h
