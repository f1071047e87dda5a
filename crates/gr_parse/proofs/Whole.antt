-- Whole texts: what the parser says of the tokens is what the text says.
use Rattle.std.proofs.Common.{◌≡◌, ◌≢◌, ℕ, ◌<◌, List, [], ◌∷◌, ◌++◌, length, All, Ok, Err, refl, sym, ap, subst, ◌∙◌, arith}
use Rattle.std.proofs.lemmas.List.{append-nil, append_cancel_left, length-append, length-map, map-append}
use Rattle.std.proofs.lemmas.List.Elements.{All-head, All-tail}
use Rattle.gr_meets.specs.Faults.{Continues, IsRefused, FirstFault}
use Rattle.gr_meets.proofs.FirstFaults as exactly
use Rattle.gr_syntax.specs.declared.syntax.Item.{Item}
use Rattle.gr_syntax.specs.declared.syntax.Program.{Program}
use Rattle.gr_text.specs.declared.token.Token.{Token}
use Rattle.gr_text.specs.declared.token.TokenKind.TheVariants as kinds
use Rattle.gr_expressions.specs.Tok.{tok_of, toks, Toks}
use Rattle.gr_parse.specs.declared.fault.ParseError.TheVariants as errors
use Rattle.gr_parse.specs.ParsingWords.{program}
use Rattle.gr_parse.specs.Grammar.{IsProgram, IsProgramOf, Reached, Says}
use Rattle.gr_parse.proofs.Agree.{exact}

-- ---- lists

-- Where a list with one element behind it is cut at one element.
pub data Cut {A : Type 0} (front : List A) (end : A) (a : List A) (t : A) (r : List A) : Type 0 where
  at_end : front ≡ a → t ≡ end → r ≡ [] → Cut front end a t r
  inside : (b : List A) → front ≡ a ++ t ∷ b → r ≡ b ++ end ∷ [] → Cut front end a t r

one_more : {A : Type 0} (u x : A) (front a : List A) (end t : A) (r : List A) → u ≡ x → Cut front end a t r → Cut (u ∷ front) end (x ∷ a) t r
one_more u x front a end t r e (Cut.at_end f g h) = let same : u ∷ front ≡ x ∷ a = cc in Cut.at_end same g h
one_more u x front a end t r e (Cut.inside b f h) = let same : u ∷ front ≡ x ∷ (a ++ t ∷ b) = cc in Cut.inside b same h

pub cut : {A : Type 0} (front : List A) (end : A) (a : List A) (t : A) (r : List A) → front ++ end ∷ [] ≡ a ++ t ∷ r → Cut front end a t r
cut [] end [] t r e = let last : t ≡ end = cc in let none : r ≡ [] = cc in Cut.at_end refl last none
cut [] end (x ∷ a) t r e = absurd (omega (arith, ap length e, length-append a (t ∷ r)))
cut (u ∷ front) end [] t r e = let head : u ≡ t = cc in let tail : front ++ end ∷ [] ≡ r = cc in Cut.inside front (ap (λ q. q ∷ front) head) (sym tail)
cut (u ∷ front) end (x ∷ a) t r e = let head : u ≡ x = cc in let tail : front ++ end ∷ [] ≡ a ++ t ∷ r = cc in one_more u x front a end t r head (cut front end a t r tail)

pub record Same {A : Type 0} (a f b r : List A) : Type 0 where
  pub fronts : a ≡ f
  pub rests : b ≡ r

pub same_cut : {A : Type 0} (a b f r : List A) → a ++ b ≡ f ++ r → length b ≡ length r → Same a f b r
same_cut a b f r e h = let fronts : a ≡ f = exactly.same_cut a b f r e h in record { fronts = fronts; rests = append_cancel_left f b r (ap (λ q. q ++ b) (sym fronts) ∙ e) }

pub in_middle : {A : Type 0} (P : A → Type 0) (a : List A) (t : A) (b : List A) → All P (a ++ t ∷ b) → P t
in_middle P [] t b h = All-head P t b h
in_middle P (u ∷ a) t b h = in_middle P a t b (All-tail P u (a ++ t ∷ b) h)

-- ---- tokens

pub toks_length : (text : List ℕ) (tokens : List Token) → length (toks text tokens) ≡ length tokens
unfolding toks
toks_length text tokens = length-map tokens (tok_of text)

pub toks_append : (text : List ℕ) (a b : List Token) → toks text (a ++ b) ≡ toks text a ++ toks text b
unfolding toks
toks_append text a b = map-append (tok_of text) a b

pub toks_more : (text : List ℕ) (t : Token) (b : List Token) → toks text (t ∷ b) ≡ tok_of text t ∷ toks text b
unfolding toks
toks_more text t b = refl

pub toks_none : (text : List ℕ) → toks text [] ≡ []
unfolding toks
toks_none text = refl

-- ---- what the parser says

module _ (text : List ℕ) (tokens front : List Token) (end : Token) (parts : tokens ≡ front ++ end ∷ []) (ended : end.kind ≡ kinds.End) where
  -- What was read is the text's program.
  pub program_found : (n : ℕ) (xs : List Item) (rest : Toks) → program n (toks text front) ≡ Ok (xs, rest) → IsProgramOf text tokens (record { items = xs; end = end.at })
  program_found n xs rest e = record { front = front; end = end; parts = parts; ended = ended; spelled = exactly.found exact n (toks text front) xs rest e; place = refl }

  other_front : (f : List Token) (e : Token) → Cut front end f e [] → (f ≡ front) × (e ≡ end)
  other_front f e (Cut.at_end p q r) = (sym p, q)
  other_front f e (Cut.inside b p q) = absurd (omega (arith, ap length q, length-append b (end ∷ [])))

  -- The text's program is read.
  pub program_read : (n : ℕ) (p : Program) → length front < n → IsProgramOf text tokens p → (program n (toks text front) ≡ Ok (p.items, [])) × (p.end ≡ end.at)
  program_read n p few h =
      let same = other_front h.front h.end (cut front end h.front h.end [] (sym parts ∙ h.parts)) in
      let spelled : IsProgram (toks text front) p.items = subst (λ (f : List Token). IsProgram (toks text f) p.items) same.0 h.spelled in
      (exact.reads n (toks text front) p.items spelled (omega (arith, few, toks_length text front)), h.place ∙ ap (λ (q : Token). q.at) same.1)

  module _ (no_end : All (λ t. t.kind ≢ kinds.End) front) (n : ℕ) (few : length front < n) (left : ℕ) (refuses : program n (toks text front) ≡ Err left) where
    first : FirstFault IsProgram (toks text front) left
    first = exactly.first_fault exact n (toks text front) left (omega (arith, few, toks_length text front)) refuses

    module _ (a : List Token) (t : Token) (r : List Token) (cuts : tokens ≡ a ++ t ∷ r) (place : length r ≡ left) where
      -- The tokens before the fault and from there on, as the grammar sees them.
      seen : (b : List Token) → front ≡ a ++ b → length b ≡ left → Same (toks text a) first.front (toks text b) first.rest
      seen b e h = same_cut (toks text a) (toks text b) first.front first.rest (sym (toks_append text a b) ∙ ap (toks text) (sym e) ∙ first.parts) (toks_length text b ∙ h ∙ first.place)

      abbrev reached : toks text a ≡ first.front → Reached text tokens t.at.line t.at.column
      reached e = record { front = a; token = t; rest = r; parts = cuts; place = refl; before = subst (Continues IsProgram) (sym e) first.before }

      refused_end : first.rest ≡ [] → toks text a ≡ first.front → (xs : List Item) → IsProgram (toks text a) xs → ⊥
      refused_end e f = subst (λ (u : Toks). (xs : List Item) → IsProgram u xs → ⊥) (sym f) (subst (IsRefused IsProgram first.front) e first.refused)

      refused_token : (b : List Token) → toks text (t ∷ b) ≡ first.rest → toks text a ≡ first.front → Continues IsProgram (toks text (a ++ t ∷ [])) → ⊥
      refused_token b e f =
          let refused : IsRefused IsProgram (toks text a) (tok_of text t ∷ toks text b) = subst (λ (u : Toks). IsRefused IsProgram u (tok_of text t ∷ toks text b)) (sym f)
          (subst (IsRefused IsProgram first.front) (sym e ∙ toks_more text t b) first.refused) in
          let spelled : toks text (a ++ t ∷ []) ≡ toks text a ++ tok_of text t ∷ [] = toks_append text a (t ∷ []) ∙ ap (λ (u : Toks). toks text a ++ u) (toks_more text t [] ∙ ap (λ (u : Toks). tok_of text t ∷ u) (toks_none text)) in
          subst (λ (u : Toks). Continues IsProgram u → ⊥) (sym spelled) refused

      end_of : t.kind ≡ kinds.End → Cut front end a t r → Says (errors.UnexpectedEnd t.at.line t.at.column) text tokens
      end_of k (Cut.at_end e f g) =
          let same = seen [] (e ∙ sym (append-nil a)) (sym (ap length g) ∙ place) in
          (reached same.fronts, k, refused_end (sym same.rests ∙ toks_none text) same.fronts)
      end_of k (Cut.inside b e f) = absurd (in_middle (λ (q : Token). q.kind ≢ kinds.End) a t b (subst (All (λ t. t.kind ≢ kinds.End)) e no_end) k)

      token_of : (t.kind ≡ kinds.End → ⊥) → Cut front end a t r → Says (errors.Unexpected t.at.line t.at.column) text tokens
      token_of k (Cut.at_end e f g) = absurd (k (ap (λ (q : Token). q.kind) f ∙ ended))
      token_of k (Cut.inside b e f) =
          let same = seen (t ∷ b) e (omega (arith, place, ap length f, length-append b (end ∷ []))) in
          (reached same.fronts, k, refused_token b same.rests same.fronts)

      -- The fault is at the end.
      pub fault_at_end : t.kind ≡ kinds.End → Says (errors.UnexpectedEnd t.at.line t.at.column) text tokens
      fault_at_end k = end_of k (cut front end a t r (sym parts ∙ cuts))

      -- The fault is at this token.
      pub fault_at_token : (t.kind ≡ kinds.End → ⊥) → Says (errors.Unexpected t.at.line t.at.column) text tokens
      fault_at_token k = token_of k (cut front end a t r (sym parts ∙ cuts))
