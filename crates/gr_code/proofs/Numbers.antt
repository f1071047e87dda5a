-- Locals by number are locals by name.
use Rattle.std.proofs.Common.{◌≡◌, ℕ, suc, true, false, List, [], ◌∷◌, length, refl, ap, sym, ◌∙◌, arith, cond, slice_index, slice_set, map, Option, Some}
use Rattle.std.proofs.lemmas.List.{length-set}
use Rattle.std.specs.Str.{bytes_eq}
use Rattle.std.specs.Option.{option_map, option_and_then}
use Rattle.gr_syntax.specs.declared.syntax.Expr.{Expr, the_lemmas as expr_lemmas}
use Rattle.gr_syntax.specs.declared.syntax.Expr.TheVariants as x
use Rattle.gr_syntax.specs.declared.syntax.Name.{Name}
use Rattle.gr_lang.specs.declared.action.Reply.{Reply}
use Rattle.gr_lang.specs.Locals.{Locals, word_of, set_word}
use Rattle.gr_lang.specs.Next.{given, set_all, reply_words}
use Rattle.gr_lang.specs.Expressions.{value, values}
use Rattle.gr_code.specs.declared.terms.Term.{Term, the_lemmas as term_lemmas}
use Rattle.gr_code.specs.declared.terms.Term.TheVariants as t
use Rattle.gr_code.specs.Terms.{number, term_value, term_values, AreTermsOf, targets_in, put_word, put_reply}

pub word_of-given : (names : List (List ℕ)) (ws : List ℕ) (name : List ℕ) → length ws ≡ length names → word_of (given names ws) name ≡ slice_index ws (number names name)
word_of-given [] [] name e = refl
word_of-given [] (w ∷ ws) name e = absurd (omega arith)
word_of-given (n ∷ ns) [] name e = absurd (omega arith)
word_of-given (n ∷ ns) (w ∷ ws) name e =
    elim (bytes_eq n name) as (λ b. cond b w (word_of (given ns ws) name) ≡ slice_index (w ∷ ws) (cond b 0 (suc (number ns name)))) [
      | true ↦ refl
      | false ↦ word_of-given ns ws name (omega arith)
    ]

pub set_word-given : (names : List (List ℕ)) (ws : List ℕ) (name : List ℕ) (v : ℕ) → length ws ≡ length names → set_word (given names ws) name v ≡ given names (slice_set ws (number names name) v)
set_word-given [] [] name v e = refl
set_word-given [] (w ∷ ws) name v e = absurd (omega arith)
set_word-given (n ∷ ns) [] name v e = absurd (omega arith)
set_word-given (n ∷ ns) (w ∷ ws) name v e =
    elim (bytes_eq n name) as (λ b. cond b ((n, v) ∷ given ns ws) ((n, w) ∷ set_word (given ns ws) name v) ≡ given (n ∷ ns) (slice_set (w ∷ ws) (cond b 0 (suc (number ns name))) v)) [
      | true ↦ refl
      | false ↦ ap (λ l. (n, w) ∷ l) (set_word-given ns ws name v (omega arith))
    ]

pub put_word-given : (names : List (List ℕ)) (ws : List ℕ) (targets : List Name) (w : ℕ) → length ws ≡ length names → set_all (given names ws) targets (w ∷ []) ≡ given names (put_word (targets_in names targets) w ws)
put_word-given names ws [] w e = refl
put_word-given names ws (n ∷ []) w e = set_word-given names ws n.text w e
put_word-given names ws (n ∷ m ∷ ns) w e = set_word-given names ws n.text w e

-- Further targets take nothing, since a reply has two words.
past_two : (l : Locals) (targets : List Name) → set_all l targets [] ≡ l
past_two l [] = refl
past_two l (n ∷ ns) = refl

pub put_reply-given : (names : List (List ℕ)) (ws : List ℕ) (targets : List Name) (w : Reply) → length ws ≡ length names
    → set_all (given names ws) targets (reply_words w) ≡ given names (put_reply (targets_in names targets) w ws)
put_reply-given names ws [] w e = refl
put_reply-given names ws (n ∷ []) w e = set_word-given names ws n.text w.first e
put_reply-given names ws (n ∷ m ∷ ns) w e =
    rw (past_two (set_word (set_word (given names ws) n.text w.first) m.text w.second) ns)
    (ap (λ l. set_word l m.text w.second) (set_word-given names ws n.text w.first e)
    ∙ set_word-given names (slice_set ws (number names n.text) w.first) m.text w.second (length-set ws (number names n.text) w.first ∙ e))

abbrev sequenced : List (Option ℕ) → Option (List ℕ)
sequenced [] = Some []
sequenced (o ∷ os) = option_and_then (λ w. option_map (λ ws. w ∷ ws) (sequenced os)) o

values_map : (l : Locals) (es : List Expr) → values l es ≡ sequenced (map (value l) es)
values_map l [] = refl
values_map l (e ∷ es) = ap (λ o. option_and_then (λ w. option_map (λ ws. w ∷ ws) o) (value l e)) (values_map l es)

terms_map : (ws : List ℕ) (ts : List Term) → term_values ws ts ≡ sequenced (map (term_value ws) ts)
terms_map ws [] = refl
terms_map ws (r ∷ rs) = ap (λ o. option_and_then (λ w. option_map (λ ws. w ∷ ws) o) (term_value ws r)) (terms_map ws rs)

pub are_terms : (names : List (List ℕ)) (ts : List Term) (es : List Expr) (ws : List ℕ) → AreTermsOf names ts es → length ws ≡ length names → term_values ws ts ≡ values (given names ws) es
are_terms names ts es ws h e = terms_map ws ts ∙ ap sequenced (h ws e) ∙ sym (values_map (given names ws) es)

term_at : (ws : List ℕ) (at : ℕ) → term_value ws (t.Local at) ≡ Some (slice_index ws at)
term_at ws at = search term_lemmas

value_at : (l : Locals) (name : Name) → value l (x.Local name) ≡ Some (word_of l name.text)
value_at l name = search expr_lemmas

pub term_local : (names : List (List ℕ)) (ws : List ℕ) (e : Expr) (name : Name) (at : ℕ) → length ws ≡ length names → at ≡ number names name.text → e ≡ x.Local name → term_value ws (t.Local at) ≡ value (given names ws) e
term_local names ws e name at l n is = rw (is, n) (term_at ws (number names name.text) ∙ ap Some (sym (word_of-given names ws name.text l)) ∙ sym (value_at (given names ws) name))
