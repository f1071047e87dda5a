-- Expressions over numbered locals, the expressions over names for which they stand, and the locals that take a reply's words.
use Rattle.std.specs.Prelude.{◌≡◌, ◌==◌, ℕ, suc, List, [], ◌∷◌, length, map, slice_index, slice_set, Option, Some, if◌then◌else◌}
use Rattle.std.specs.Option.{option_map, option_and_then}
use Rattle.std.specs.Str.{bytes_eq}
use Rattle.gr_syntax.specs.declared.syntax.Expr.{Expr}
use Rattle.gr_syntax.specs.declared.syntax.Name.{Name}
use Rattle.gr_lang.specs.declared.action.Reply.{Reply}
use Rattle.gr_lang.specs.Expressions.{combine, number_of, value}
use Rattle.gr_lang.specs.Next.{given}
use Rattle.gr_code.specs.declared.terms.Term.{Term, fold-Term}
use Rattle.gr_code.specs.declared.terms.Term.TheOpen.{Term-F}
use Rattle.gr_code.specs.declared.terms.Targets.{Targets}
use Rattle.gr_code.specs.declared.terms.Targets.TheVariants as targets

-- The number of a local among those of its task; past them all where the task has no local of that name.
abbrev pub number : List (List ℕ) → List ℕ → ℕ
number [] name = 0
number (n ∷ names) name = if bytes_eq n name then 0 else suc (number names name)

-- The word of one node, from the words of its operands.
abbrev pub term_step : List ℕ → Term-F (Option ℕ) → Option ℕ
term_step words (Term-F.Word word) = Some word
term_step words (Term-F.Local at) = Some (slice_index words at)
term_step words (Term-F.Not inner) = option_map (λ w. number_of (w == 0)) inner
term_step words (Term-F.Two sign left right) = option_and_then (λ a. option_and_then (λ b. combine sign a b) right) left

-- The word of a term where the locals have these words, or nothing where it divides by 0.
abbrev pub term_value : List ℕ → Term → Option ℕ
term_value words = fold-Term (Option ℕ) (term_step words)

-- The words of some terms, from left to right.
abbrev pub term_values : List ℕ → List Term → Option (List ℕ)
term_values words [] = Some []
term_values words (t ∷ more) = option_and_then (λ w. option_map (λ ws. w ∷ ws) (term_values words more)) (term_value words t)

-- The term has the word of the expression, whatever the words of these locals are.
abbrev pub IsTermOf : List (List ℕ) → Term → Expr → Type 0
IsTermOf names term expr = (words : List ℕ) → length words ≡ length names → term_value words term ≡ value (given names words) expr

-- So does each of these terms.
abbrev pub AreTermsOf : List (List ℕ) → List Term → List Expr → Type 0
AreTermsOf names terms exprs = (words : List ℕ) → length words ≡ length names → map (term_value words) terms ≡ map (value (given names words)) exprs

-- The numbers of the first two targets.
abbrev pub targets_in : List (List ℕ) → List Name → Targets
targets_in names [] = targets.Empty
targets_in names (first ∷ []) = targets.One (number names first.text)
targets_in names (first ∷ second ∷ more) = targets.Two (number names first.text) (number names second.text)

-- The words of the locals after the first target has taken a word.
abbrev pub put_word : Targets → ℕ → List ℕ → List ℕ
put_word targets.Empty word words = words
put_word (targets.One first) word words = slice_set words first word
put_word (targets.Two first second) word words = slice_set words first word

-- The words of the locals after the targets have taken a reply's words, from left to right.
abbrev pub put_reply : Targets → Reply → List ℕ → List ℕ
put_reply targets.Empty reply words = words
put_reply (targets.One first) reply words = slice_set words first reply.first
put_reply (targets.Two first second) reply words = slice_set (slice_set words first reply.first) second reply.second
