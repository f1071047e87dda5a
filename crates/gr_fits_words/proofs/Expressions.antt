-- Expressions give words, where their numbers and the locals are words.
use Rattle.std.proofs.Common.{◌≡◌, ℕ, ◌^◌, ◌==◌, Bool, true, false, List, [], ◌∷◌, Option, Some, None, if◌then◌else◌, sym, ◌∙◌, subst, bytes_eq}
use Rattle.std.specs.Option.{option_map, option_and_then}
use Rattle.gr_syntax.specs.declared.syntax.Expr.{Expr, roll-Expr}
use Rattle.gr_syntax.specs.declared.syntax.Expr.TheOpen.{Expr-F}
use Rattle.gr_syntax.specs.declared.syntax.Expr.TheFolds.{ind-Expr, map-Expr, fold-roll-Expr}
use Rattle.gr_syntax.specs.declared.syntax.BinOp.{BinOp}
use Rattle.gr_lang.specs.Locals.{Locals, word_of, set_word}
use Rattle.gr_lang.specs.Expressions.{number_of, combine, value_step, value, values}
use Rattle.gr_net.specs.Sums.{Each}
use Rattle.gr_fits_words.specs.Literals.{expr_step, expr_fits, exprs_fit}
use Rattle.gr_fits_words.specs.Words.{IsWord, MayBeWord, LocalsHaveWords}
use Rattle.gr_fits_words.proofs.Numbers.{both, below, nought, number_word, combined}

-- ---- locals

word_found : (locals : Locals) (name : List ℕ) → LocalsHaveWords locals → IsWord (word_of locals name)
word_found [] name h = nought
word_found (l ∷ more) name h = by (bytes_eq l.0 name) (word_found more name h.1)
  where
    by : (t : Bool) → IsWord (word_of more name) → IsWord (if t then l.1 else word_of more name)
    by true k = h.0
    by false k = k

pub word_set : (locals : Locals) (name : List ℕ) (w : ℕ) → LocalsHaveWords locals → IsWord w → LocalsHaveWords (set_word locals name w)
word_set [] name w h k = tt
word_set (l ∷ more) name w h k = by (bytes_eq l.0 name) (word_set more name w h.1 k)
  where
    by : (t : Bool) → LocalsHaveWords (set_word more name w) → LocalsHaveWords (if t then (l.0, w) ∷ more else l ∷ set_word more name w)
    by true g = (k, h.1)
    by false g = (h.0, g)

-- ---- expressions

not_word : (o : Option ℕ) → MayBeWord (option_map (λ w. number_of (w == 0)) o)
not_word None = tt
not_word (Some w) = number_word (w == 0)

two_words : (s : BinOp) (one other : Option ℕ) → MayBeWord one → MayBeWord other → MayBeWord (option_and_then (λ a. option_and_then (λ b. combine s a b) other) one)
two_words s None other h k = tt
two_words s (Some a) None h k = tt
two_words s (Some a) (Some b) h k = combined s a b h k

module _ (locals : Locals) (known : LocalsHaveWords locals) where
  abbrev Good : Expr → Type 0
  Good x = expr_fits x ≡ true → MayBeWord (value locals x)

  abbrev Held : Type 0
  Held = (x : Expr) × Good x

  -- One node, from what its numbers and its operands give.
  node : (y : Expr-F Expr) (b : Bool) (w : Option ℕ) → expr_fits (roll-Expr y) ≡ b → value locals (roll-Expr y) ≡ w → (b ≡ true → MayBeWord w) → Good (roll-Expr y)
  node y b w e f k h = subst MayBeWord (sym f) (k (sym e ∙ h))

  level : (y : Expr-F Held) → Good (roll-Expr (map-Expr Held Expr (λ x. x.0) y))
  level (Expr-F.Lit v) = node (Expr-F.Lit v) _ _ (fold-roll-Expr Bool expr_step (Expr-F.Lit v)) (fold-roll-Expr (Option ℕ) (value_step locals) (Expr-F.Lit v)) (λ h. below v.value (2 ^ 64) h)
  level (Expr-F.Local v) =
      node (Expr-F.Local v) _ _ (fold-roll-Expr Bool expr_step (Expr-F.Local v)) (fold-roll-Expr (Option ℕ) (value_step locals) (Expr-F.Local v)) (λ h. word_found locals v.text known)
  level (Expr-F.Not x) =
      node (Expr-F.Not x.0) _ _ (fold-roll-Expr Bool expr_step (Expr-F.Not x.0)) (fold-roll-Expr (Option ℕ) (value_step locals) (Expr-F.Not x.0)) (λ h. not_word (value locals x.0))
  level (Expr-F.Two s x y) =
      node (Expr-F.Two s x.0 y.0) _ _ (fold-roll-Expr Bool expr_step (Expr-F.Two s x.0 y.0)) (fold-roll-Expr (Option ℕ) (value_step locals) (Expr-F.Two s x.0 y.0))
      (λ h. let k = both (expr_fits x.0) (expr_fits y.0) h in two_words s (value locals x.0) (value locals y.0) (x.1 k.0) (y.1 k.1))

  pub expr_word : (x : Expr) → expr_fits x ≡ true → MayBeWord (value locals x)
  expr_word = ind-Expr Good (λ x y is. subst (λ z. Good (roll-Expr z)) is (level y))

  -- Some expressions give words, if they give any.
  abbrev pub MayBeWords : Option (List ℕ) → Type 0
  MayBeWords None = Unit {0}
  MayBeWords (Some ws) = Each IsWord ws

  one_more : (w : Option ℕ) (ws : Option (List ℕ)) → MayBeWord w → MayBeWords ws → MayBeWords (option_and_then (λ w. option_map (λ ws. w ∷ ws) ws) w)
  one_more None ws h k = tt
  one_more (Some w) None h k = tt
  one_more (Some w) (Some ws) h k = (h, k)

  pub exprs_words : (es : List Expr) → exprs_fit es ≡ true → MayBeWords (values locals es)
  exprs_words [] h = tt
  exprs_words (x ∷ xs) h = let k = both (expr_fits x) (exprs_fit xs) h in one_more (value locals x) (values locals xs) (expr_word x k.0) (exprs_words xs k.1)
