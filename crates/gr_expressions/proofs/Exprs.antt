-- Expressions: what was read is spelled so, and what was refused goes on until there.
use Rattle.std.proofs.Common.{◌≡◌, ℕ, zero, suc, ◌+◌, ◌≤◌, [], ◌∷◌, ◌++◌, Option, Some, None, Ok, refl, sym, subst, arith}
use Rattle.std.proofs.lemmas.List.{append-nil}
use Rattle.gr_meets.specs.Parsers.{Parser, ◌>>=◌, ◌>>◌, pure, skip, peek, spend, go_on, levels}
use Rattle.gr_meets.specs.LanguageWords.{Read, Meets}
use Rattle.gr_meets.specs.Lists.{Chained, Spends, Levels}
use Rattle.gr_meets.specs.ListsWords.{Onward}
use Rattle.gr_meets.proofs.Meets.{weaken, meets_pure, read_refuse, look_meets, skip_then, expect_then, either_meets, bind, value_then, peek_means}
use Rattle.gr_meets.proofs.Levels.{levels_meets, onward_meets}
use Rattle.gr_meets.proofs.Chains.{spends_less}
use Rattle.gr_syntax.specs.declared.syntax.BinOp.{BinOp}
use Rattle.gr_syntax.specs.declared.syntax.Number.{Number}
use Rattle.gr_syntax.specs.declared.syntax.Expr.{Expr}
use Rattle.gr_syntax.specs.declared.syntax.Expr.TheVariants as tree
use Rattle.gr_text.specs.declared.token.Sign.TheVariants as signs
use Rattle.gr_expressions.specs.Tok.{Tok, sign_of, Toks}
use Rattle.gr_expressions.specs.TokWords.{atom_of, operator}
use Rattle.gr_expressions.specs.OperandsWords.{Counted, negation, two, atom, comparing, comparison, group, unary, expr, expr_from}
use Rattle.gr_expressions.specs.declared.limits.TheConstants.{LOOSEST, MAX_SIGNS}
use Rattle.gr_expressions.specs.Expressions.{IsUnary, IsLevel, IsComparison, IsExpr}
use Rattle.gr_expressions.proofs.TokenTests.{sign_test, operator_is, operator_own, IsOperator}

-- ---- levels: the grammar's and those of the general parsers are the same

module _ (d : ℕ) where
  chained_level : (l : ℕ) (E : Toks → Expr → ℕ → Type 0) → ((ts : Toks) (x : Expr) (n : ℕ) → E ts x n → IsLevel d l ts x n) → {ts : Toks} {x : Expr} {n : ℕ} → Chained (operator l) two E ts x n → IsLevel d (suc l) ts x n
  chained_level l E f (Chained.one {inside = ts} {inner = x} {count = n} h) = IsLevel.tighter (f ts x n h)
  chained_level l E f (Chained.pair {front = a} {back = b} {left = x} {right = y} {count = n} {more = m} {op = o} t h e k) =
      let i = operator_is l o t e in
      subst (λ (q : Tok). IsLevel d (suc l) (a ++ q ∷ b) (tree.Two o x y) (suc (n + m))) (sym i.is) (IsLevel.two o i.at (chained_level l E f h) (f b y m k))

  pub from_levels : (l : ℕ) (ts : Toks) (x : Expr) (n : ℕ) → Levels operator two (IsUnary d) l ts x n → IsLevel d l ts x n
  from_levels zero ts x n h = IsLevel.unary h
  from_levels (suc l) ts x n h = chained_level l (Levels operator two (IsUnary d) l) (from_levels l) h

pub to_levels : {d l n : ℕ} {ts : Toks} {x : Expr} → IsLevel d l ts x n → Levels operator two (IsUnary d) l ts x n
to_levels (IsLevel.unary h) = h
to_levels (IsLevel.tighter h) = Chained.one (to_levels h)
to_levels (IsLevel.two {level = l} o at h k) = Chained.pair (Tok.sign (sign_of o)) (to_levels h) (operator_own l o at) (to_levels k)

spends_level : (d l b : ℕ) (ts : Toks) (x : Counted) → Spends (Levels operator two (IsUnary d) l) b ts x → Spends (IsLevel d l) b ts x
spends_level d l b ts x h = record { signs = h.signs; spelled = from_levels d l ts x.0 h.signs h.spelled; sum = h.sum }

-- ---- all operators

pub comparison_one : {d b : ℕ} {ts : Toks} {x : Counted} → Spends (IsLevel d LOOSEST) b ts x → Spends (IsComparison d) b ts x
comparison_one h = record { signs = h.signs; spelled = IsComparison.one h.spelled; sum = h.sum }

-- What goes on behind a first operand of a comparison.
abbrev pub Compared : ℕ → ℕ → Counted → Toks → Counted → Type 0
Compared d total x c y = (a : Toks) → Spends (IsLevel d LOOSEST) total a x → Spends (IsComparison d) total (a ++ c) y

alone : (d total : ℕ) (x : Counted) → Compared d total x [] x
alone d total x a f = subst (λ (u : Toks). Spends (IsComparison d) total u x) (sym (append-nil a)) (comparison_one f)

spends_compared : (d total b : ℕ) (a c : Toks) (x : Expr) (y : Counted) (o : BinOp) (t : Tok) → Spends (IsLevel d LOOSEST) total a (x, suc b) → IsOperator LOOSEST o t → Spends (IsLevel d LOOSEST) b c y
    → Spends (IsComparison d) total (a ++ t ∷ (c ++ [])) (tree.Two o x y.0, y.1)
spends_compared d total b a c x y o t f i g =
    let all : Spends (IsComparison d) total (a ++ Tok.sign (sign_of o) ∷ c) (tree.Two o x y.0, y.1) = record { signs = suc (f.signs + g.signs); spelled = IsComparison.compared o i.at f.spelled g.spelled; sum = omega (arith, f.sum, g.sum) } in
    subst (λ (v : Toks). Spends (IsComparison d) total (a ++ t ∷ v) (tree.Two o x y.0, y.1)) (sym (append-nil c))
    (subst (λ (v : Tok). Spends (IsComparison d) total (a ++ v ∷ c) (tree.Two o x y.0, y.1)) (sym i.is) all)

module _ (u : ℕ → Parser Tok Counted) (d : ℕ) (reads : (b : ℕ) → Meets (u b) (Spends (IsUnary d) b) (Spends (IsUnary d) b)) where
  pub levels_spend : (l b : ℕ) → Meets (levels operator two u l b) (Spends (IsLevel d l) b) (Spends (IsLevel d l) b)
  levels_spend l b = weaken (levels_meets operator two u (IsUnary d) reads l b) (λ ts x h. spends_level d l b ts x h) (λ ts x h. spends_level d l b ts x h)

  second : Counted → BinOp → ℕ → Parser Tok Counted
  second x o b = levels operator two u LOOSEST b >>= λ y. pure (two o x.0 y.0, y.1)

  compare_way : Counted → Option BinOp → Parser Tok Counted
  compare_way x = go_on (pure x) (λ o. spend x.1 (λ b. skip >> second x o b))

  module _ (total : ℕ) where
    compare_read : (x : Counted) (o : Option BinOp) (ts : Toks) → peek (operator LOOSEST) ts ≡ o → Read (compare_way x o) (Compared d total x) (Compared d total x) ts (compare_way x o ts)
    unfolding compare_way second
    compare_read x None ts h = (meets_pure {L = Compared d total x} {W = Compared d total x} (alone d total x)).at ts
    compare_read (x, zero) (Some o) ts h = read_refuse (Compared d total (x, 0)) (Compared d total (x, 0)) ts [] (x, 0) (alone d total (x, 0))
    compare_read (x, suc b) (Some o) ts h =
        let m = peek_means (operator LOOSEST) o ts h in
        let i = operator_is LOOSEST o m.token m.means in
        let K : Toks → Counted → Type 0 = λ c z. Compared d total (x, suc b) (m.token ∷ c) z in
        skip_then m.token (second (x, suc b) o b) (Compared d total (x, suc b)) (Compared d total (x, suc b)) ts m.heads
        (bind {K = K} {W = K} (levels_spend LOOSEST b)
        (λ y. meets_pure (λ c g a f. spends_compared d total b a c x y o m.token f i g))
        (λ c y g. ([], (tree.Two o x y.0, y.1), λ a f. spends_compared d total b a c x y o m.token f i g)))

    pub comparing_meets : (x : Counted) → Meets (comparing u x) (Compared d total x) (Compared d total x)
    unfolding comparing compare_way second
    comparing_meets x = look_meets (operator LOOSEST) (compare_way x) (compare_read x)

  pub comparison_meets : (b : ℕ) → Meets (comparison u b) (Spends (IsComparison d) b) (Spends (IsComparison d) b)
  unfolding comparison
  comparison_meets b = bind (levels_spend LOOSEST b)
      (λ x. weaken (comparing_meets b x) (λ c y h a f. h a f) (λ c y h a f. h a f))
      (λ a x f. ([], x, alone d b x a f))

-- ---- operands

pub atom_is : {d : ℕ} (t : Tok) (x : Expr) → atom_of t ≡ Some x → IsUnary d (t ∷ []) x 0
atom_is {d} (Tok.number n) x h = let k : tree.Lit n ≡ x = cc in subst (λ (q : Expr). IsUnary d (Tok.number n ∷ []) q 0) k IsUnary.number
atom_is {d} (Tok.name n) x h = let k : tree.Local n ≡ x = cc in subst (λ (q : Expr). IsUnary d (Tok.name n ∷ []) q 0) k IsUnary.local
atom_is (Tok.heap at) x h = absurd cc
atom_is (Tok.key w) x h = absurd cc
atom_is (Tok.sign g) x h = absurd cc
atom_is Tok.missing x h = absurd cc

atom_spends : (d b : ℕ) (t : Tok) (x : Expr) → atom_of t ≡ Some x → Spends (IsUnary d) b (t ∷ []) (x, b)
atom_spends d b t x h = record { signs = 0; spelled = atom_is t x h; sum = omega arith }

-- Some number, for what may stand where an operand is wanted.
abbrev pub nought : Number
nought = record { value = 0; at = record { line = 0; column = 0 } }

pub atom_meets : (d b : ℕ) → Meets (atom b) (Spends (IsUnary d) b) (Spends (IsUnary d) b)
unfolding atom
atom_meets d b = value_then (λ t x h. meets_pure (atom_spends d b t x h)) (Tok.number nought ∷ []) (tree.Lit nought, b) (atom_spends d b (Tok.number nought) (tree.Lit nought) refl)

negated : (d b : ℕ) (a : Toks) (x : Counted) → Spends (IsUnary d) b a x → Spends (IsUnary (suc d)) b (Tok.sign signs.Bang ∷ (a ++ [])) (negation x)
negated d b a x h = subst (λ (v : Toks). Spends (IsUnary (suc d)) b (Tok.sign signs.Bang ∷ v) (negation x)) (sym (append-nil a)) (record { signs = h.signs; spelled = IsUnary.not h.spelled; sum = h.sum })

grouped : (d b : ℕ) (a : Toks) (x : Counted) → Spends (IsComparison d) b a x → Spends (IsUnary (suc d)) b (Tok.sign signs.LeftParen ∷ (a ++ Tok.sign signs.RightParen ∷ [])) x
grouped d b a x h = record { signs = h.signs; spelled = IsUnary.group h.spelled; sum = h.sum }

pub unary_meets : (d b : ℕ) → Meets (unary d b) (Spends (IsUnary d) b) (Spends (IsUnary d) b)
unfolding unary group
unary_meets zero b = atom_meets 0 b
unary_meets (suc d) b =
    either_meets (sign_test signs.Bang)
    (bind (unary_meets d b) (λ x. meets_pure (λ a h. negated d b a x h)) (λ a x h. ([], negation x, negated d b a x h)))
    (either_meets (sign_test signs.LeftParen)
    (bind (comparison_meets (unary d) d (unary_meets d) b)
    (λ x. expect_then (sign_test signs.RightParen) (meets_pure (λ a h. grouped d b a x h)) [] x (λ a h. grouped d b a x h))
    (λ a x h. (Tok.sign signs.RightParen ∷ [], x, grouped d b a x h)))
    (atom_meets (suc d) b))

-- ---- expressions

made : (d : ℕ) (a : Toks) (x : Counted) → Spends (IsComparison d) MAX_SIGNS a x → IsExpr d a x.0
made d a x h = record { count = h.signs; spelled = h.spelled; few = omega (arith, h.sum) }

pub expr_meets : (d : ℕ) → Meets (expr d) (IsExpr d) (IsExpr d)
unfolding expr
expr_meets d = bind (comparison_meets (unary d) d (unary_meets d) MAX_SIGNS)
    (λ x. meets_pure (λ a h. subst (λ (v : Toks). IsExpr d v x.0) (sym (append-nil a)) (made d a x h)))
    (λ a x h. ([], x.0, subst (λ (v : Toks). IsExpr d v x.0) (sym (append-nil a)) (made d a x h)))

-- An expression of one number.
pub nought_is : (d : ℕ) → IsExpr d (Tok.number nought ∷ []) (tree.Lit nought)
nought_is d = record { count = 0; spelled = IsComparison.one (IsLevel.tighter (IsLevel.tighter (IsLevel.tighter (IsLevel.tighter (IsLevel.tighter (IsLevel.unary IsUnary.number)))))); few = omega arith }

module _ (d : ℕ) (t : Tok) (x : Expr) (h : atom_of t ≡ Some x) where
  from_first : (a c : Toks) (y z : Counted) → Onward operator two (IsUnary d) LOOSEST MAX_SIGNS (x, MAX_SIGNS) a y → Compared d MAX_SIGNS y c z → IsExpr d (t ∷ (a ++ c)) z.0
  from_first a c y z g k = made d (t ∷ (a ++ c)) z (k (t ∷ a) (spends_level d LOOSEST MAX_SIGNS (t ∷ a) y (g (t ∷ []) (atom_spends d MAX_SIGNS t x h))))

  -- What goes on behind the first token of an expression.
  pub expr_from_meets : Meets (expr_from d x) (λ c y. IsExpr d (t ∷ c) y) (λ c y. IsExpr d (t ∷ c) y)
  unfolding expr_from
  expr_from_meets = bind (onward_meets operator two (unary d) (IsUnary d) (unary_meets d) LOOSEST MAX_SIGNS (x, MAX_SIGNS))
      (λ y. bind (comparing_meets (unary d) d (unary_meets d) MAX_SIGNS y)
      (λ z. meets_pure (λ c k a g. from_first a (c ++ []) y z g (subst (λ (v : Toks). Compared d MAX_SIGNS y v z) (sym (append-nil c)) k)))
      (λ c z k. ([], z.0, λ a g. from_first a (c ++ []) y z g (subst (λ (v : Toks). Compared d MAX_SIGNS y v z) (sym (append-nil c)) k))))
      (λ a y g. ([], y.0, from_first a [] y y g (alone d MAX_SIGNS y)))

-- ---- measures

-- No more signs may come behind a level than before it.
pub levels_less : (d l b : ℕ) (ts : Toks) (x : Counted) (rest : Toks) → levels operator two (unary d) l b ts ≡ Ok (x, rest) → x.1 ≤ b
levels_less d l b ts x rest h = spends_less (levels_spend (unary d) d (unary_meets d) l b) ts x rest h
