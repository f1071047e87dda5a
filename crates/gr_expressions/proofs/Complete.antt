-- Expressions: what is spelled is read.
use Rattle.std.proofs.Common.{◌≡◌, ℕ, zero, suc, ◌+◌, ◌-◌, ◌<◌, false, [], ◌∷◌, ◌++◌, length, Some, None, Ok, Err, refl, sym, ap, subst, ◌∙◌, append_assoc, arith}
use Rattle.std.proofs.lemmas.List.{length-append}
use Rattle.gr_meets.specs.Parsers.{Outcome, Parser, and_then, ◌>>=◌, ◌>>◌, pure, skip, next, expect, either, peek, sees, spend, go_on, levels, onward}
use Rattle.gr_meets.specs.LanguageWords.{Meets, Completes}
use Rattle.gr_meets.specs.Lists.{Spends}
use Rattle.gr_meets.specs.ListsWords.{Loose}
use Rattle.gr_meets.proofs.Completes.{then_reads, expect_reads, either_first, either_second, look_reads, value_reads}
use Rattle.gr_meets.proofs.Levels.{levels_completes, levels_are}
use Rattle.gr_syntax.specs.declared.syntax.BinOp.{BinOp}
use Rattle.gr_syntax.specs.declared.syntax.Expr.{Expr}
use Rattle.gr_syntax.specs.declared.syntax.Expr.TheVariants as tree
use Rattle.gr_text.specs.declared.token.Sign.{Sign}
use Rattle.gr_text.specs.declared.token.Sign.TheVariants as signs
use Rattle.gr_expressions.specs.Tok.{Tok, is_sign, same_sign, sign_of, level_of, Toks}
use Rattle.gr_expressions.specs.TokWords.{atom_of, operator}
use Rattle.gr_expressions.specs.OperandsWords.{Counted, negation, two, atom, comparing, comparison, group, unary, expr, expr_from}
use Rattle.gr_expressions.specs.declared.limits.TheConstants.{LOOSEST, MAX_SIGNS}
use Rattle.gr_expressions.specs.Expressions.{IsUnary, IsLevel, IsComparison, IsExpr}
use Rattle.gr_expressions.proofs.TokenTests.{sign_test, operator_is, operator_own, operator_other}
use Rattle.gr_expressions.proofs.Exprs.{to_levels, unary_meets}

-- ---- what may follow

abbrev pub Any : Toks → Type 0
Any rest = Unit {0}

-- No binary sign comes next.
abbrev pub NoOperator : Toks → Type 0
NoOperator rest = Loose operator (suc LOOSEST) rest

pub operator_none : (g : Sign) (rest : Toks) → ((i : ℕ) → operator i (Tok.sign g) ≡ None) → NoOperator (Tok.sign g ∷ rest)
unfolding peek
operator_none g rest h = λ i k. h i

paren_none : (rest : Toks) → NoOperator (Tok.sign signs.RightParen ∷ rest)
unfolding peek operator
paren_none rest = λ i k. refl

-- Of one level alone is a token the sign.
apart : (i l : ℕ) (t : Tok) (o : BinOp) → operator l t ≡ Some o → i < l → operator i t ≡ None
apart i l t o h k = let q = operator_is l o t h in subst (λ (v : Tok). operator i v ≡ None) (sym q.is) (operator_other i l o q.at k)

-- ---- all operators

module _ (n : ℕ) (u : ℕ → Parser Tok Counted) (d : ℕ) (reads : (b : ℕ) → Meets (u b) (Spends (IsUnary d) b) (Spends (IsUnary d) b)) (c : (b : ℕ) → Completes n (u b) (Spends (IsUnary d) b) Any) where
  pub level_reads : {l m : ℕ} {ts : Toks} {x : Expr} → IsLevel d l ts x m → (b k : ℕ) → m + k ≡ b → (rest : Toks) → Loose operator l rest → length (ts ++ rest) < n → levels operator two u l b (ts ++ rest) ≡ Ok ((x, k), rest)
  level_reads {l} {m} {ts} {x} h b k sum rest f few =
      (levels_completes operator two u (IsUnary d) reads n Any c (λ l t o rest e. tt) apart l b).reads ts (x, k) (record { signs = m; spelled = to_levels h; sum = sum }) rest (tt, f) few

  compare_stops : (x : Counted) (rest : Toks) → peek (operator LOOSEST) rest ≡ None → comparing u x rest ≡ Ok (x, rest)
  unfolding comparing
  compare_stops x rest h = look_reads (operator LOOSEST) (go_on (pure x) (λ o. spend x.1 (λ b. skip >> (levels operator two u LOOSEST b >>= λ y. pure (two o x.0 y.0, y.1))))) h refl

  compare_goes : (x y : Expr) (b k : ℕ) (o : BinOp) (us rest : Toks) → level_of o ≡ LOOSEST → levels operator two u LOOSEST b us ≡ Ok ((y, k), rest) → comparing u (x, suc b) (Tok.sign (sign_of o) ∷ us) ≡ Ok ((tree.Two o x y, k), rest)
  unfolding comparing peek next
  compare_goes x y b k o us rest at h =
      ap (λ v. go_on (pure (x, suc b)) (λ o. spend (suc b) (λ b. skip >> (levels operator two u LOOSEST b >>= λ y. pure (two o x y.0, y.1)))) v (Tok.sign (sign_of o) ∷ us)) (operator_own LOOSEST o at)
      ∙ ap (λ v. and_then v (λ y. pure (two o x y.0, y.1))) h

  pub comparison_reads : {m : ℕ} {ts : Toks} {x : Expr} → IsComparison d ts x m → (b k : ℕ) → m + k ≡ b → (rest : Toks) → NoOperator rest → length (ts ++ rest) < n → comparison u b (ts ++ rest) ≡ Ok ((x, k), rest)
  unfolding comparison peek
  comparison_reads (IsComparison.one {count = m} {inside = ts} {inner = x} h) b k sum rest f few =
      then_reads (comparing u) (level_reads h b k sum rest (λ i j. f i (omega (arith, j))) few) (compare_stops (x, k) rest (f LOOSEST (omega arith)))
  comparison_reads (IsComparison.compared {count = p} {more = q} {front = a} {back = e} {left = x} {right = y} o at h g) b k sum rest f few =
      let cut : (a ++ Tok.sign (sign_of o) ∷ e) ++ rest ≡ a ++ Tok.sign (sign_of o) ∷ (e ++ rest) = append_assoc a (Tok.sign (sign_of o) ∷ e) rest in
      let size : length ((a ++ Tok.sign (sign_of o) ∷ e) ++ rest) ≡ length a + suc (length (e ++ rest)) = ap length cut ∙ length-append a (Tok.sign (sign_of o) ∷ (e ++ rest)) in
      ap (comparison u b) cut
      ∙ then_reads (comparing u) (level_reads h b (suc (q + k)) (omega (arith, sum)) (Tok.sign (sign_of o) ∷ (e ++ rest)) (λ i j. operator_other i LOOSEST o at j) (subst (λ (v : Toks). length v < n) cut few))
      (compare_goes x y (q + k) k o (e ++ rest) rest at (level_reads g (q + k) k refl rest (λ i j. f i (omega (arith, j))) (omega (arith, few, size))))

-- ---- operands

atom_reads : (t : Tok) (x : Expr) (b : ℕ) (rest : Toks) → atom_of t ≡ Some x → atom b (t ∷ rest) ≡ Ok ((x, b), rest)
unfolding atom
atom_reads t x b rest h = value_reads atom_of (λ x. pure (x, b)) rest h refl

pub unary_atom : (d : ℕ) (t : Tok) (x : Expr) (b : ℕ) (rest : Toks) → is_sign signs.Bang t ≡ false → is_sign signs.LeftParen t ≡ false → atom_of t ≡ Some x → unary d b (t ∷ rest) ≡ Ok ((x, b), rest)
unfolding unary sees
unary_atom zero t x b rest k j h = atom_reads t x b rest h
unary_atom (suc d) t x b rest k j h = either_second (is_sign signs.Bang) (unary d b >>= λ x. pure (negation x)) (either (is_sign signs.LeftParen) (group (comparison (unary d) b)) (atom b)) (t ∷ rest) k
    (either_second (is_sign signs.LeftParen) (group (comparison (unary d) b)) (atom b) (t ∷ rest) j (atom_reads t x b rest h))

-- A number or a local is an operand by itself.
pub first_reads : (d : ℕ) (t : Tok) (x : Expr) (b : ℕ) (rest : Toks) → atom_of t ≡ Some x → unary d b (t ∷ rest) ≡ Ok ((x, b), rest)
first_reads d (Tok.number v) x b rest h = unary_atom d (Tok.number v) x b rest refl refl h
first_reads d (Tok.name v) x b rest h = unary_atom d (Tok.name v) x b rest refl refl h
first_reads d (Tok.heap at) x b rest h = absurd cc
first_reads d (Tok.key w) x b rest h = absurd cc
first_reads d (Tok.sign g) x b rest h = absurd cc
first_reads d Tok.missing x b rest h = absurd cc

reads_not : (d b : ℕ) (c : Counted) (ts rest : Toks) → unary d b ts ≡ Ok (c, rest) → unary (suc d) b (Tok.sign signs.Bang ∷ ts) ≡ Ok (negation c, rest)
unfolding unary
reads_not d b c ts rest h = either_first (sign_test signs.Bang) (unary d b >>= λ x. pure (negation x)) (either (is_sign signs.LeftParen) (group (comparison (unary d) b)) (atom b)) ts (then_reads (λ x. pure (negation x)) h refl)

reads_group : (d b : ℕ) (c : Counted) (ts rest : Toks) → comparison (unary d) b ts ≡ Ok (c, Tok.sign signs.RightParen ∷ rest) → unary (suc d) b (Tok.sign signs.LeftParen ∷ ts) ≡ Ok (c, rest)
unfolding unary group sees same_sign
reads_group d b c ts rest h = either_second (is_sign signs.Bang) (unary d b >>= λ x. pure (negation x)) (either (is_sign signs.LeftParen) (group (comparison (unary d) b)) (atom b)) (Tok.sign signs.LeftParen ∷ ts) refl
    (either_first (sign_test signs.LeftParen) (group (comparison (unary d) b)) (atom b) ts (then_reads (λ x. expect (is_sign signs.RightParen) >> pure x) h (expect_reads (sign_test signs.RightParen) (pure c) rest refl)))

-- Operands with less room are read.
abbrev Below : ℕ → ℕ → Type 0
Below n d = (e : ℕ) → d ≡ suc e → (b : ℕ) → Completes n (unary e b) (Spends (IsUnary e) b) Any

unary_reads : {d m : ℕ} {ts : Toks} {x : Expr} → IsUnary d ts x m → (n : ℕ) → Below n d → (b k : ℕ) → m + k ≡ b → (rest : Toks) → length (ts ++ rest) < n → unary d b (ts ++ rest) ≡ Ok ((x, k), rest)
unary_reads (IsUnary.number {depth = d} {value = v}) n below b k sum rest few = let same : b ≡ k = omega (arith, sum) in first_reads d (Tok.number v) (tree.Lit v) b rest refl ∙ ap (λ (q : ℕ). Ok ((tree.Lit v, q), rest)) same
unary_reads (IsUnary.local {depth = d} {name = v}) n below b k sum rest few = let same : b ≡ k = omega (arith, sum) in first_reads d (Tok.name v) (tree.Local v) b rest refl ∙ ap (λ (q : ℕ). Ok ((tree.Local v, q), rest)) same
unary_reads (IsUnary.not {depth = d} {count = m} {inside = ts} {inner = x} h) n below b k sum rest few = reads_not d b (x, k) (ts ++ rest) rest ((below d refl b).reads ts (x, k) (record { signs = m; spelled = h; sum = sum }) rest tt (omega (arith, few)))
unary_reads (IsUnary.group {depth = d} {count = m} {inside = ts} {inner = x} h) n below b k sum rest few =
    let cut : (ts ++ Tok.sign signs.RightParen ∷ []) ++ rest ≡ ts ++ Tok.sign signs.RightParen ∷ rest = append_assoc ts (Tok.sign signs.RightParen ∷ []) rest in
    reads_group d b (x, k) ((ts ++ Tok.sign signs.RightParen ∷ []) ++ rest) rest
    (ap (comparison (unary d) b) cut ∙ comparison_reads n (unary d) d (unary_meets d) (below d refl) h b k sum (Tok.sign signs.RightParen ∷ rest) (paren_none rest) (omega (arith, few, ap length cut)))

none_below : (n : ℕ) → Below n 0
none_below n e h = absurd (omega (arith, h))

pub unary_completes : (n d b : ℕ) → Completes n (unary d b) (Spends (IsUnary d) b) Any
unary_completes n zero b = record { reads = λ ts x h rest f few. unary_reads h.spelled n (none_below n) b x.1 h.sum rest few }
unary_completes n (suc d) b = record {
  reads = λ ts x h rest f few. unary_reads h.spelled n
      (λ e g. let same : d ≡ e = omega (arith, g) in subst (λ (q : ℕ). (b : ℕ) → Completes n (unary q b) (Spends (IsUnary q) b) Any) same (unary_completes n d)) b x.1 h.sum rest few;
}

-- ---- expressions

expr_reads : (n d : ℕ) (ts : Toks) (x : Expr) → IsExpr d ts x → (rest : Toks) → NoOperator rest → length (ts ++ rest) < n → expr d (ts ++ rest) ≡ Ok (x, rest)
unfolding expr
expr_reads n d ts x h rest f few =
    let left : ℕ = MAX_SIGNS - h.count in
    then_reads (λ x. pure x.0) (comparison_reads n (unary d) d (unary_meets d) (unary_completes n d) h.spelled MAX_SIGNS left (omega (arith, h.few)) rest f few) refl

pub expr_completes : (n d : ℕ) → Completes n (expr d) (IsExpr d) NoOperator
expr_completes n d = record { reads = λ ts x h rest f few. expr_reads n d ts x h rest f few }

first_then : {A B C : Type 0} (o : Outcome Tok A) (p : A → Parser Tok B) (q : B → Parser Tok C) → and_then (and_then o p) q ≡ and_then o (λ x. p x >>= q)
first_then (Ok z) p q = refl
first_then (Err n) p q = refl

-- An expression that begins with a number or a local is what goes on from there.
pub expr_first : (d : ℕ) (t : Tok) (x : Expr) (ts : Toks) → atom_of t ≡ Some x → expr d (t ∷ ts) ≡ expr_from d x ts
unfolding expr expr_from comparison
expr_first d t x ts h =
    ap (λ o. and_then (and_then o (comparing (unary d))) (λ z. pure z.0)) (levels_are operator two (unary d) LOOSEST MAX_SIGNS (t ∷ ts) ∙ ap (λ o. and_then o (onward operator two (unary d) LOOSEST)) (first_reads d t x MAX_SIGNS ts h))
    ∙ first_then (onward operator two (unary d) LOOSEST (x, MAX_SIGNS) ts) (comparing (unary d)) (λ z. pure z.0)

-- What goes on behind the first token of an expression is read.
pub expr_from_completes : (n d : ℕ) (t : Tok) (x : Expr) → atom_of t ≡ Some x → Completes n (expr_from d x) (λ ts y. IsExpr d (t ∷ ts) y) NoOperator
expr_from_completes n d t x h = record { reads = λ ts y k rest f few. sym (expr_first d t x (ts ++ rest) h) ∙ expr_reads (suc n) d (t ∷ ts) y k rest f (omega (arith, few)) }
