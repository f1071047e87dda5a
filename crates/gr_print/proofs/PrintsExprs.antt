-- The tokens that are laid out for an expression spell it, in the room of any other spelling of it, and each spelling has them.
use Rattle.std.proofs.Common.{◌≡◌, ℕ, zero, suc, ◌+◌, ◌-◌, ◌≤◌, ◌<◌, Bool, true, false, cond, [], ◌∷◌, ◌++◌, map, refl, sym, ap, subst, ◌∙◌, arith, inl, inr, ◌==◌}
use Rattle.std.proofs.lemmas.List.{map-append}
use Rattle.std.proofs.lemmas.Bool.{cases_lt}
use Rattle.gr_syntax.specs.declared.syntax.Name.{Name}
use Rattle.gr_syntax.specs.declared.syntax.Number.{Number}
use Rattle.gr_syntax.specs.declared.syntax.BinOp.{BinOp}
use Rattle.gr_syntax.specs.declared.syntax.BinOp.TheVariants as op
use Rattle.gr_syntax.specs.declared.syntax.Expr.{Expr}
use Rattle.gr_syntax.specs.declared.syntax.Expr.TheVariants as e
use Rattle.gr_text.specs.declared.token.Sign.TheVariants as s
use Rattle.gr_expressions.specs.Tok.{Tok, sign_of, level_of, Toks}
use Rattle.gr_expressions.specs.declared.limits.TheConstants.{LOOSEST}
use Rattle.gr_expressions.specs.Expressions.{IsUnary, IsLevel, IsComparison, IsExpr}
use Rattle.gr_print.specs.Unplaced.{unplaced_name, unplaced_number, unplaced_tok, unplaced_expr}
use Rattle.gr_print.specs.Pieces.{Piece, Layout, name, number, sign}
use Rattle.gr_print.specs.Layout.{Shown, shown, below, bracketed, joined, left_level, expr}
use Rattle.gr_print.specs.Printed.{IsSubsequence}
use Rattle.gr_print.proofs.Layouts.{shown_lit, shown_local, shown_not, shown_two, below_bare, below_more}
use Rattle.gr_print.proofs.Respelled.{each_nil, each_sign, each_name, each_number, each_part, each_last, Freely, weaken}
use Rattle.gr_print.proofs.Samenesses.{same_lit, same_local, same_not, same_two}
use Rattle.gr_print.proofs.Seen.{tokens_of, tokens_of-append}
use Rattle.gr_print.proofs.Subsequences as part

-- ---- levels, with the comparisons as the sixth

pub data IsUnder (d : ℕ) : ℕ → Toks → Expr → ℕ → Type 0 where
  level : {l n : ℕ} {ts : Toks} {x : Expr} → l ≤ 5 → IsLevel d l ts x n → IsUnder d l ts x n
  comparison : {l n : ℕ} {ts : Toks} {x : Expr} → l ≡ 6 → IsComparison d ts x n → IsUnder d l ts x n

as_level : {d l n : ℕ} {ts : Toks} {x : Expr} → l ≤ 5 → IsUnder d l ts x n → IsLevel d l ts x n
as_level low (IsUnder.level h p) = p
as_level low (IsUnder.comparison same p) = absurd (omega arith)

as_comparison : {d l n : ℕ} {ts : Toks} {x : Expr} → l ≡ 6 → IsUnder d l ts x n → IsComparison d ts x n
as_comparison six (IsUnder.level h p) = absurd (omega arith)
as_comparison six (IsUnder.comparison same p) = p

at_zero : {d n : ℕ} {ts : Toks} {x : Expr} → IsLevel d 0 ts x n → IsUnary d ts x n
at_zero (IsLevel.unary h) = h

looser : (d l : ℕ) (ts : Toks) (x : Expr) (n : ℕ) → suc l ≤ 6 → IsUnder d l ts x n → IsUnder d (suc l) ts x n
looser d l ts x n h (IsUnder.comparison same p) = absurd (omega arith)
looser d l ts x n h (IsUnder.level low p) = elim (cases_lt l 5) [
  | inl less ↦ IsUnder.level (omega arith) (IsLevel.tighter p)
  | inr five ↦ (let same : l ≡ LOOSEST = omega arith in IsUnder.comparison (omega arith) (IsComparison.one (subst (λ (m : ℕ). IsLevel d m ts x n) same p)))
]

much_looser : (d l : ℕ) (ts : Toks) (x : Expr) (n k : ℕ) → k + l ≤ 6 → IsUnder d l ts x n → IsUnder d (k + l) ts x n
much_looser d l ts x n zero h p = let same : 0 + l ≡ l = omega arith in subst (λ (m : ℕ). IsUnder d m ts x n) (sym same) p
much_looser d l ts x n (suc k) h p =
    let same : suc k + l ≡ suc (k + l) = omega arith in
    subst (λ (m : ℕ). IsUnder d m ts x n) (sym same) (looser d (k + l) ts x n (omega arith) (much_looser d l ts x n k (omega arith) p))

raised : (d l m : ℕ) (ts : Toks) (x : Expr) (n : ℕ) → l ≤ m → m ≤ 6 → IsUnder d l ts x n → IsUnder d m ts x n
raised d l m ts x n h low p = let same : (m - l) + l ≡ m = omega arith in subst (λ (k : ℕ). IsUnder d k ts x n) same (much_looser d l ts x n (m - l) (omega arith) p)

mutual
  unary_roomy : {d n : ℕ} {ts : Toks} {x : Expr} → IsUnary d ts x n → IsUnary (suc d) ts x n
  unary_roomy IsUnary.number = IsUnary.number
  unary_roomy IsUnary.local = IsUnary.local
  unary_roomy (IsUnary.not h) = IsUnary.not (unary_roomy h)
  unary_roomy (IsUnary.group h) = IsUnary.group (comparison_roomy h)

  level_roomy : {d l n : ℕ} {ts : Toks} {x : Expr} → IsLevel d l ts x n → IsLevel (suc d) l ts x n
  level_roomy (IsLevel.unary h) = IsLevel.unary (unary_roomy h)
  level_roomy (IsLevel.tighter h) = IsLevel.tighter (level_roomy h)
  level_roomy (IsLevel.two o e p q) = IsLevel.two o e (level_roomy p) (level_roomy q)

  comparison_roomy : {d n : ℕ} {ts : Toks} {x : Expr} → IsComparison d ts x n → IsComparison (suc d) ts x n
  comparison_roomy (IsComparison.one h) = IsComparison.one (level_roomy h)
  comparison_roomy (IsComparison.compared o e p q) = IsComparison.compared o e (level_roomy p) (level_roomy q)

roomy : {d l n : ℕ} {ts : Toks} {x : Expr} → IsUnder d l ts x n → IsUnder (suc d) l ts x n
roomy (IsUnder.level h p) = IsUnder.level h (level_roomy p)
roomy (IsUnder.comparison h p) = IsUnder.comparison h (comparison_roomy p)

-- ---- what is laid out

-- These tokens spell x below level l, wherever their places are.
abbrev pub Spell : ℕ → ℕ → Toks → Expr → ℕ → Type 0
Spell d l ws x n = Freely unplaced_expr (λ ts y. IsUnder d l ts y n) ws x

-- What a spelling of x in room d, below level l, says of what is laid out.
pub record Prints (d l : ℕ) (ts : Toks) (x : Expr) (n : ℕ) : Type 0 where
  pub low : (shown x).rank ≤ 6
  pub natural : Spell d (shown x).rank (tokens_of (shown x).bare) x n
  -- brackets come only where there is room
  pub room : l < (shown x).rank → (c : ℕ) × (d ≡ suc c) × Spell c (shown x).rank (tokens_of (shown x).bare) x n
  pub within : IsSubsequence (tokens_of (below l (shown x))) (map unplaced_tok ts)

tokens_of-bracketed : (ps : Layout) → tokens_of (bracketed ps) ≡ Tok.sign s.LeftParen ∷ (tokens_of ps ++ Tok.sign s.RightParen ∷ [])
tokens_of-bracketed ps = ap (λ (ts : Toks). Tok.sign s.LeftParen ∷ ts) (tokens_of-append ps (sign s.RightParen ∷ []))

grouped : (d : ℕ) (ws : Toks) (x : Expr) (n : ℕ) → Spell d 6 ws x n → Spell (suc d) 0 (Tok.sign s.LeftParen ∷ (ws ++ Tok.sign s.RightParen ∷ [])) x n
grouped d ws x n h = record {
  each = each_sign s.LeftParen (each_part h (λ f y p same. each_sign s.RightParen (each_nil (record {
    tree = y;
    spelled = IsUnder.level (omega arith) (IsLevel.unary (IsUnary.group (as_comparison refl p)));
    same = same;
  }))));
}

spelled : (d l : ℕ) (ts : Toks) (x : Expr) (n : ℕ) → l ≤ 6 → Prints d l ts x n → Spell d l (tokens_of (below l (shown x))) x n
spelled d l ts x n h p = elim (cases_lt l (shown x).rank) [
  | inl lt ↦ let r = p.room lt in
      let inner : Spell r.0 6 (tokens_of (shown x).bare) x n = weaken (λ us y q. raised r.0 (shown x).rank 6 us y n p.low (omega arith) q) r.2 in
      let outer : Spell (suc r.0) l (Tok.sign s.LeftParen ∷ (tokens_of (shown x).bare ++ Tok.sign s.RightParen ∷ [])) x n = weaken (λ us y q. raised (suc r.0) 0 l us y n (omega arith) h q) (grouped r.0 (tokens_of (shown x).bare) x n inner) in
      subst (λ (u : Toks). Spell d l u x n) (sym (ap tokens_of (below_more l (shown x) lt) ∙ tokens_of-bracketed (shown x).bare))
      (subst (λ (m : ℕ). Spell m l (Tok.sign s.LeftParen ∷ (tokens_of (shown x).bare ++ Tok.sign s.RightParen ∷ [])) x n) (sym r.1) outer)
  | inr le ↦ subst (λ (u : Toks). Spell d l u x n) (sym (ap tokens_of (below_bare l (shown x) le))) (weaken (λ us y q. raised d (shown x).rank l us y n le h q) p.natural)
]

-- The same, by an equation for what is laid out.
prints_as : (d l : ℕ) (ts : Toks) (x : Expr) (n : ℕ) (w : Shown) → shown x ≡ w → w.rank ≤ l → w.rank ≤ 6 → Spell d w.rank (tokens_of w.bare) x n → IsSubsequence (tokens_of w.bare) (map unplaced_tok ts) → Prints d l ts x n
prints_as d l ts x n w is le low natural within = record {
  low = subst (λ (v : Shown). v.rank ≤ 6) (sym is) low;
  natural = subst (λ (v : Shown). Spell d v.rank (tokens_of v.bare) x n) (sym is) natural;
  room = λ lt. absurd (omega (arith, ap (λ (v : Shown). v.rank) is));
  within = subst (λ (v : Shown). IsSubsequence (tokens_of (below l v)) (map unplaced_tok ts)) (sym is) (subst (λ (ps : Layout). IsSubsequence (tokens_of ps) (map unplaced_tok ts)) (sym (below_bare l w le)) within);
}

-- ---- by the derivation

-- The bare layout is a part of the bracketed one.
bare_part : (ps : Layout) → IsSubsequence (tokens_of ps) (tokens_of (bracketed ps))
bare_part ps = subst (IsSubsequence (tokens_of ps)) (sym (tokens_of-bracketed ps)) (IsSubsequence.left_out (part.before (Tok.sign s.RightParen ∷ []) (part.whole (tokens_of ps))))

-- Fewer brackets where more may stand without them.
fewer : (l : ℕ) (x : Shown) → IsSubsequence (tokens_of (below (suc l) x)) (tokens_of (below l x))
fewer l x = elim (cases_lt l x.rank) [
  | inl lt ↦ subst (λ (ps : Layout). IsSubsequence (tokens_of (below (suc l) x)) (tokens_of ps)) (sym (below_more l x lt)) (elim (cases_lt (suc l) x.rank) [
    | inl lt2 ↦ subst (λ (ps : Layout). IsSubsequence (tokens_of ps) (tokens_of (bracketed x.bare))) (sym (below_more (suc l) x lt2)) (part.whole (tokens_of (bracketed x.bare)))
    | inr le ↦ subst (λ (ps : Layout). IsSubsequence (tokens_of ps) (tokens_of (bracketed x.bare))) (sym (below_bare (suc l) x le)) (bare_part x.bare)
  ])
  | inr le ↦ subst (λ (ps : Layout). IsSubsequence (tokens_of (below (suc l) x)) (tokens_of ps)) (sym (below_bare l x le))
      (subst (λ (ps : Layout). IsSubsequence (tokens_of ps) (tokens_of x.bare)) (sym (below_bare (suc l) x (omega arith))) (part.whole (tokens_of x.bare)))
]

-- At most one pair of brackets is around the bare layout.
at_most_grouped : (l : ℕ) (x : Shown) → IsSubsequence (tokens_of (below l x)) (tokens_of (bracketed x.bare))
at_most_grouped l x = elim (cases_lt l x.rank) [
  | inl lt ↦ subst (λ (ps : Layout). IsSubsequence (tokens_of ps) (tokens_of (bracketed x.bare))) (sym (below_more l x lt)) (part.whole (tokens_of (bracketed x.bare)))
  | inr le ↦ subst (λ (ps : Layout). IsSubsequence (tokens_of ps) (tokens_of (bracketed x.bare))) (sym (below_bare l x le)) (bare_part x.bare)
]

group_case : (d : ℕ) (ts : Toks) (x : Expr) (n : ℕ) → Prints d 6 ts x n → Prints (suc d) 0 (Tok.sign s.LeftParen ∷ (ts ++ Tok.sign s.RightParen ∷ [])) x n
group_case d ts x n p =
    let inner : IsSubsequence (tokens_of (shown x).bare) (map unplaced_tok ts) = subst (λ (ps : Layout). IsSubsequence (tokens_of ps) (map unplaced_tok ts)) (below_bare 6 (shown x) p.low) p.within in
    let outer : IsSubsequence (tokens_of (bracketed (shown x).bare)) (Tok.sign s.LeftParen ∷ (map unplaced_tok ts ++ Tok.sign s.RightParen ∷ [])) =
    subst (λ (us : Toks). IsSubsequence us (Tok.sign s.LeftParen ∷ (map unplaced_tok ts ++ Tok.sign s.RightParen ∷ []))) (sym (tokens_of-bracketed (shown x).bare)) (IsSubsequence.kept (part.joined inner (part.whole (Tok.sign s.RightParen ∷ [])))) in
    record {
      low = p.low;
      natural = weaken (λ us y q. roomy q) p.natural;
      room = λ lt. (d, refl, p.natural);
      within = subst (λ (us : Toks). IsSubsequence (tokens_of (below 0 (shown x))) (Tok.sign s.LeftParen ∷ us)) (sym (map-append unplaced_tok ts (Tok.sign s.RightParen ∷ []))) (part.then_more (at_most_grouped 0 (shown x)) outer);
    }

looser_case : (d l : ℕ) (ts : Toks) (x : Expr) (n : ℕ) → Prints d l ts x n → Prints d (suc l) ts x n
looser_case d l ts x n p = record {
  low = p.low;
  natural = p.natural;
  room = λ lt. p.room (omega arith);
  within = part.then_more (fewer l (shown x)) p.within;
}

not_case : (d : ℕ) (ts : Toks) (x : Expr) (n : ℕ) → Prints d 0 ts x n → Prints (suc d) 0 (Tok.sign s.Bang ∷ ts) (e.Not x) n
not_case d ts x n p = prints_as (suc d) 0 (Tok.sign s.Bang ∷ ts) (e.Not x) n (record { rank = 0; bare = sign s.Bang ∷ below 0 (shown x) }) (shown_not x) (omega arith) (omega arith)
    (record {
      each = each_sign s.Bang (each_last (spelled d 0 ts x n (omega arith) p) (λ f y q same. record {
        tree = e.Not y;
        spelled = IsUnder.level (omega arith) (IsLevel.unary (IsUnary.not (at_zero (as_level (omega arith) q))));
        same = same_not y x same;
      }));
    })
    (IsSubsequence.kept p.within)

-- Two operands below these levels, as the grammar puts them together.
abbrev Joins : ℕ → BinOp → Type 0
Joins d o = (a b : Toks) (x y : Expr) (n m : ℕ) → IsUnder d (left_level (level_of o)) a x n → IsUnder d (level_of o) b y m → IsUnder d (suc (level_of o)) (a ++ Tok.sign (sign_of o) ∷ b) (e.Two o x y) (suc (n + m))

small_level : (o : BinOp) → level_of o ≤ 5
small_level op.Eq = omega arith
small_level op.Ne = omega arith
small_level op.Lt = omega arith
small_level op.Le = omega arith
small_level op.Gt = omega arith
small_level op.Ge = omega arith
small_level op.Or = omega arith
small_level op.Xor = omega arith
small_level op.And = omega arith
small_level op.Add = omega arith
small_level op.Sub = omega arith
small_level op.Mul = omega arith
small_level op.Div = omega arith
small_level op.Rem = omega arith

two_case : (d : ℕ) (o : BinOp) (a b : Toks) (x y : Expr) (n m : ℕ) → left_level (level_of o) ≤ 6 → Joins d o → Prints d (left_level (level_of o)) a x n → Prints d (level_of o) b y m
    → Prints d (suc (level_of o)) (a ++ Tok.sign (sign_of o) ∷ b) (e.Two o x y) (suc (n + m))
two_case d o a b x y n m low joins p q =
    let small = small_level o in
    let one = below (left_level (level_of o)) (shown x) in
    let other = below (level_of o) (shown y) in
    let parts : tokens_of (joined o (shown x) (shown y)) ≡ tokens_of one ++ Tok.sign (sign_of o) ∷ tokens_of other = tokens_of-append one (Piece.blank ∷ sign (sign_of o) ∷ Piece.blank ∷ other) in
    prints_as d (suc (level_of o)) (a ++ Tok.sign (sign_of o) ∷ b) (e.Two o x y) (suc (n + m)) (record { rank = suc (level_of o); bare = joined o (shown x) (shown y) }) (shown_two o x y) (omega arith) (omega arith)
    (subst (λ (u : Toks). Spell d (suc (level_of o)) u (e.Two o x y) (suc (n + m))) (sym parts)
    (record {
      each = each_part (spelled d (left_level (level_of o)) a x n low p) (λ f z g same. each_sign (sign_of o) (each_last (spelled d (level_of o) b y m (omega arith) q) (λ h w k alike. record {
        tree = e.Two o z w;
        spelled = joins f h z w n m g k;
        same = same_two o z w x y same alike;
      })));
    }))
    (subst (λ (u : Toks). IsSubsequence u (map unplaced_tok (a ++ Tok.sign (sign_of o) ∷ b))) (sym parts)
    (subst (IsSubsequence (tokens_of one ++ Tok.sign (sign_of o) ∷ tokens_of other)) (sym (map-append unplaced_tok a (Tok.sign (sign_of o) ∷ b))) (part.joined p.within (IsSubsequence.kept q.within))))

left_low : (l : ℕ) → l ≤ 4 → left_level l ≡ suc l
left_low l h = let other : (l == LOOSEST) ≡ false = grind arith in ap (λ (v : Bool). cond v LOOSEST (suc l)) other

left_same : (l : ℕ) → l ≡ LOOSEST → left_level l ≡ LOOSEST
left_same l h = let same : (l == LOOSEST) ≡ true = grind arith in ap (λ (v : Bool). cond v LOOSEST (suc l)) same

joins_level : (d : ℕ) (o : BinOp) → level_of o ≤ 4 → Joins d o
joins_level d o h a b x y n m p q =
    let one : IsLevel d (suc (level_of o)) a x n = as_level (omega arith) (subst (λ (l : ℕ). IsUnder d l a x n) (left_low (level_of o) h) p) in
    let other : IsLevel d (level_of o) b y m = as_level (omega arith) q in
    IsUnder.level (omega arith) (IsLevel.two o refl one other)

joins_comparison : (d : ℕ) (o : BinOp) → level_of o ≡ LOOSEST → Joins d o
joins_comparison d o h a b x y n m p q =
    let one : IsLevel d LOOSEST a x n = as_level (omega arith) (subst (λ (l : ℕ). IsUnder d l a x n) (left_same (level_of o) h) p) in
    let other : IsLevel d LOOSEST b y m = as_level (omega arith) (subst (λ (l : ℕ). IsUnder d l b y m) h q) in
    IsUnder.comparison (omega arith) (IsComparison.compared o h one other)

two_with : (d l : ℕ) (o : BinOp) (a b : Toks) (x y : Expr) (n m : ℕ) → level_of o ≡ l → suc l ≤ 5 → Prints d (suc l) a x n → Prints d l b y m → Prints d (suc l) (a ++ Tok.sign (sign_of o) ∷ b) (e.Two o x y) (suc (n + m))
two_with d l o a b x y n m same low p q =
    subst (λ (k : ℕ). suc k ≤ 5 → Prints d (suc k) a x n → Prints d k b y m → Prints d (suc k) (a ++ Tok.sign (sign_of o) ∷ b) (e.Two o x y) (suc (n + m))) same
    (λ h p q.
    let left = left_low (level_of o) (omega arith) in
    two_case d o a b x y n m (omega arith) (joins_level d o (omega arith)) (subst (λ (k : ℕ). Prints d k a x n) (sym left) p) q)
    low p q

compared_with : (d : ℕ) (o : BinOp) (a b : Toks) (x y : Expr) (n m : ℕ) → level_of o ≡ LOOSEST → Prints d LOOSEST a x n → Prints d LOOSEST b y m → Prints d 6 (a ++ Tok.sign (sign_of o) ∷ b) (e.Two o x y) (suc (n + m))
compared_with d o a b x y n m same p q =
    let left = left_same (level_of o) same in
    let six : suc (level_of o) ≡ 6 = omega arith in
    subst (λ (k : ℕ). Prints d k (a ++ Tok.sign (sign_of o) ∷ b) (e.Two o x y) (suc (n + m))) six
    (two_case d o a b x y n m (omega arith) (joins_comparison d o same) (subst (λ (k : ℕ). Prints d k a x n) (sym left) p) (subst (λ (k : ℕ). Prints d k b y m) (sym same) q))

number_case : (d : ℕ) (v : Number) → Prints d 0 (Tok.number v ∷ []) (e.Lit v) 0
number_case d v = prints_as d 0 (Tok.number v ∷ []) (e.Lit v) 0 (record { rank = 0; bare = number v ∷ [] }) (shown_lit v) (omega arith) (omega arith)
    (record { each = each_number v (λ w same. each_nil (record { tree = e.Lit w; spelled = IsUnder.level (omega arith) (IsLevel.unary IsUnary.number); same = same_lit w v same })) })
    (part.whole (Tok.number (unplaced_number v) ∷ []))

local_case : (d : ℕ) (v : Name) → Prints d 0 (Tok.name v ∷ []) (e.Local v) 0
local_case d v = prints_as d 0 (Tok.name v ∷ []) (e.Local v) 0 (record { rank = 0; bare = name v ∷ [] }) (shown_local v) (omega arith) (omega arith)
    (record { each = each_name v (λ w same. each_nil (record { tree = e.Local w; spelled = IsUnder.level (omega arith) (IsLevel.unary IsUnary.local); same = same_local w v same })) })
    (part.whole (Tok.name (unplaced_name v) ∷ []))

mutual
  unary_prints : {d n : ℕ} {ts : Toks} {x : Expr} → IsUnary d ts x n → Prints d 0 ts x n
  unary_prints (IsUnary.number {depth = d} {value = v}) = number_case d v
  unary_prints (IsUnary.local {depth = d} {name = v}) = local_case d v
  unary_prints (IsUnary.not {depth = d} {count = n} {inside = ts} {inner = x} h) = not_case d ts x n (unary_prints h)
  unary_prints (IsUnary.group {depth = d} {count = n} {inside = ts} {inner = x} h) = group_case d ts x n (comparison_prints h)

  level_prints : {d l n : ℕ} {ts : Toks} {x : Expr} → IsLevel d l ts x n → l ≤ 5 → Prints d l ts x n
  level_prints (IsLevel.unary h) low = unary_prints h
  level_prints (IsLevel.tighter {depth = d} {level = l} {count = n} {inside = ts} {inner = x} h) low = looser_case d l ts x n (level_prints h (omega arith))
  level_prints (IsLevel.two {depth = d} {level = l} {count = n} {more = m} {front = a} {back = c} {left = x} {right = y} o same p q) low = two_with d l o a c x y n m same low (level_prints p low) (level_prints q (omega arith))

  comparison_prints : {d n : ℕ} {ts : Toks} {x : Expr} → IsComparison d ts x n → Prints d 6 ts x n
  comparison_prints (IsComparison.one {depth = d} {count = n} {inside = ts} {inner = x} h) = looser_case d 5 ts x n (level_prints h (omega arith))
  comparison_prints (IsComparison.compared {depth = d} {count = n} {more = m} {front = a} {back = c} {left = x} {right = y} o same p q) = compared_with d o a c x y n m same (level_prints p (omega arith)) (level_prints q (omega arith))

-- ---- whole expressions

-- The tokens of the layout spell x wherever their places are, and are among those of this spelling.
pub record Written {A : Type 0} (bare : A → A) (L : Toks → A → Type 0) (ps : Layout) (ts : Toks) (x : A) : Type 0 where
  pub spelled : Freely bare L (tokens_of ps) x
  pub within : IsSubsequence (tokens_of ps) (map unplaced_tok ts)

pub expr_written : (d : ℕ) (ts : Toks) (x : Expr) → IsExpr d ts x → Written unplaced_expr (IsExpr d) (expr x) ts x
expr_written d ts x h =
    let p = comparison_prints h.spelled in
    record {
      spelled = weaken (λ us y q. record { count = h.count; spelled = as_comparison refl q; few = h.few }) (spelled d 6 ts x h.count (omega arith) p);
      within = p.within;
    }
