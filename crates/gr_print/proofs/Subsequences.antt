-- Lists that are others with some elements left out.
use Rattle.std.proofs.Common.{◌≡◌, ℕ, ◌+◌, ◌≤◌, Bool, true, false, cond, if◌then◌else◌, List, [], ◌∷◌, ◌++◌, map, refl, ap, arith}
use Rattle.gr_text.specs.declared.token.Sign.TheVariants as s
use Rattle.gr_expressions.specs.Tok.{Tok, is_sign, Toks}
use Rattle.gr_print.specs.Unplaced.{unplaced_tok}
use Rattle.gr_print.specs.Printed.{IsSubsequence, brackets}

pub whole : {A : Type 0} (xs : List A) → IsSubsequence xs xs
whole [] = IsSubsequence.none
whole (x ∷ xs) = IsSubsequence.kept (whole xs)

-- More elements in front.
pub behind : {A : Type 0} (ys : List A) {xs zs : List A} → IsSubsequence xs zs → IsSubsequence xs (ys ++ zs)
behind [] h = h
behind (y ∷ ys) h = IsSubsequence.left_out (behind ys h)

-- One behind the other.
pub joined : {A : Type 0} {vs ws xs ys : List A} → IsSubsequence vs ws → IsSubsequence xs ys → IsSubsequence (vs ++ xs) (ws ++ ys)
joined (IsSubsequence.none {ys = ws}) k = behind ws k
joined (IsSubsequence.kept h) k = IsSubsequence.kept (joined h k)
joined (IsSubsequence.left_out h) k = IsSubsequence.left_out (joined h k)

-- More elements behind.
pub before : {A : Type 0} {xs ys : List A} (zs : List A) → IsSubsequence xs ys → IsSubsequence xs (ys ++ zs)
before zs IsSubsequence.none = IsSubsequence.none
before zs (IsSubsequence.kept h) = IsSubsequence.kept (before zs h)
before zs (IsSubsequence.left_out h) = IsSubsequence.left_out (before zs h)

pub then_more : {A : Type 0} {xs ys zs : List A} → IsSubsequence xs ys → IsSubsequence ys zs → IsSubsequence xs zs
then_more IsSubsequence.none k = IsSubsequence.none
then_more (IsSubsequence.kept h) (IsSubsequence.kept k) = IsSubsequence.kept (then_more h k)
then_more (IsSubsequence.kept h) (IsSubsequence.left_out k) = IsSubsequence.left_out (then_more (IsSubsequence.kept h) k)
then_more (IsSubsequence.left_out h) (IsSubsequence.kept k) = IsSubsequence.left_out (then_more h k)
then_more (IsSubsequence.left_out h) (IsSubsequence.left_out k) = IsSubsequence.left_out (then_more (IsSubsequence.left_out h) k)

count_kept : (v : Bool) (n m : ℕ) → n ≤ m → cond v (1 + n) n ≤ cond v (1 + m) m
count_kept true n m h = omega arith
count_kept false n m h = h

count_more : (v : Bool) (n m : ℕ) → n ≤ m → n ≤ cond v (1 + m) m
count_more true n m h = omega arith
count_more false n m h = h

-- No more brackets.
pub brackets_le : {xs ys : Toks} → IsSubsequence xs ys → brackets xs ≤ brackets ys
brackets_le IsSubsequence.none = omega arith
brackets_le (IsSubsequence.kept {x} {xs} {ys} h) = count_kept (is_sign s.LeftParen x) (brackets xs) (brackets ys) (brackets_le h)
brackets_le (IsSubsequence.left_out {y} {xs} {ys} h) = count_more (is_sign s.LeftParen y) (brackets xs) (brackets ys) (brackets_le h)

-- Places don't matter for that.
pub brackets_unplaced : (ts : Toks) → brackets (map unplaced_tok ts) ≡ brackets ts
brackets_unplaced [] = refl
brackets_unplaced (t ∷ ts) = by t (brackets_unplaced ts)
  where
    by : (t : Tok) → brackets (map unplaced_tok ts) ≡ brackets ts → brackets (map unplaced_tok (t ∷ ts)) ≡ brackets (t ∷ ts)
    by (Tok.name n) h = h
    by (Tok.number n) h = h
    by (Tok.heap at) h = h
    by (Tok.key word) h = h
    by (Tok.sign g) h = ap (λ (n : ℕ). if is_sign s.LeftParen (Tok.sign g) then 1 + n else n) h
    by Tok.missing h = h
