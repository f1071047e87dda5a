-- Facts of each sign.
use Rattle.std.proofs.Common.{◌≡◌, ℕ, zero, suc, ◌<◌, ◌≤◌, Bool, true, false, cond, [], ◌∷◌, length, get_or, take, Option, Some, None, refl, sym, ap, ◌∙◌, arith, inl, inr}
use Rattle.std.specs.Prelude.{◌⊎◌, ◌==◌, ◌&&◌, if◌then◌else◌}
use Rattle.std.proofs.lemmas.List.{length-take-le}
use Rattle.std.proofs.lemmas.Bool.{eqb-true}
use Rattle.gr_text.proofs.Runs.{and_first, and_second}
use Rattle.gr_text.specs.declared.token.Sign.{Sign}
use Rattle.gr_text.specs.declared.token.Sign.TheVariants.{LeftParen, RightParen, LeftBrace, RightBrace, LeftBracket, RightBracket, Semicolon, Comma, Dot, DotDot, Assign, EqualEqual, BangEqual, Less, LessEqual, Greater, GreaterEqual, Plus, Minus, Star, Slash, Percent, Ampersand, Bar, Caret, Bang}
use Rattle.gr_text.specs.Spelling.{sign_bytes}
use Rattle.gr_text.specs.FrontWords.{single_sign, double_sign, front_sign, or_else}
use Rattle.gr_syntax.specs.Names.{is_letter, is_digit}
use Rattle.gr_text.specs.Text.{Text, is_white}

few_or_many : (n : ℕ) → (n ≤ 1) ⊎ (1 < n)
few_or_many zero = inl (omega arith)
few_or_many (suc zero) = inl (omega arith)
few_or_many (suc (suc n)) = inr (omega arith)

pub record OfOne (s : Sign) : Type 0 where
  b : ℕ
  bytes : sign_bytes s ≡ b ∷ []
  found : single_sign b ≡ Some s

pub record OfTwo (s : Sign) : Type 0 where
  a : ℕ
  b : ℕ
  bytes : sign_bytes s ≡ a ∷ b ∷ []
  found : double_sign a b ≡ Some s

-- A sign is one byte or two, and is told by them.
shape : (s : Sign) → OfOne s ⊎ OfTwo s
shape LeftParen = inl (record { b = 40; bytes = refl; found = refl })
shape RightParen = inl (record { b = 41; bytes = refl; found = refl })
shape LeftBrace = inl (record { b = 123; bytes = refl; found = refl })
shape RightBrace = inl (record { b = 125; bytes = refl; found = refl })
shape LeftBracket = inl (record { b = 91; bytes = refl; found = refl })
shape RightBracket = inl (record { b = 93; bytes = refl; found = refl })
shape Semicolon = inl (record { b = 59; bytes = refl; found = refl })
shape Comma = inl (record { b = 44; bytes = refl; found = refl })
shape Dot = inl (record { b = 46; bytes = refl; found = refl })
shape DotDot = inr (record { a = 46; b = 46; bytes = refl; found = refl })
shape Assign = inl (record { b = 61; bytes = refl; found = refl })
shape EqualEqual = inr (record { a = 61; b = 61; bytes = refl; found = refl })
shape BangEqual = inr (record { a = 33; b = 61; bytes = refl; found = refl })
shape Less = inl (record { b = 60; bytes = refl; found = refl })
shape LessEqual = inr (record { a = 60; b = 61; bytes = refl; found = refl })
shape Greater = inl (record { b = 62; bytes = refl; found = refl })
shape GreaterEqual = inr (record { a = 62; b = 61; bytes = refl; found = refl })
shape Plus = inl (record { b = 43; bytes = refl; found = refl })
shape Minus = inl (record { b = 45; bytes = refl; found = refl })
shape Star = inl (record { b = 42; bytes = refl; found = refl })
shape Slash = inl (record { b = 47; bytes = refl; found = refl })
shape Percent = inl (record { b = 37; bytes = refl; found = refl })
shape Ampersand = inl (record { b = 38; bytes = refl; found = refl })
shape Bar = inl (record { b = 124; bytes = refl; found = refl })
shape Caret = inl (record { b = 94; bytes = refl; found = refl })
shape Bang = inl (record { b = 33; bytes = refl; found = refl })

-- A sign begins with no byte of a name, of a number or of what is blank.
pub record Head (b : ℕ) : Type 0 where
  pub letter : is_letter b ≡ false
  pub digit : is_digit b ≡ false
  pub white : is_white b ≡ false
  pub hash : (b == 35) ≡ false

pub sign_head : (s : Sign) → Head (get_or (sign_bytes s) 0 0)
sign_head LeftParen = record { letter = refl; digit = refl; white = refl; hash = refl }
sign_head RightParen = record { letter = refl; digit = refl; white = refl; hash = refl }
sign_head LeftBrace = record { letter = refl; digit = refl; white = refl; hash = refl }
sign_head RightBrace = record { letter = refl; digit = refl; white = refl; hash = refl }
sign_head LeftBracket = record { letter = refl; digit = refl; white = refl; hash = refl }
sign_head RightBracket = record { letter = refl; digit = refl; white = refl; hash = refl }
sign_head Semicolon = record { letter = refl; digit = refl; white = refl; hash = refl }
sign_head Comma = record { letter = refl; digit = refl; white = refl; hash = refl }
sign_head Dot = record { letter = refl; digit = refl; white = refl; hash = refl }
sign_head DotDot = record { letter = refl; digit = refl; white = refl; hash = refl }
sign_head Assign = record { letter = refl; digit = refl; white = refl; hash = refl }
sign_head EqualEqual = record { letter = refl; digit = refl; white = refl; hash = refl }
sign_head BangEqual = record { letter = refl; digit = refl; white = refl; hash = refl }
sign_head Less = record { letter = refl; digit = refl; white = refl; hash = refl }
sign_head LessEqual = record { letter = refl; digit = refl; white = refl; hash = refl }
sign_head Greater = record { letter = refl; digit = refl; white = refl; hash = refl }
sign_head GreaterEqual = record { letter = refl; digit = refl; white = refl; hash = refl }
sign_head Plus = record { letter = refl; digit = refl; white = refl; hash = refl }
sign_head Minus = record { letter = refl; digit = refl; white = refl; hash = refl }
sign_head Star = record { letter = refl; digit = refl; white = refl; hash = refl }
sign_head Slash = record { letter = refl; digit = refl; white = refl; hash = refl }
sign_head Percent = record { letter = refl; digit = refl; white = refl; hash = refl }
sign_head Ampersand = record { letter = refl; digit = refl; white = refl; hash = refl }
sign_head Bar = record { letter = refl; digit = refl; white = refl; hash = refl }
sign_head Caret = record { letter = refl; digit = refl; white = refl; hash = refl }
sign_head Bang = record { letter = refl; digit = refl; white = refl; hash = refl }

pub some_sign : (s : Sign) → 0 < length (sign_bytes s)
some_sign s = by (shape s)
  where
    by : OfOne s ⊎ OfTwo s → 0 < length (sign_bytes s)
    by (inl x) = omega (arith, ap length x.bytes)
    by (inr x) = omega (arith, ap length x.bytes)

pub same_sign : (s r : Sign) → sign_bytes s ≡ sign_bytes r → s ≡ r
same_sign s r e = same_shape (shape s) (shape r)
  where
    same_shape : OfOne s ⊎ OfTwo s → OfOne r ⊎ OfTwo r → s ≡ r
    same_shape (inl x) (inl y) = let both : x.b ∷ [] ≡ y.b ∷ [] = sym x.bytes ∙ e ∙ y.bytes in let same : x.b ≡ y.b = cc in let out : Some s ≡ Some r = sym x.found ∙ ap single_sign same ∙ y.found in cc
    same_shape (inl x) (inr y) = let both : x.b ∷ [] ≡ y.a ∷ y.b ∷ [] = sym x.bytes ∙ e ∙ y.bytes in absurd cc
    same_shape (inr x) (inl y) = let both : x.a ∷ x.b ∷ [] ≡ y.b ∷ [] = sym x.bytes ∙ e ∙ y.bytes in absurd cc
    same_shape (inr x) (inr y) = let both : x.a ∷ x.b ∷ [] ≡ y.a ∷ y.b ∷ [] = sym x.bytes ∙ e ∙ y.bytes in let first : x.a ≡ y.a = cc in let second : x.b ≡ y.b = cc in let out : Some s ≡ Some r = sym x.found ∙ ap (λ (a : ℕ). double_sign a x.b) first ∙ ap (double_sign y.a) second ∙ y.found in cc

one_of : (b c : ℕ) (t s : Sign) (rest : Option Sign) → sign_bytes t ≡ c ∷ [] → (rest ≡ Some s → sign_bytes s ≡ b ∷ []) → (if b == c then Some t else rest) ≡ Some s → sign_bytes s ≡ b ∷ []
one_of b c t s rest bytes others h = go (b == c) refl h
  where
    go : (v : Bool) → (b == c) ≡ v → cond v (Some t) rest ≡ Some s → sign_bytes s ≡ b ∷ []
    go true e k = let same : t ≡ s = cc in sym (ap sign_bytes same) ∙ bytes ∙ ap (λ (x : ℕ). x ∷ []) (sym (eqb-true b c e))
    go false e k = others k

single_spells : (b : ℕ) (s : Sign) → single_sign b ≡ Some s → sign_bytes s ≡ b ∷ []
single_spells b s = one_of b 40 LeftParen s _ refl (one_of b 41 RightParen s _ refl (one_of b 123 LeftBrace s _ refl (one_of b 125 RightBrace s _ refl (one_of b 91 LeftBracket s _ refl (one_of b 93 RightBracket s _ refl (one_of b 59 Semicolon s _ refl (one_of b 44 Comma s _ refl (one_of b 46 Dot s _ refl (one_of b 61 Assign s _ refl (one_of b 60 Less s _ refl (one_of b 62 Greater s _ refl (one_of b 43 Plus s _ refl (one_of b 45 Minus s _ refl (one_of b 42 Star s _ refl (one_of b 47 Slash s _ refl (one_of b 37 Percent s _ refl (one_of b 38 Ampersand s _ refl (one_of b 124 Bar s _ refl (one_of b 94 Caret s _ refl (one_of b 33 Bang s _ refl (λ h. absurd cc)))))))))))))))))))))

two_of : (a b c d : ℕ) (t s : Sign) (rest : Option Sign) → sign_bytes t ≡ c ∷ d ∷ [] → (rest ≡ Some s → sign_bytes s ≡ a ∷ b ∷ []) → (if (a == c) && (b == d) then Some t else rest) ≡ Some s → sign_bytes s ≡ a ∷ b ∷ []
two_of a b c d t s rest bytes others h = go ((a == c) && (b == d)) refl h
  where
    go : (v : Bool) → ((a == c) && (b == d)) ≡ v → cond v (Some t) rest ≡ Some s → sign_bytes s ≡ a ∷ b ∷ []
    go true e k =
        let same : t ≡ s = cc in
        let first : a ≡ c = eqb-true a c (and_first (a == c) (b == d) e) in
        let second : b ≡ d = eqb-true b d (and_second (a == c) (b == d) e) in
        sym (ap sign_bytes same) ∙ bytes ∙ cc
    go false e k = others k

double_spells : (a b : ℕ) (s : Sign) → double_sign a b ≡ Some s → sign_bytes s ≡ a ∷ b ∷ []
double_spells a b s = two_of a b 46 46 DotDot s _ refl (two_of a b 61 61 EqualEqual s _ refl (two_of a b 33 61 BangEqual s _ refl (two_of a b 60 61 LessEqual s _ refl (two_of a b 62 61 GreaterEqual s _ refl (λ h. absurd cc)))))

-- The longest sign at the front of the text.
pub record Spelled (s : Sign) (text : Text) : Type 0 where
  pub within : length (sign_bytes s) ≤ length text
  pub bytes : take (length (sign_bytes s)) text ≡ sign_bytes s
  pub longest : (r : Sign) (more : ℕ) → more ≤ length text → take more text ≡ sign_bytes r → more ≤ length (sign_bytes s)

-- A front of the text that is a sign is one byte or two.
pub record Found (r : Sign) (more : ℕ) (text : Text) : Type 0 where
  few : more ≤ 2
  one : more ≤ 1 → single_sign (get_or text 0 0) ≡ Some r
  two : 1 < more → double_sign (get_or text 0 0) (get_or text 1 0) ≡ Some r

found_at : (r : Sign) (more : ℕ) (text : Text) → more ≤ length text → take more text ≡ sign_bytes r → Found r more text
found_at r more text within e = go more text within e (shape r)
  where
    go : (more : ℕ) (text : Text) → more ≤ length text → take more text ≡ sign_bytes r → OfOne r ⊎ OfTwo r → Found r more text
    go zero text within e (inl x) = let k : [] ≡ x.b ∷ [] = e ∙ x.bytes in absurd cc
    go zero text within e (inr x) = let k : [] ≡ x.a ∷ x.b ∷ [] = e ∙ x.bytes in absurd cc
    go (suc more) [] within e x = absurd (omega arith)
    go (suc zero) (a ∷ rest) within e (inl x) =
        let k : a ∷ [] ≡ x.b ∷ [] = e ∙ x.bytes in
        let same : a ≡ x.b = cc in
        record { few = omega arith; one = λ h. ap single_sign same ∙ x.found; two = λ h. absurd (omega arith) }
    go (suc zero) (a ∷ rest) within e (inr x) = let k : a ∷ [] ≡ x.a ∷ x.b ∷ [] = e ∙ x.bytes in absurd cc
    go (suc (suc more)) (a ∷ []) within e x = absurd (omega arith)
    go (suc (suc more)) (a ∷ b ∷ rest) within e (inl x) = let k : a ∷ b ∷ take more rest ≡ x.b ∷ [] = e ∙ x.bytes in absurd cc
    go (suc (suc more)) (a ∷ b ∷ rest) within e (inr x) =
        let k : a ∷ b ∷ take more rest ≡ x.a ∷ x.b ∷ [] = e ∙ x.bytes in
        let first : a ≡ x.a = cc in
        let second : b ≡ x.b = cc in
        let size : suc (suc more) ≡ 2 = sym (length-take-le (suc (suc more)) (a ∷ b ∷ rest) within) ∙ ap length k in
        record { few = omega arith; one = λ h. absurd (omega arith); two = λ h. ap (λ (v : ℕ). double_sign v b) first ∙ ap (double_sign x.a) second ∙ x.found }

pub sign_longest : (text : Text) (s : Sign) → front_sign text ≡ Some s → Spelled s text
sign_longest [] s h = absurd cc
sign_longest (a ∷ []) s h =
    let bytes = single_spells a s h in
    let size : length (sign_bytes s) ≡ 1 = ap length bytes in
    record {
      within = omega arith;
      bytes = ap (λ (n : ℕ). take n (a ∷ [])) size ∙ sym bytes;
      longest = λ r more within e. omega arith;
    }
sign_longest (a ∷ b ∷ rest) s h = go (double_sign a b) refl h
  where
    go : (d : Option Sign) → double_sign a b ≡ d → or_else d (single_sign a) ≡ Some s → Spelled s (a ∷ b ∷ rest)
    go (Some t) e k =
        let same : t ≡ s = cc in
        let bytes = double_spells a b s (e ∙ ap (λ (x : Sign). Some x) same) in
        let size : length (sign_bytes s) ≡ 2 = ap length bytes in
        record {
          within = omega arith;
          bytes = ap (λ (n : ℕ). take n (a ∷ b ∷ rest)) size ∙ sym bytes;
          longest = λ r more within f. let few = (found_at r more (a ∷ b ∷ rest) within f).few in omega arith;
        }
    go None e k =
        let bytes = single_spells a s k in
        let size : length (sign_bytes s) ≡ 1 = ap length bytes in
        record {
          within = omega arith;
          bytes = ap (λ (n : ℕ). take n (a ∷ b ∷ rest)) size ∙ sym bytes;
          longest = λ r more within f. elim (few_or_many more) as (λ _. more ≤ length (sign_bytes s)) [ inl few ↦ omega arith | inr many ↦ (let two : double_sign a b ≡ Some r = (found_at r more (a ∷ b ∷ rest) within f).two many in absurd cc) ];
        }

pub no_sign : (text : Text) → front_sign text ≡ None → (r : Sign) (more : ℕ) → more ≤ length text → take more text ≡ sign_bytes r → ⊥
no_sign text h r more within e = go text more h within (found_at r more text within e) (take_some r more text e)
  where
    take_some : (r : Sign) (more : ℕ) (text : Text) → take more text ≡ sign_bytes r → 0 < more
    take_some r zero text e = absurd (empty (shape r) e)
      where
        empty : OfOne r ⊎ OfTwo r → [] ≡ sign_bytes r → ⊥
        empty (inl x) e = let k : [] ≡ x.b ∷ [] = e ∙ x.bytes in cc
        empty (inr x) e = let k : [] ≡ x.a ∷ x.b ∷ [] = e ∙ x.bytes in cc
    take_some r (suc more) text e = omega arith

    go : (text : Text) (more : ℕ) → front_sign text ≡ None → more ≤ length text → Found r more text → 0 < more → ⊥
    go [] more h within f some = omega arith
    go (a ∷ []) more h within f some = let one : single_sign a ≡ Some r = f.one within in cc
    go (a ∷ b ∷ rest) more h within f some = both (double_sign a b) refl h
      where
        both : (d : Option Sign) → double_sign a b ≡ d → or_else d (single_sign a) ≡ None → ⊥
        both (Some t) e k = cc
        both None e k = elim (few_or_many more) as (λ _. ⊥) [ inl few ↦ (let one : single_sign a ≡ Some r = f.one few in cc) | inr many ↦ (let two : double_sign a b ≡ Some r = f.two many in cc) ]
