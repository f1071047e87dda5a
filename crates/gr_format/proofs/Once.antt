-- Numbers that are written are read, and bytes of one length with one number are the same.
use Rattle.std.proofs.Common.{◌≡◌, ℕ, suc, ◌+◌, ◌*◌, ◌%◌, ◌^◌, ◌<◌, ◌≤◌, true, List, [], ◌∷◌, ◌++◌, length, take, drop, refl, sym, ap, subst, ◌∙◌, inl, inr, append_assoc, arith}
use Rattle.std.proofs.Math.Nat.{mul-le-mul_left, pow-suc}
use Rattle.std.proofs.lemmas.Bool.{cases_lt, cases_order}
use Rattle.std.proofs.lemmas.List.{append-nil, take_at, drop_at, take-append-drop, length-take-le, length-append, get_or-take, get_or-drop, get_or_past}
use Rattle.std.proofs.lemmas.List.Concat.{flat_map-cons}
use Rattle.std.proofs.lemmas.Nat.{from_be_bytes-to_be_bytes_2, from_be_bytes-to_be_bytes_8}
use Rattle.gr_format.specs.declared.field.Field.{Field}
use Rattle.gr_format.specs.declared.field.Field.TheVariants.{Byte, Pair, Word}
use Rattle.gr_format.specs.Formats.{Format, whole, field, number, begins, Spells}
use Rattle.gr_format.specs.Writing.{width_of, number_of, written, spelled}
use Rattle.gr_format.specs.Laws.{TakenIsSpelled, SpelledOnce, Tells, AreBytes}
use Rattle.gr_format.proofs.Exact.{begun, begun_from}
use Rattle.gr_format.proofs.Ranges.{one_byte, two_bytes, eight_bytes}

written_long : (f : Field) → length (written f) ≡ width_of f
written_long (Byte n) = refl
written_long (Pair n) = refl
written_long (Word n) = refl

written_is : (f : Field) → number_of f < 256 ^ width_of f → number (written f) ≡ number_of f
written_is (Byte n) l = one_byte (written (Byte n)) refl ∙ (let same : n % 256 ≡ n = omega arith in same)
written_is (Pair n) l = two_bytes (written (Pair n)) refl ∙ from_be_bytes-to_be_bytes_2 n l
written_is (Word n) l = eight_bytes (written (Word n)) refl ∙ from_be_bytes-to_be_bytes_8 n l

pub taken_is_spelled : {A : Type 0} → TakenIsSpelled A
unfolding Spells
taken_is_spelled (whole v) [] value h = (refl, h)
taken_is_spelled (whole v) (f ∷ fields) value h = absurd h
taken_is_spelled (field width passes next) [] value h = absurd h
taken_is_spelled (field width passes next) (f ∷ fields) value h =
    let rest : List ℕ = spelled fields in
    let long : length (written f) ≡ width = written_long f ∙ h.0 in
    let head : take width (written f ++ rest) ≡ written f = take_at (written f) rest width long in
    let tail : drop width (written f ++ rest) ≡ rest = drop_at (written f) rest width long in
    let small : ℕ → Type 0 = λ w. number_of f < 256 ^ w in
    let is : number (take width (written f ++ rest)) ≡ number_of f = ap number head ∙ written_is f (subst small (sym h.0) h.1) in
    let enough : width ≤ length (written f ++ rest) = omega (arith, long, length-append (written f) rest) in
    let first : begins width passes (written f ++ rest) ≡ true = begun_from width passes (written f ++ rest) enough (ap passes is ∙ h.2) in
    let heads : ℕ → Type 0 = λ n. Spells (next n) (drop width (written f ++ rest)) value in
    let tails : List ℕ → Type 0 = λ b. Spells (next (number_of f)) b value in
    let behind = subst heads (sym is) (subst tails (sym tail) (taken_is_spelled (next (number_of f)) fields value h.3)) in
    let all : List ℕ → Type 0 = λ b. (begins width passes b ≡ true) × Spells (next (number (take width b))) (drop width b) value in
    subst all (sym (flat_map-cons written f fields)) (first, behind)

-- The numbers by which a format reads bytes.
numbers_in : {A : Type 0} → Format A → List ℕ → List ℕ
numbers_in (whole value) bytes = []
numbers_in (field width passes next) bytes = number (take width bytes) ∷ numbers_in (next (number (take width bytes))) (drop width bytes)

told : {A : Type 0} (numbers : A → List ℕ) (before : List ℕ) (format : Format A) (bytes : List ℕ) (value : A) → Tells numbers before format → Spells format bytes value
    → numbers value ≡ before ++ numbers_in format bytes
unfolding Spells numbers_in
told numbers before (whole v) bytes value t h = ap numbers (sym h.1) ∙ t ∙ sym (append-nil before)
told numbers before (field width passes next) bytes value t h =
    let n : ℕ = number (take width bytes) in
    let p = begun width passes bytes h.0 in
    told numbers (before ++ n ∷ []) (next n) (drop width bytes) value (t n p.1) h.1
    ∙ append_assoc before (n ∷ []) (numbers_in (next n) (drop width bytes))

below : (bytes : List ℕ) → AreBytes bytes → number bytes < 256 ^ length bytes
below [] h = omega arith
below (b ∷ bytes) h =
    let p : ℕ = 256 ^ length bytes in
    let inner : number bytes < p = below bytes (λ i. h (suc i)) in
    let first : b ≤ 255 = omega (arith, h 0) in
    omega (arith, inner, mul-le-mul_left p first, pow-suc 256 (length bytes))

same_digit : (x y p r s : ℕ) → r < p → s < p → x * p + r ≡ y * p + s → x ≡ y
same_digit x y p r s a b e =
    elim (cases_order x y) [
      | inl h ↦ h
      | inr h ↦ elim h [
        | inl l ↦ (let m : suc x ≤ y = omega (arith, l) in absurd (omega (arith, mul-le-mul_left p m, a, b, e)))
        | inr l ↦ (let m : suc y ≤ x = omega (arith, l) in absurd (omega (arith, mul-le-mul_left p m, a, b, e)))
      ]
    ]

same_number : (one other : List ℕ) → length one ≡ length other → AreBytes one → AreBytes other → number one ≡ number other → one ≡ other
same_number [] [] l a b e = refl
same_number [] (y ∷ ys) l a b e = absurd (omega arith)
same_number (x ∷ xs) [] l a b e = absurd (omega arith)
same_number (x ∷ xs) (y ∷ ys) l a b e =
    let long : length xs ≡ length ys = omega (arith, l) in
    let p : ℕ = 256 ^ length ys in
    let powers : 256 ^ length xs ≡ p = ap (λ n. 256 ^ n) long in
    let r : number xs < p = subst (λ n. number xs < n) powers (below xs (λ i. a (suc i))) in
    let s : number ys < p = below ys (λ i. b (suc i)) in
    let sums : x * p + number xs ≡ y * p + number ys = ap (λ n. x * n + number xs) (sym powers) ∙ e in
    let first : x ≡ y = same_digit x y p (number xs) (number ys) r s sums in
    let scaled : x * p ≡ y * p = ap (λ n. n * p) first in
    let rest : xs ≡ ys = same_number xs ys long (λ i. a (suc i)) (λ i. b (suc i)) (omega (arith, sums, scaled)) in
    cc

bytes_in_front : (n : ℕ) (bytes : List ℕ) → n ≤ length bytes → AreBytes bytes → AreBytes (take n bytes)
bytes_in_front n bytes l h i =
    elim (cases_lt i n) [
      | inl lt ↦ rw (get_or-take n bytes i 0 lt) (h i)
      | inr le ↦ rw (get_or_past (take n bytes) i 0 (omega (arith, length-take-le n bytes l))) (omega arith)
    ]

bytes_behind : (n : ℕ) (bytes : List ℕ) → AreBytes bytes → AreBytes (drop n bytes)
bytes_behind n bytes h i = rw get_or-drop (h (n + i))

parts : (x y : ℕ) (xs ys : List ℕ) → x ∷ xs ≡ y ∷ ys → (x ≡ y) × (xs ≡ ys)
parts x y xs ys e = (cc, cc)

same : {A : Type 0} (format : Format A) (one other : List ℕ) (value : A) → AreBytes one → AreBytes other → Spells format one value → Spells format other value
    → numbers_in format one ≡ numbers_in format other → one ≡ other
unfolding Spells numbers_in
same (whole v) one other value a b h k e = h.0 ∙ sym k.0
same {A = A} (field width passes next) one other value a b h k e =
    let p = begun width passes one h.0 in
    let q = begun width passes other k.0 in
    let n : ℕ = number (take width one) in
    let m : ℕ = number (take width other) in
    let heads = parts n m (numbers_in (next n) (drop width one)) (numbers_in (next m) (drop width other)) e in
    let long : length (take width one) ≡ length (take width other) = length-take-le width one p.0 ∙ sym (length-take-le width other q.0) in
    let front : take width one ≡ take width other = same_number (take width one) (take width other) long (bytes_in_front width one p.0 a) (bytes_in_front width other q.0 b) heads.0 in
    let spells : ℕ → Type 0 = λ x. Spells (next x) (drop width other) value in
    let rest : List ℕ → List ℕ = λ bytes. take width one ++ bytes in
    let behind : drop width one ≡ drop width other =
    same (next n) (drop width one) (drop width other) value (bytes_behind width one a) (bytes_behind width other b) h.1 (subst spells (sym heads.0) k.1)
    (heads.1 ∙ ap (λ x. numbers_in (next x) (drop width other)) (sym heads.0)) in
    sym (take-append-drop width one) ∙ ap rest behind ∙ ap (λ (bytes : List ℕ). bytes ++ drop width other) front ∙ take-append-drop width other

pub spelled_once : {A : Type 0} → SpelledOnce A
spelled_once numbers format one other value t a b h k =
    same format one other value a b h k (sym (told numbers [] format one value t h) ∙ told numbers [] format other value t k)
