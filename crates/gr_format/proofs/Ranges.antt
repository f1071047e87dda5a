-- Numbers in a range, and what std's numbers of bytes are.
use Rattle.std.proofs.Common.{◌≡◌, ℕ, ◌<◌, ◌≤◌, Bool, true, false, leb, List, [], ◌∷◌, length, take, drop, Result, Ok, Err, inl, inr, sym, ap, subst, ◌∙◌, Bor, arith}
use Rattle.std.specs.Int.{is_in_range, w8, w16, w64, from_be_bytes}
use Rattle.std.proofs.lemmas.Bool.{and_left, and_right, cond-true, cond-false, lt-leb, both_ways, false_from_ne_true}
use Rattle.std.specs.Prelude.{MatchResult}
use Rattle.gr_format.specs.declared.error.FormatError.{FormatError}
use Rattle.gr_format.specs.declared.error.FormatError.TheVariants as error
use Rattle.gr_format.specs.Readers.{Stops, Reads}
use Rattle.gr_format.specs.Formats.{whole, field, number, begins, reading, ranged}
use Rattle.gr_format.proofs.Exact.{begun, begun_from, chosen, stopped, done, ok_value}

pub reads_range : (width least most n : ℕ) (bytes rest : List ℕ) → width ≤ length bytes → n ≡ number (take width bytes) → rest ≡ drop width bytes
    → is_in_range least most n ≡ true → reading (ranged width least most) bytes ≡ Ok (n, rest)
unfolding reading ranged
reads_range width least most n bytes rest l e d t =
    let made : ℕ → List ℕ → Result (ℕ × List ℕ) ℕ = λ m b. Ok (m, b) in
    cond-true (begins width (is_in_range least most) bytes) _ _ (begun_from width (is_in_range least most) bytes l (ap (is_in_range least most) (sym e) ∙ t))
    ∙ ap (λ m. made m (drop width bytes)) (sym e) ∙ ap (made n) (sym d)

pub stops_range : (width least most n : ℕ) (bytes : List ℕ) → n ≡ number (take width bytes) → is_in_range least most n ≡ false → reading (ranged width least most) bytes ≡ Err (length bytes)
unfolding reading ranged begins
stops_range width least most n bytes e t =
    cond-false (begins width (is_in_range least most) bytes) _ _ (and_right (leb width (length bytes)) (is_in_range least most (number (take width bytes))) (ap (is_in_range least most) (sym e) ∙ t))

pub stops_short : (width least most : ℕ) (bytes : List ℕ) → length bytes < width → reading (ranged width least most) bytes ≡ Err (length bytes)
unfolding reading ranged begins
stops_short width least most bytes l =
    cond-false (begins width (is_in_range least most) bytes) _ _ (and_left (leb width (length bytes)) (is_in_range least most (number (take width bytes))) (lt-leb width (length bytes) l))

-- The numbers of one, two and eight bytes are those of std.

pub one_byte : (bytes : List ℕ) → length bytes ≡ 1 → number bytes ≡ from_be_bytes w8 bytes
one_byte [] h = absurd (omega arith)
one_byte (a ∷ []) h = omega arith
one_byte (a ∷ b ∷ bytes) h = absurd (omega arith)

pub two_bytes : (bytes : List ℕ) → length bytes ≡ 2 → number bytes ≡ from_be_bytes w16 bytes
two_bytes [] h = absurd (omega arith)
two_bytes (a ∷ []) h = absurd (omega arith)
two_bytes (a ∷ b ∷ []) h = omega arith
two_bytes (a ∷ b ∷ c ∷ bytes) h = absurd (omega arith)

pub eight_bytes : (bytes : List ℕ) → length bytes ≡ 8 → number bytes ≡ from_be_bytes w64 bytes
eight_bytes [] h = absurd (omega arith)
eight_bytes (a ∷ []) h = absurd (omega arith)
eight_bytes (a ∷ b ∷ []) h = absurd (omega arith)
eight_bytes (a ∷ b ∷ c ∷ []) h = absurd (omega arith)
eight_bytes (a ∷ b ∷ c ∷ d ∷ []) h = absurd (omega arith)
eight_bytes (a ∷ b ∷ c ∷ d ∷ e ∷ []) h = absurd (omega arith)
eight_bytes (a ∷ b ∷ c ∷ d ∷ e ∷ f ∷ []) h = absurd (omega arith)
eight_bytes (a ∷ b ∷ c ∷ d ∷ e ∷ f ∷ g ∷ []) h = absurd (omega arith)
eight_bytes (a ∷ b ∷ c ∷ d ∷ e ∷ f ∷ g ∷ k ∷ []) h = omega arith
eight_bytes (a ∷ b ∷ c ∷ d ∷ e ∷ f ∷ g ∷ k ∷ l ∷ bytes) h = absurd (omega arith)

-- What the code's test of the range gives.
pub read_within : (width least most n left : ℕ) (bytes rest : List ℕ) (r : Result (ℕ × Bor (List ℕ)) FormatError) → width ≤ length bytes → n ≡ number (take width bytes)
    → rest ≡ drop width bytes → left ≡ length bytes
    → MatchResult r (λ read. (is_in_range least most n ≡ true) × (read.0 ≡ n) × (read.1.now ≡ rest)) (λ stopped. (is_in_range least most n ≡ false) × (stopped ≡ error.Fault left))
    → Reads (ranged width least most) bytes r
read_within width least most n left bytes rest (Ok read) l e d s h =
    reads_range width least most read.0 bytes read.1.now l (h.1 ∙ e) (h.2 ∙ d) (ap (is_in_range least most) h.1 ∙ h.0)
read_within width least most n left bytes rest (Err stopped) l e d s h =
    let stops : FormatError → Type 0 = λ f. Stops f (reading (ranged width least most) bytes) in
    let fault : ℕ → Result (ℕ × List ℕ) ℕ = λ k. Err k in
    subst stops (sym h.1) (stops_range width least most n bytes e h.0 ∙ ap fault (sym s))

-- A number that passes a test within a range.

took : (width least most n : ℕ) (bytes rest : List ℕ) → reading (ranged width least most) bytes ≡ Ok (n, rest) → (width ≤ length bytes) × (number (take width bytes) ≡ n) × (drop width bytes ≡ rest)
unfolding reading ranged
took width least most n bytes rest e =
    let p = chosen (begins width (is_in_range least most) bytes) (done (number (take width bytes)) (drop width bytes)) (length bytes) (n, rest) e in
    let q = ok_value (number (take width bytes)) n (drop width bytes) rest p.1 in
    ((begun width (is_in_range least most) bytes p.0).0, q.0, q.1)

pub range_read : (width least most n : ℕ) (bytes rest : List ℕ) → reading (ranged width least most) bytes ≡ Ok (n, rest) → is_in_range least most n ≡ true
unfolding reading ranged
range_read width least most n bytes rest e =
    let p = chosen (begins width (is_in_range least most) bytes) (done (number (take width bytes)) (drop width bytes)) (length bytes) (n, rest) e in
    let q = ok_value (number (take width bytes)) n (drop width bytes) rest p.1 in
    ap (is_in_range least most) (sym q.0) ∙ (begun width (is_in_range least most) bytes p.0).1

pub narrow_reads : (width least most n : ℕ) (passes : ℕ → Bool) (bytes rest : List ℕ) → reading (ranged width least most) bytes ≡ Ok (n, rest) → passes n ≡ true
    → reading (field width passes whole) bytes ≡ Ok (n, rest)
unfolding reading
narrow_reads width least most n passes bytes rest e t =
    let p = took width least most n bytes rest e in
    cond-true (begins width passes bytes) _ _ (begun_from width passes bytes p.0 (ap passes p.1 ∙ t)) ∙ ap (λ m. done m (drop width bytes)) p.1 ∙ ap (done n) p.2

pub narrow_fails : (width least most n : ℕ) (passes : ℕ → Bool) (bytes rest : List ℕ) → reading (ranged width least most) bytes ≡ Ok (n, rest) → passes n ≡ false
    → reading (field width passes whole) bytes ≡ Err (length bytes)
unfolding reading begins
narrow_fails width least most n passes bytes rest e t =
    let p = took width least most n bytes rest e in
    cond-false (begins width passes bytes) _ _ (and_right (leb width (length bytes)) (passes (number (take width bytes))) (ap passes p.1 ∙ t))

begins_not : (width : ℕ) (wide passes : ℕ → Bool) (bytes : List ℕ) → ((n : ℕ) → passes n ≡ true → wide n ≡ true) → begins width wide bytes ≡ false → begins width passes bytes ≡ false
begins_not width wide passes bytes within f =
    false_from_ne_true (begins width passes bytes) (λ t.
    let p = begun width passes bytes t in
    let w = begun_from width wide bytes p.0 (within (number (take width bytes)) p.1) in
    both_ways (begins width wide bytes) f w)

pub narrow_stops : (e : FormatError) (width least most : ℕ) (passes : ℕ → Bool) (bytes : List ℕ) → ((n : ℕ) → passes n ≡ true → is_in_range least most n ≡ true)
    → Stops e (reading (ranged width least most) bytes) → Stops e (reading (field width passes whole) bytes)
unfolding reading ranged
narrow_stops error.OutOfMemory width least most passes bytes within h = tt
narrow_stops (error.Fault left) width least most passes bytes within h =
    let fault : ℕ → Result (ℕ × List ℕ) ℕ = λ n. Err n in
    elim (stopped (begins width (is_in_range least most) bytes) (done (number (take width bytes)) (drop width bytes)) (length bytes) left h) [
      | inl p ↦ absurd (let q = p.1 in cc)
      | inr p ↦ cond-false (begins width passes bytes) _ _ (begins_not width (is_in_range least most) passes bytes within p.0) ∙ ap fault p.1
    ]
