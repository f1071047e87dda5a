-- The sum of the clocks.
use Rattle.std.proofs.Common.{◌≡◌, ℕ, zero, suc, ◌+◌, ◌<◌, ◌≤◌, List, [], ◌∷◌, length, take, ◌++◌, ap, refl, ◌∙◌, arith, slice_index_or}
use Rattle.std.proofs.Math.Seq.{take-suc}
use Rattle.std.proofs.lemmas.List.{take_all}
use Rattle.gr_core.specs.declared.cores.Core.{Core}
use Rattle.gr_core.specs.Cores.{run_of}
use Rattle.gr_core.specs.Runs.{Run}
use Rattle.gr_world.specs.Worlds.{HaveStayed}
use Rattle.gr_round.specs.RoundWords.{clocks}

abbrev pub clock_of : Core → ℕ
clock_of core = (run_of core).seen.core.clock

abbrev pub NoEarlier : List Core → List Core → Type 0
NoEarlier before after = (core : ℕ) (default : Core) → core < length before → clock_of (slice_index_or before core default) ≤ clock_of (slice_index_or after core default)

pub clocks_rise : (before after : List Core) → length after ≡ length before → NoEarlier before after → clocks before ≤ clocks after
clocks_rise [] after len each = omega arith
clocks_rise (x ∷ xs) [] len each = absurd (omega (arith, len))
clocks_rise (x ∷ xs) (y ∷ ys) len each =
    let first : clock_of x ≤ clock_of y = each zero x (omega arith) in
    let rest : clocks xs ≤ clocks ys = clocks_rise xs ys (omega (arith, len)) (λ core default h. each (suc core) default (omega (arith, h))) in
    omega (arith, first, rest)

-- Where the sum doesn't rise no clock has risen.
pub clocks_even : (before after : List Core) → length after ≡ length before → NoEarlier before after → clocks after ≤ clocks before
    → (core : ℕ) (default : Core) → core < length before → clock_of (slice_index_or after core default) ≤ clock_of (slice_index_or before core default)
clocks_even [] after len each sum core default h = absurd (omega (arith, h))
clocks_even (x ∷ xs) [] len each sum core default h = absurd (omega (arith, len))
clocks_even (x ∷ xs) (y ∷ ys) len each sum zero default h =
    let rest : clocks xs ≤ clocks ys = clocks_rise xs ys (omega (arith, len)) (λ core default h. each (suc core) default (omega (arith, h))) in
    omega (arith, sum, rest)
clocks_even (x ∷ xs) (y ∷ ys) len each sum (suc core) default h =
    let first : clock_of x ≤ clock_of y = each zero x (omega arith) in
    clocks_even xs ys (omega (arith, len)) (λ core default h. each (suc core) default (omega (arith, h))) (omega (arith, sum, first)) core default (omega (arith, h))

-- A meeting leaves the clocks.
same_clocks : (before after : List Core) → length after ≡ length before
    → ((core : ℕ) (default : Core) → core < length before → run_of (slice_index_or after core default) ≡ run_of (slice_index_or before core default)) → clocks before ≡ clocks after
same_clocks [] [] len each = refl
same_clocks [] (y ∷ ys) len each = absurd (omega (arith, len))
same_clocks (x ∷ xs) [] len each = absurd (omega (arith, len))
same_clocks (x ∷ xs) (y ∷ ys) len each =
    let first : clock_of y ≡ clock_of x = ap (λ (run : Run). run.seen.core.clock) (each zero x (omega arith)) in
    let rest : clocks xs ≡ clocks ys = same_clocks xs ys (omega (arith, len)) (λ core default h. each (suc core) default (omega (arith, h))) in
    omega (arith, first, rest)

pub clocks_stayed : (before after : List Core) → HaveStayed before after → clocks before ≡ clocks after
clocks_stayed before after stayed = same_clocks before after stayed.len stayed.runs

-- Core after core

clocks_push : (cores : List Core) (core : Core) → clocks (cores ++ core ∷ []) ≡ clocks cores + clock_of core
clocks_push [] core = omega arith
clocks_push (first ∷ cores) core = let rest : clocks (cores ++ core ∷ []) ≡ clocks cores + clock_of core = clocks_push cores core in omega (arith, rest)

pub clocks_more : (cores : List Core) (count : ℕ) (core : Core) → count < length cores → clocks (take (count + 1) cores) ≡ clocks (take count cores) + clock_of (slice_index_or cores count core)
clocks_more cores count core h =
    let more : count + 1 ≡ suc count = omega arith in
    ap (λ (n : ℕ). clocks (take n cores)) more ∙ ap clocks (take-suc cores count core h) ∙ clocks_push (take count cores) (slice_index_or cores count core)

pub clocks_all : (cores : List Core) (count : ℕ) → length cores ≤ count → clocks (take count cores) ≡ clocks cores
clocks_all cores count h = ap clocks (take_all count cores h)

-- One core more is added.
pub total_more : (cores : List Core) (count total clock wide : ℕ) (core : Core) → count < length cores → core ≡ slice_index_or cores count core
    → total ≡ clocks (take count cores) → clock ≡ clock_of core → wide ≡ clock → total + wide ≡ clocks (take (count + 1) cores)
total_more cores count total clock wide core within is sum time same =
    let more : clocks (take (count + 1) cores) ≡ clocks (take count cores) + clock_of (slice_index_or cores count core) = clocks_more cores count core within in
    let one : clock_of core ≡ clock_of (slice_index_or cores count core) = ap clock_of is in
    omega (arith, sum, time, same, more, one)

pub no_more : (after before next now : ℕ) → after ≤ before → after ≡ next → before ≡ now → next ≤ now
no_more after before next now even is was = omega (arith, even, is, was)
