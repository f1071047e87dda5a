-- Reading values one after the other, as a loop does.
use Rattle.std.proofs.Common.{◌≡◌, ℕ, suc, ◌-◌, ◌+◌, ◌≤◌, ◌<◌, List, [], ◌∷◌, ◌++◌, Result, Ok, Err, refl, sym, ap, subst, ◌∙◌, append_assoc, arith}
use Rattle.std.proofs.lemmas.List.{append-nil}
use Rattle.gr_format.specs.declared.error.FormatError.{FormatError}
use Rattle.gr_format.specs.declared.error.FormatError.TheVariants as error
use Rattle.gr_format.specs.Formats.{Format, whole, ◌>>=◌, reading, times}
use Rattle.gr_format.specs.Readers.{Stops}
use Rattle.gr_format.proofs.Exact.{reading_then, then_read, reads_on, stops_first}

-- What was read before, and what is still read.
abbrev pub with_front : {A : Type 0} → List A → Result (List A × List ℕ) ℕ → Result (List A × List ℕ) ℕ
with_front front (Ok read) = Ok (front ++ read.0, read.1)
with_front front (Err left) = Err left

regroup : {A : Type 0} (front : List A) (value : A) (read : Result (List A × List ℕ) ℕ)
    → with_front front (then_read read (λ values. whole (value ∷ values))) ≡ with_front (front ++ value ∷ []) read
unfolding reading
regroup {A = A} front value (Ok read) =
    let made : List A → Result (List A × List ℕ) ℕ = λ values. Ok (values, read.1) in
    ap made (sym (append_assoc front (value ∷ []) read.0))
regroup front value (Err left) = refl

one_more : {A : Type 0} (format : Format A) (front : List A) (n : ℕ) (bytes rest : List ℕ) (value : A) → reading format bytes ≡ Ok (value, rest)
    → with_front front (reading (times (suc n) format) bytes) ≡ with_front (front ++ value ∷ []) (reading (times n format) rest)
unfolding times
one_more {A = A} format front n bytes rest value h =
    let next : A → Format (List A) = λ v. times n format >>= λ vs. whole (v ∷ vs) in
    let last : List A → Format (List A) = λ vs. whole (value ∷ vs) in
    ap (with_front front) (reads_on format next bytes rest value h ∙ reading_then (times n format) last rest) ∙ regroup front value (reading (times n format) rest)

pub goes_on : {A : Type 0} (format : Format A) (front : List A) (count i : ℕ) (bytes rest : List ℕ) (value : A) (total : Result (List A × List ℕ) ℕ) → i < count
    → reading format bytes ≡ Ok (value, rest) → with_front front (reading (times (count - i) format) bytes) ≡ total
    → with_front (front ++ value ∷ []) (reading (times (count - (i + 1)) format) rest) ≡ total
goes_on format front count i bytes rest value total l h so_far =
    let k : count - i ≡ suc (count - (i + 1)) = omega arith in
    sym (one_more format front (count - (i + 1)) bytes rest value h) ∙ ap (λ n. with_front front (reading (times n format) bytes)) (sym k) ∙ so_far

faulted : {A : Type 0} (e : FormatError) (front : List A) (read : Result (List A × List ℕ) ℕ) → Stops e read → Stops e (with_front front read)
faulted error.OutOfMemory front (Ok read) h = tt
faulted (error.Fault left) front (Ok read) h = absurd cc
faulted e front (Err left) h = h

pub ends : {A : Type 0} (e : FormatError) (format : Format A) (front : List A) (count i : ℕ) (bytes : List ℕ) (total : Result (List A × List ℕ) ℕ) → i < count
    → Stops e (reading format bytes) → with_front front (reading (times (count - i) format) bytes) ≡ total → Stops e total
unfolding times
ends {A = A} e format front count i bytes total l h so_far =
    let k : count - i ≡ suc (count - (i + 1)) = omega arith in
    let next : A → Format (List A) = λ v. times (count - (i + 1)) format >>= λ vs. whole (v ∷ vs) in
    let stops : ℕ → Type 0 = λ n. Stops e (reading (times n format) bytes) in
    let here : Stops e (reading (times (count - i) format) bytes) = subst stops (sym k) (stops_first e format next bytes h) in
    let all : Result (List A × List ℕ) ℕ → Type 0 = λ r. Stops e r in
    subst all so_far (faulted e front (reading (times (count - i) format) bytes) here)

pub is_done : {A : Type 0} (format : Format A) (front : List A) (count i : ℕ) (bytes : List ℕ) (total : Result (List A × List ℕ) ℕ) → count ≤ i
    → with_front front (reading (times (count - i) format) bytes) ≡ total → total ≡ Ok (front, bytes)
unfolding times reading
is_done {A = A} format front count i bytes total l so_far =
    let k : count - i ≡ 0 = omega arith in
    let made : List A → Result (List A × List ℕ) ℕ = λ values. Ok (values, bytes) in
    sym so_far ∙ ap (λ n. with_front front (reading (times n format) bytes)) k ∙ ap made (append-nil front)
