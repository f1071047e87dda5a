-- Walks through a format: what holds of each value that it gives, which numbers each value tells, and which numbers it takes.
use Rattle.std.proofs.Common.{◌≡◌, ℕ, zero, suc, true, List, [], ◌∷◌, ◌++◌, length, take, drop, refl, sym, ap, subst, append_assoc}
use Rattle.std.specs.List.{flat_map, AllByRecursion}
use Rattle.std.proofs.lemmas.List.{append-nil}
use Rattle.std.proofs.lemmas.List.Concat.{flat_map-cons}
use Rattle.gr_format.specs.declared.field.Field.{Field}
use Rattle.gr_format.specs.Formats.{Format, whole, field, number, Spells, ◌>>=◌, times}
use Rattle.gr_format.specs.Writing.{Takes, number_of}
use Rattle.gr_format.specs.Laws.{Tells}
use Rattle.gr_format.proofs.Exact.{begun}

-- What holds of each value.
abbrev pub Always : {A : Type 0} → (A → Type 0) → Format A → Type 0
Always P (whole value) = P value
Always P (field width passes next) = (n : ℕ) → passes n ≡ true → Always P (next n)

pub always_spelled : {A : Type 0} (P : A → Type 0) (format : Format A) (bytes : List ℕ) (value : A) → Always P format → Spells format bytes value → P value
unfolding Spells
always_spelled P (whole v) bytes value h s = subst P s.1 h
always_spelled P (field width passes next) bytes value h s =
    always_spelled P (next (number (take width bytes))) (drop width bytes) value (h (number (take width bytes)) (begun width passes bytes s.0).1) s.1

pub always_then : {A B : Type 0} (P : A → Type 0) (Q : B → Type 0) (first : Format A) (next : A → Format B) → Always P first → ((value : A) → P value → Always Q (next value))
    → Always Q (first >>= next)
unfolding ◌>>=◌
always_then P Q (whole v) next h k = k v h
always_then P Q (field width passes first) next h k = λ n t. always_then P Q (first n) next (h n t) k

pub record Are {A : Type 0} (P : A → Type 0) (count : ℕ) (values : List A) : Type 0 where
  pub long : length values ≡ count
  pub each : AllByRecursion P values

pub always_times : {A : Type 0} (P : A → Type 0) (format : Format A) (count : ℕ) → Always P format → Always (Are P count) (times count format)
unfolding times
always_times P format zero h = record { long = refl; each = tt }
always_times {A = A} P format (suc count) h =
    let next : A → Format (List A) = λ v. times count format >>= λ vs. whole (v ∷ vs) in
    always_then P (Are P (suc count)) format next h (λ v p.
    always_then (Are P count) (Are P (suc count)) (times count format) (λ vs. whole (v ∷ vs)) (always_times P format count h) (λ vs q.
    record { long = ap suc q.long; each = (p, q.each) }))

-- What each value tells.

tells_on : {A B : Type 0} (one : A → List ℕ) (all : B → List ℕ) (P : A → Type 0) (before inner : List ℕ) (first : Format A) (next : A → Format B) → Always P first → Tells one inner first
    → ((value : A) → P value → Tells all (before ++ one value) (next value)) → Tells all (before ++ inner) (first >>= next)
unfolding ◌>>=◌
tells_on one all P before inner (whole v) next a h k = let tells : List ℕ → Type 0 = λ ns. Tells all (before ++ ns) (next v) in subst tells h (k v a)
tells_on one all P before inner (field width passes first) next a h k = λ n t.
    let tells : List ℕ → Type 0 = λ ns. Tells all ns (first n >>= next) in
    subst tells (sym (append_assoc before inner (n ∷ []))) (tells_on one all P before (inner ++ n ∷ []) (first n) next (a n t) (h n t) k)

-- Behind a value of which P holds.
pub tells_then : {A B : Type 0} (one : A → List ℕ) (all : B → List ℕ) (P : A → Type 0) (before : List ℕ) (first : Format A) (next : A → Format B) → Always P first → Tells one [] first
    → ((value : A) → P value → Tells all (before ++ one value) (next value)) → Tells all before (first >>= next)
tells_then one all P before first next a h k =
    let tells : List ℕ → Type 0 = λ ns. Tells all ns (first >>= next) in
    subst tells (append-nil before) (tells_on one all P before [] first next a h k)

abbrev pub Any : {A : Type 0} → A → Type 0
Any value = Unit {0}

pub always_any : {A : Type 0} (format : Format A) → Always Any format
always_any (whole v) = tt
always_any (field width passes next) = λ n t. always_any (next n)

pub tells_times : {A : Type 0} (one : A → List ℕ) (format : Format A) (count : ℕ) → Tells one [] format → Tells (λ values. flat_map one values) [] (times count format)
unfolding times
tells_times one format zero h = refl
tells_times {A = A} one format (suc count) h =
    let all : List A → List ℕ = λ values. flat_map one values in
    let next : A → Format (List A) = λ v. times count format >>= λ vs. whole (v ∷ vs) in
    tells_then one all Any [] format next (always_any format) h (λ v _.
    tells_then all all Any (one v) (times count format) (λ vs. whole (v ∷ vs)) (always_any (times count format)) (tells_times one format count h) (λ vs _. flat_map-cons one v vs))

-- What is taken.

pub takes_then : {A B : Type 0} (first : Format A) (next : A → Format B) (xs ys : List Field) (one : A) (value : B) → Takes first xs one → Takes (next one) ys value
    → Takes (first >>= next) (xs ++ ys) value
unfolding ◌>>=◌
takes_then {A = A} (whole v) next [] ys one value h k = let takes : A → Type 0 = λ x. Takes (next x) ys value in subst takes (sym h) k
takes_then (whole v) next (f ∷ xs) ys one value h k = absurd h
takes_then (field width passes first) next [] ys one value h k = absurd h
takes_then {A = A} (field width passes first) next (f ∷ xs) ys one value h k = (h.0, h.1, h.2, takes_then (first (number_of f)) next xs ys one value h.3 k)

pub takes_times : {A : Type 0} (format : Format A) (fields : A → List Field) (values : List A) → AllByRecursion (λ value. Takes format (fields value) value) values
    → Takes (times (length values) format) (flat_map fields values) values
unfolding times
takes_times format fields [] h = refl
takes_times {A = A} format fields (v ∷ values) h =
    let next : A → Format (List A) = λ x. times (length values) format >>= λ xs. whole (x ∷ xs) in
    let last : List A → Format (List A) = λ xs. whole (v ∷ xs) in
    let rest : Takes (times (length values) format >>= last) (flat_map fields values ++ []) (v ∷ values) =
    takes_then (times (length values) format) last (flat_map fields values) [] values (v ∷ values) (takes_times format fields values h.1) refl in
    let same : List Field → Type 0 = λ fs. Takes (times (length values) format >>= last) fs (v ∷ values) in
    let all : List Field → Type 0 = λ fs. Takes (format >>= next) fs (v ∷ values) in
    subst all (sym (flat_map-cons fields v values)) (takes_then format next (fields v) (flat_map fields values) v (v ∷ values) h.0 (subst same (append-nil (flat_map fields values)) rest))
