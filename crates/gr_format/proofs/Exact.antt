-- Reading is spelling, and reading goes on behind what was read.
use Rattle.std.proofs.Common.{◌≡◌, ℕ, ◌-◌, ◌≤◌, Bool, true, false, cond, leb, List, [], ◌∷◌, ◌++◌, length, take, drop, Result, Ok, Err, ◌⊎◌, inl, inr, refl, sym, ap, subst, ◌∙◌, append_assoc, arith}
use Rattle.std.proofs.lemmas.Bool.{cases_Bool, and_parts, and_from, cond-true, cond-false, leb-true, le-leb}
use Rattle.std.proofs.lemmas.List.{append-nil, take-append-le, drop-append-le, take-append-drop, take_at, drop_at, length-take-le, length-append, length-drop}
use Rattle.gr_format.specs.Formats.{Format, whole, field, number, begins, Spells, reading, opened, opened_of, ◌>>=◌}
use Rattle.gr_format.specs.declared.error.FormatError.{FormatError}
use Rattle.gr_format.specs.declared.error.FormatError.TheVariants as error
use Rattle.gr_format.specs.Readers.{Stops}
use Rattle.gr_format.specs.Laws.{SpelledIsRead, ReadIsSpelled, SpellsOne, SpellingsAreApart}

-- A choice that gives a value went the first way, where the second is a fault.
pub chosen : {Y : Type 0} (b : Bool) (x : Result Y ℕ) (left : ℕ) (y : Y) → cond b x (Err left) ≡ Ok y → (b ≡ true) × (x ≡ Ok y)
chosen true x left y e = (refl, e)
chosen false x left y e = absurd cc

pub begun : (width : ℕ) (passes : ℕ → Bool) (bytes : List ℕ) → begins width passes bytes ≡ true → (width ≤ length bytes) × (passes (number (take width bytes)) ≡ true)
unfolding begins
begun width passes bytes b = let p = and_parts (leb width (length bytes)) (passes (number (take width bytes))) b in (leb-true width (length bytes) p.0, p.1)

pub begun_from : (width : ℕ) (passes : ℕ → Bool) (bytes : List ℕ) → width ≤ length bytes → passes (number (take width bytes)) ≡ true → begins width passes bytes ≡ true
unfolding begins
begun_from width passes bytes l t = and_from (leb width (length bytes)) (passes (number (take width bytes))) (le-leb width (length bytes) l) t

-- The front of more bytes begins with the same number.
begins_more : (width : ℕ) (passes : ℕ → Bool) (front rest : List ℕ) → begins width passes front ≡ true → begins width passes (front ++ rest) ≡ true
begins_more width passes front rest b =
    let p = begun width passes front b in
    begun_from width passes (front ++ rest) (omega (arith, length-append front rest, p.0)) (ap (λ (bytes : List ℕ). passes (number bytes)) (take-append-le width front rest p.0) ∙ p.1)

pub spelled_reads : {A : Type 0} (format : Format A) (front rest : List ℕ) (value : A) → Spells format front value → reading format (front ++ rest) ≡ Ok (value, rest)
unfolding Spells reading
spelled_reads {A = A} (whole v) front rest value h =
    let made : A → List ℕ → Result (A × List ℕ) ℕ = λ x bytes. Ok (x, bytes ++ rest) in
    ap (made v) h.0 ∙ ap (λ x. made x []) h.1
spelled_reads {A = A} (field width passes next) front rest value h =
    let p = begun width passes front h.0 in
    let heads : List ℕ → Result (A × List ℕ) ℕ = λ bytes. reading (next (number bytes)) (drop width (front ++ rest)) in
    let tails : List ℕ → Result (A × List ℕ) ℕ = λ bytes. reading (next (number (take width front))) bytes in
    cond-true (begins width passes (front ++ rest)) _ _ (begins_more width passes front rest h.0)
    ∙ ap heads (take-append-le width front rest p.0) ∙ ap tails (drop-append-le width front rest p.0)
    ∙ spelled_reads (next (number (take width front))) (drop width front) rest value h.1

abbrev Front : {A : Type 0} → Format A → List ℕ → A → List ℕ → Type 0
Front format bytes value rest = (front : List ℕ) × (bytes ≡ front ++ rest) × Spells format front value

abbrev pub done : {A : Type 0} → A → List ℕ → Result (A × List ℕ) ℕ
done value rest = Ok (value, rest)

both : {Y : Type 0} (p q : Y) → (let made : Y → Result Y ℕ = λ y. Ok y in made p ≡ made q) → p ≡ q
both p q e = cc

pub ok_value : {A : Type 0} (x y : A) (a b : List ℕ) → done x a ≡ done y b → (x ≡ y) × (a ≡ b)
ok_value {A = A} x y a b e =
    let p : A × List ℕ = (x, a) in
    let q : A × List ℕ = (y, b) in
    let same : p ≡ q = both p q e in
    (ap (λ (r : A × List ℕ). r.0) same, ap (λ (r : A × List ℕ). r.1) same)

pub read_spells : {A : Type 0} (format : Format A) (bytes rest : List ℕ) (value : A) → reading format bytes ≡ Ok (value, rest) → Front format bytes value rest
unfolding Spells reading
read_spells (whole v) bytes rest value e = let p = ok_value v value bytes rest e in ([], p.1, (refl, p.0))
read_spells (field width passes next) bytes rest value e =
    let p = chosen (begins width passes bytes) _ (length bytes) (value, rest) e in
    let q = begun width passes bytes p.0 in
    let inner = read_spells (next (number (take width bytes))) (drop width bytes) rest value p.1 in
    let head = take width bytes in
    let long : length head ≡ width = length-take-le width bytes q.0 in
    let same_head : take width (head ++ inner.0) ≡ head = take_at head inner.0 width long in
    let same_tail : drop width (head ++ inner.0) ≡ inner.0 = drop_at head inner.0 width long in
    let enough : width ≤ length (head ++ inner.0) = omega (arith, long, length-append head inner.0) in
    let first : begins width passes (head ++ inner.0) ≡ true = begun_from width passes (head ++ inner.0) enough (ap (λ (b : List ℕ). passes (number b)) same_head ∙ q.1) in
    let heads : List ℕ → Type 0 = λ b. Spells (next (number b)) (drop width (head ++ inner.0)) value in
    let tails : List ℕ → Type 0 = λ b. Spells (next (number head)) b value in
    let spelled = subst heads (sym same_head) (subst tails (sym same_tail) inner.2) in
    (head ++ inner.0, sym (take-append-drop width bytes) ∙ ap (λ (b : List ℕ). head ++ b) inner.1 ∙ sym (append_assoc head inner.0 rest), (first, spelled))

opened_from : {A : Type 0} (size : ℕ) (read : Result (A × List ℕ) ℕ) (value : A) → opened_of size read ≡ Ok value → read ≡ Ok (value, [])
opened_from {A = A} size (Ok (v, [])) value e = let made : A → Result (A × List ℕ) ℕ = λ x. Ok (x, []) in ap made (let same : v ≡ value = cc in same)
opened_from size (Ok (v, byte ∷ rest)) value e = absurd cc
opened_from size (Err left) value e = absurd cc

pub spelled_is_read : {A : Type 0} → SpelledIsRead A
unfolding opened
spelled_is_read {A = A} format bytes value h =
    let size : ℕ = length bytes in
    ap (λ (r : Result (A × List ℕ) ℕ). opened_of size r) (ap (reading format) (sym (append-nil bytes)) ∙ spelled_reads format bytes [] value h)

pub read_is_spelled : {A : Type 0} → ReadIsSpelled A
unfolding opened
read_is_spelled {A = A} format bytes value e =
    let read = read_spells format bytes [] value (opened_from (length bytes) (reading format bytes) value e) in
    subst (λ (b : List ℕ). Spells format b value) (sym (read.1 ∙ append-nil read.0)) read.2

pub spells_one : {A : Type 0} → SpellsOne A
spells_one {A = A} format bytes one other h k =
    let made : A → Result A ℕ = λ x. Ok x in
    let e : made one ≡ made other = sym (spelled_is_read format bytes one h) ∙ spelled_is_read format bytes other k in
    cc

pub spellings_are_apart : {A : Type 0} → SpellingsAreApart A
spellings_are_apart {A = A} format bytes more one other h k =
    let made : A → List ℕ → Result (A × List ℕ) ℕ = λ x rest. Ok (x, rest) in
    let e : made one more ≡ made other [] = sym (spelled_reads format bytes more one h) ∙ ap (reading format) (sym (append-nil (bytes ++ more))) ∙ spelled_reads format (bytes ++ more) [] other k in
    (ok_value one other more [] e).1

-- Reading a format put together.

pub reads_on : {A B : Type 0} (first : Format A) (next : A → Format B) (bytes rest : List ℕ) (value : A)
    → reading first bytes ≡ Ok (value, rest) → reading (first >>= next) bytes ≡ reading (next value) rest
unfolding reading ◌>>=◌
reads_on {A = A} {B = B} (whole v) next bytes rest value e =
    let p = ok_value v value bytes rest e in
    ap (λ (x : A). reading (next x) bytes) p.0 ∙ ap (λ (b : List ℕ). reading (next value) b) p.1
reads_on (field width passes first) next bytes rest value e =
    let p = chosen (begins width passes bytes) _ (length bytes) (value, rest) e in
    cond-true (begins width passes bytes) _ _ p.0 ∙ reads_on (first (number (take width bytes))) next (drop width bytes) rest value p.1

pub stopped : {Y : Type 0} (b : Bool) (x : Result Y ℕ) (n left : ℕ) → cond b x (Err n) ≡ Err left → ((b ≡ true) × (x ≡ Err left)) ⊎ ((b ≡ false) × (n ≡ left))
stopped true x n left e = inl (refl, e)
stopped false x n left e = inr (refl, cc)

pub stops_on : {A B : Type 0} (first : Format A) (next : A → Format B) (bytes : List ℕ) (left : ℕ) → reading first bytes ≡ Err left → reading (first >>= next) bytes ≡ Err left
unfolding reading ◌>>=◌
stops_on (whole v) next bytes left e = absurd cc
stops_on {A = A} {B = B} (field width passes first) next bytes left e =
    let fault : ℕ → Result (B × List ℕ) ℕ = λ n. Err n in
    elim (stopped (begins width passes bytes) _ (length bytes) left e) [
      | inl h ↦ cond-true (begins width passes bytes) _ _ h.0 ∙ stops_on (first (number (take width bytes))) next (drop width bytes) left h.1
      | inr h ↦ cond-false (begins width passes bytes) _ _ h.0 ∙ ap fault h.1
    ]

pub reads_whole : {A : Type 0} (value : A) (bytes : List ℕ) → reading (whole value) bytes ≡ Ok (value, bytes)
unfolding reading
reads_whole value bytes = refl

-- A fault of what is read first is one of the whole.
pub stops_first : {A B : Type 0} (e : FormatError) (first : Format A) (next : A → Format B) (bytes : List ℕ) → Stops e (reading first bytes) → Stops e (reading (first >>= next) bytes)
stops_first error.OutOfMemory first next bytes h = tt
stops_first (error.Fault left) first next bytes h = stops_on first next bytes left h

-- A fault behind what was read is one of the whole.
pub stops_next : {A B : Type 0} (e : FormatError) (first : Format A) (next : A → Format B) (bytes rest : List ℕ) (value : A) → reading first bytes ≡ Ok (value, rest)
    → Stops e (reading (next value) rest) → Stops e (reading (first >>= next) bytes)
stops_next {B = B} e first next bytes rest value h k = let stops : Result (B × List ℕ) ℕ → Type 0 = λ r. Stops e r in subst stops (sym (reads_on first next bytes rest value h)) k

-- Reading leaves no more bytes than there were.

pub rest_is_shorter : {A : Type 0} (format : Format A) (bytes rest : List ℕ) (value : A) → reading format bytes ≡ Ok (value, rest) → length rest ≤ length bytes
rest_is_shorter format bytes rest value e = let p = read_spells format bytes rest value e in omega (arith, ap length p.1, length-append p.0 rest)

pub fault_is_within : {A : Type 0} (format : Format A) (bytes : List ℕ) (left : ℕ) → reading format bytes ≡ Err left → left ≤ length bytes
unfolding reading
fault_is_within (whole v) bytes left e = absurd cc
fault_is_within (field width passes next) bytes left e =
    elim (stopped (begins width passes bytes) _ (length bytes) left e) [
      | inl h ↦ (let inner = fault_is_within (next (number (take width bytes))) (drop width bytes) left h.1 in omega (arith, inner, length-drop width bytes))
      | inr h ↦ omega (arith, h.1)
    ]

-- Reading one after the other, as one step on what was read first.

abbrev pub then_read : {A B : Type 0} → Result (A × List ℕ) ℕ → (A → Format B) → Result (B × List ℕ) ℕ
then_read (Ok read) next = reading (next read.0) read.1
then_read (Err left) next = Err left

pub reading_then : {A B : Type 0} (first : Format A) (next : A → Format B) (bytes : List ℕ) → reading (first >>= next) bytes ≡ then_read (reading first bytes) next
unfolding reading ◌>>=◌
reading_then (whole v) next bytes = refl
reading_then (field width passes first) next bytes =
    let b : Bool = begins width passes bytes in
    elim (cases_Bool b) [
      | inl h ↦ cond-true b _ _ h ∙ reading_then (first (number (take width bytes))) next (drop width bytes) ∙ ap (λ r. then_read r next) (sym (cond-true b _ _ h))
      | inr h ↦ cond-false b _ _ h ∙ ap (λ r. then_read r next) (sym (cond-false b _ _ h))
    ]

-- What all of the bytes spell, by what reading them gives.

pub opened_whole : {A : Type 0} (format : Format A) (bytes rest : List ℕ) (value : A) → reading format bytes ≡ Ok (value, rest) → length rest ≡ 0 → opened format bytes ≡ Ok value
unfolding opened
opened_whole {A = A} format bytes [] value e l = ap (λ (r : Result (A × List ℕ) ℕ). opened_of (length bytes) r) e
opened_whole format bytes (byte ∷ rest) value e l = absurd (omega arith)

pub opened_more : {A : Type 0} (format : Format A) (bytes rest : List ℕ) (value : A) → reading format bytes ≡ Ok (value, rest) → (length rest ≡ 0 → ⊥) → opened format bytes ≡ Err (length bytes - length rest)
unfolding opened
opened_more format bytes [] value e l = absurd (l refl)
opened_more {A = A} format bytes (byte ∷ rest) value e l = ap (λ (r : Result (A × List ℕ) ℕ). opened_of (length bytes) r) e

pub opened_fault : {A : Type 0} (format : Format A) (bytes : List ℕ) (left : ℕ) → reading format bytes ≡ Err left → opened format bytes ≡ Err (length bytes - left)
unfolding opened
opened_fault {A = A} format bytes left e = ap (λ (r : Result (A × List ℕ) ℕ). opened_of (length bytes) r) e
