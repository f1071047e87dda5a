-- Cutting a text at a byte, and a line into its fields.
use Rattle.std.proofs.Common.{◌≡◌, ◌∙◌, ◌<◌, ◌≤◌, ◌==◌, ◌+◌, ap, ap₂, refl, sym, ℕ, Bool, true, false, List, [], ◌∷◌, ◌++◌, length, take, drop, get_or, Some, None, cond, All, nat_lt, arith}
use Rattle.std.specs.List.{join_with_byte, list_all, position_or_len}
use Rattle.std.proofs.lemmas.Bool.{eqb-true, ne_eqb, eq-eqb, lt-ltb, ltb-true}
use Rattle.std.proofs.lemmas.Option.{cond_some}
use Rattle.std.proofs.lemmas.List.{append_assoc, drop_at, get_or_append_left, get_or_at, length-append, length_push, take_at}
use Rattle.std.proofs.lemmas.List.Elements.{All-append, All-cons, All-get_or, All-head, All-nil, All-tail, All-weaker}
use Rattle.std.proofs.lemmas.List.Splits.{slice_split_at, slice_split_none}
use Rattle.std.proofs.lemmas.List.Sums.{AllPass-from_list_all, passes_at_first, position_or_len_is, split_at_first}
use Rattle.gr_hist.specs.Names.{Bytes}
use Rattle.gr_hist.specs.FieldWords.{cut_at, fields_in}

-- Each byte is above the floor.
abbrev pub Over : ℕ → Bytes → Type 0
Over floor bytes = All (λ byte. floor < byte) bytes

-- Each byte of each field is.
abbrev pub EachOver : ℕ → List Bytes → Type 0
EachOver floor fields = All (Over floor) fields

-- Bytes that are written out.
pub over_test : (floor : ℕ) (bytes : Bytes) → list_all (nat_lt floor) bytes ≡ true → Over floor bytes
over_test floor bytes h = All-weaker (λ byte. nat_lt floor byte ≡ true) (λ byte. floor < byte) (λ byte. ltb-true floor byte) bytes (AllPass-from_list_all (nat_lt floor) bytes h)

pub over_weaker : (low high : ℕ) → low ≤ high → (bytes : Bytes) → Over high bytes → Over low bytes
over_weaker low high le bytes over = All-weaker (λ byte. high < byte) (λ byte. low < byte) (λ byte more. omega arith) bytes over

pub each_weaker : (low high : ℕ) → low ≤ high → (fields : List Bytes) → EachOver high fields → EachOver low fields
each_weaker low high le fields over = All-weaker (Over high) (Over low) (over_weaker low high le) fields over

-- Before the first such byte stands what has none.
len_over : (stop : ℕ) (front back : Bytes) → Over stop front → position_or_len (λ byte. byte == stop) (front ++ stop ∷ back) ≡ length front
len_over stop front back over =
    position_or_len_is (λ byte. byte == stop) (front ++ stop ∷ back) (length front) 0
    (omega (arith, length-append front (stop ∷ back)))
    (λ k less. ne_eqb (get_or (front ++ stop ∷ back) k 0) stop
    (λ same. omega (arith, get_or_append_left front (stop ∷ back) 0 k less, All-get_or (λ byte. stop < byte) front k 0 less over, same)))
    (λ more. eq-eqb (get_or (front ++ stop ∷ back) (length front) 0) stop (get_or_at front stop back 0 (length front) refl))

behind : (stop : ℕ) (front back : Bytes) → drop (length front + 1) (front ++ stop ∷ back) ≡ back
behind stop front back = ap (drop (length front + 1)) (sym (append_assoc front (stop ∷ []) back)) ∙ drop_at (front ++ stop ∷ []) back (length front + 1) (length_push front stop)

pub cut_only : (stop : ℕ) (front back : Bytes) → Over stop front → cut_at stop (front ++ stop ∷ back) ≡ Some (front, back)
cut_only stop front back over =
    let text = front ++ stop ∷ back in
    ap (λ (n : ℕ). cond (nat_lt n (length text)) (Some (take n text, drop (n + 1) text)) None) (len_over stop front back over)
    ∙ ap (λ (b : Bool). cond b (Some (take (length front) text, drop (length front + 1) text)) None) (lt-ltb (length front) (length text) (omega (arith, length-append front (stop ∷ back))))
    ∙ ap₂ (λ (x y : Bytes). Some (x, y)) (take_at front (stop ∷ back) (length front) refl) (behind stop front back)

-- What is cut is the text.
pub cut_found : (stop : ℕ) (text front back : Bytes) → cut_at stop text ≡ Some (front, back) → text ≡ front ++ stop ∷ back
cut_found stop text front back cut =
    let n = position_or_len (λ (byte : ℕ). byte == stop) text in
    let found = cond_some {A = Bytes × Bytes} (nat_lt n (length text)) (take n text, drop (n + 1) text) (front, back) cut in
    let less : n < length text = ltb-true n (length text) found.0 in
    let is_stop : get_or text n 0 ≡ stop = eqb-true (get_or text n 0) stop (passes_at_first (λ byte. byte == stop) text 0 less) in
    split_at_first (λ byte. byte == stop) text 0 less
    ∙ ap₂ (λ (halves : Bytes × Bytes) (byte : ℕ). halves.0 ++ byte ∷ halves.1) found.1 is_stop

-- Fields without a space are what their line splits into.
no_space : (field : Bytes) → Over 32 field → All (λ byte. (byte == 32) ≡ false) field
no_space field over = All-weaker (λ byte. 32 < byte) (λ byte. (byte == 32) ≡ false) (λ byte more. ne_eqb byte 32 (λ same. omega arith)) field over

pub split_join : (field : Bytes) (fields : List Bytes) → EachOver 32 (field ∷ fields) → fields_in (join_with_byte 32 (field ∷ fields)) ≡ field ∷ fields
split_join field [] over = slice_split_none (λ byte. byte == 32) field (no_space field (All-head (Over 32) field [] over))
split_join field (next ∷ fields) over =
    slice_split_at (λ byte. byte == 32) field 32 (join_with_byte 32 (next ∷ fields)) (no_space field (All-head (Over 32) field (next ∷ fields) over)) refl
    ∙ ap (λ (rest : List Bytes). field ∷ rest) (split_join next fields (All-tail (Over 32) field (next ∷ fields) over))

pub over_join : (fields : List Bytes) → EachOver 31 fields → Over 31 (join_with_byte 32 fields)
over_join [] over = All-nil (λ byte. 31 < byte)
over_join (field ∷ []) over = All-head (Over 31) field [] over
over_join (field ∷ next ∷ fields) over =
    All-append (λ byte. 31 < byte) field (32 ∷ join_with_byte 32 (next ∷ fields)) (All-head (Over 31) field (next ∷ fields) over)
    (All-cons (λ byte. 31 < byte) 32 (join_with_byte 32 (next ∷ fields)) (omega arith) (over_join (next ∷ fields) (All-tail (Over 31) field (next ∷ fields) over)))
