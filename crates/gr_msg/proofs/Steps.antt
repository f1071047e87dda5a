-- One step of reading after the other, and numbers that pass tests of ours.
use Rattle.std.proofs.Common.{◌≡◌, ℕ, ◌+◌, ◌<◌, ◌≤◌, true, false, nat_eq, ltb, leb, List, length, Ok, Err, inl, inr, arith}
use Rattle.std.specs.Int.{is_in_range}
use Rattle.std.proofs.lemmas.Bool.{and_from, and_left, and_parts, lt-leb, or_cases, le-leb, leb-true, ltb-true, eqb-true}
use Rattle.gr_format.specs.declared.error.FormatError.{FormatError}
use Rattle.gr_format.specs.Formats.{reading, ranged}
use Rattle.gr_format.specs.Readers.{Stops}
use Rattle.gr_format.proofs.Exact.{reading_then, reads_whole}
use Rattle.gr_format.proofs.Ranges.{range_read, narrow_reads, narrow_fails, narrow_stops}
use Rattle.gr_msg.specs.Parts.{byte, any_word, greatest, is_object, object, above}
use Rattle.gr_msg.specs.Messages.{is_kind, kind}

pub ruleset steps = (reading_then, reads_whole)

pub in_range : (least most n : ℕ) → least ≤ n → n ≤ most → is_in_range least most n ≡ true
in_range least most n l m = and_from (leb least n) (leb n most) (le-leb least n l) (le-leb n most m)

pub range_of : (least most n : ℕ) → is_in_range least most n ≡ true → (least ≤ n) × (n ≤ most)
range_of least most n t = let p = and_parts (leb least n) (leb n most) t in (leb-true least n p.0, leb-true n most p.1)

-- Objects.

object_within : (n : ℕ) → is_object n ≡ true → is_in_range 0 255 n ≡ true
object_within n t =
    elim (or_cases (ltb n 64) (nat_eq n 255) t) [
      | inl l ↦ in_range 0 255 n (omega arith) (omega (arith, ltb-true n 64 l))
      | inr e ↦ in_range 0 255 n (omega arith) (omega (arith, eqb-true n 255 e))
    ]

pub object_reads : (n : ℕ) (bytes rest : List ℕ) → reading (byte 0 255) bytes ≡ Ok (n, rest) → is_object n ≡ true → reading object bytes ≡ Ok (n, rest)
unfolding object
object_reads n bytes rest e t = narrow_reads 1 0 255 n is_object bytes rest e t

pub object_fails : (n : ℕ) (bytes rest : List ℕ) → reading (byte 0 255) bytes ≡ Ok (n, rest) → is_object n ≡ false → reading object bytes ≡ Err (length bytes)
unfolding object
object_fails n bytes rest e t = narrow_fails 1 0 255 n is_object bytes rest e t

pub object_stops : (e : FormatError) (bytes : List ℕ) → Stops e (reading (byte 0 255) bytes) → Stops e (reading object bytes)
unfolding object
object_stops e bytes h = narrow_stops e 1 0 255 is_object bytes object_within h

pub ruleset objects = (object_reads, object_fails, object_stops)

-- Words that are greater than another.

above_within : (least n : ℕ) → is_in_range (least + 1) greatest n ≡ true → is_in_range 0 greatest n ≡ true
above_within least n t = let r = range_of (least + 1) greatest n t in in_range 0 greatest n (omega arith) r.1

pub above_reads : (least n : ℕ) (bytes rest : List ℕ) → reading any_word bytes ≡ Ok (n, rest) → least < n → reading (above least) bytes ≡ Ok (n, rest)
unfolding ranged
above_reads least n bytes rest e l =
    let r = range_of 0 greatest n (range_read 8 0 greatest n bytes rest e) in
    narrow_reads 8 0 greatest n (is_in_range (least + 1) greatest) bytes rest e (in_range (least + 1) greatest n (omega (arith, l)) r.1)

pub above_fails : (least n : ℕ) (bytes rest : List ℕ) → reading any_word bytes ≡ Ok (n, rest) → n ≤ least → reading (above least) bytes ≡ Err (length bytes)
unfolding ranged
above_fails least n bytes rest e l =
    narrow_fails 8 0 greatest n (is_in_range (least + 1) greatest) bytes rest e (and_left (leb (least + 1) n) (leb n greatest) (lt-leb (least + 1) n (omega (arith, l))))

pub above_stops : (e : FormatError) (least : ℕ) (bytes : List ℕ) → Stops e (reading any_word bytes) → Stops e (reading (above least) bytes)
unfolding ranged
above_stops e least bytes h = narrow_stops e 8 0 greatest (is_in_range (least + 1) greatest) bytes (above_within least) h

pub ruleset greater = (above_reads, above_fails, above_stops)

-- Kinds.

pub kind_within : (n : ℕ) → is_kind n ≡ true → is_in_range 1 18 n ≡ true
kind_within n t =
    elim (or_cases (is_in_range 1 9 n) (is_in_range 11 18 n) t) [
      | inl h ↦ (let r = range_of 1 9 n h in in_range 1 18 n r.0 (omega (arith, r.1)))
      | inr h ↦ (let r = range_of 11 18 n h in in_range 1 18 n (omega (arith, r.0)) r.1)
    ]

pub kind_reads : (n : ℕ) (bytes rest : List ℕ) → reading (byte 1 18) bytes ≡ Ok (n, rest) → is_kind n ≡ true → reading kind bytes ≡ Ok (n, rest)
unfolding kind
kind_reads n bytes rest e t = narrow_reads 1 1 18 n is_kind bytes rest e t

pub kind_fails : (n : ℕ) (bytes rest : List ℕ) → reading (byte 1 18) bytes ≡ Ok (n, rest) → is_kind n ≡ false → reading kind bytes ≡ Err (length bytes)
unfolding kind
kind_fails n bytes rest e t = narrow_fails 1 1 18 n is_kind bytes rest e t

pub kind_stops : (e : FormatError) (bytes : List ℕ) → Stops e (reading (byte 1 18) bytes) → Stops e (reading kind bytes)
unfolding kind
kind_stops e bytes h = narrow_stops e 1 1 18 is_kind bytes kind_within h

pub ruleset kinds = (kind_reads, kind_fails, kind_stops)
