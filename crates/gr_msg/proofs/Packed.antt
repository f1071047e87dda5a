-- What the bytes of a packet say.
use Rattle.std.proofs.Common.{◌≡◌, ℕ, List, [], ◌∷◌, ◌++◌, length, Result, Ok, Err, sym, ap, subst, ◌∙◌, append_assoc}
use Rattle.std.specs.List.{flat_map}
use Rattle.std.proofs.lemmas.Grind.{flat_map-append}
use Rattle.gr_format.specs.declared.field.Field.{Field}
use Rattle.gr_format.specs.declared.field.Field.TheVariants.{Word, Pair}
use Rattle.gr_format.specs.Formats.{Spells, reading, opened}
use Rattle.gr_format.specs.declared.error.FormatError.{FormatError}
use Rattle.gr_format.specs.declared.error.FormatError.TheVariants as stopped
use Rattle.gr_format.specs.Readers.{Stops}
use Rattle.gr_msg.specs.RefusalWords.{IsWithin, refusal_of}
use Rattle.gr_format.specs.Writing.{spelled}
use Rattle.gr_format.proofs.Exact.{spelled_is_read, read_is_spelled, fault_is_within, opened_fault}
use Rattle.gr_format.proofs.Once.{taken_is_spelled}
use Rattle.gr_msg.specs.declared.message.Msg.{Msg}
use Rattle.gr_msg.specs.declared.opened.Opened.{Opened}
use Rattle.std.specs.Prelude.{IfOk}
use Rattle.gr_msg.specs.declared.error.DecodeError.{DecodeError}
use Rattle.gr_msg.specs.Decoding.{Decodes}
use Rattle.gr_msg.specs.Messages.{packet}
use Rattle.gr_msg.specs.Ranges.{IsPacket}
use Rattle.gr_msg.specs.FieldWords.{fields, packet_fields}
use Rattle.gr_msg.specs.PacketView.{or_empty, contents, Holds}
use Rattle.gr_msg.proofs.Spelling.{spelled-append}
use Rattle.gr_msg.proofs.Taken.{packet_taken}

-- What is written for a packet is its spelling.
pub written : (clock count : ℕ) (front back : List Msg) (start head most all : List ℕ) → start ≡ [] → head ≡ start ++ spelled (Word clock ∷ Pair count ∷ [])
    → most ≡ head ++ spelled (flat_map fields front) → all ≡ most ++ spelled (flat_map fields back) → count ≡ length (front ++ back)
    → all ≡ spelled (packet_fields (record { clock = clock; messages = front ++ back }))
written clock count front back start head most all a b c d e =
    let fs : List Field = flat_map fields front in
    let bs : List Field = flat_map fields back in
    let behind : List ℕ → List ℕ = λ bytes. bytes ++ spelled bs in
    let two : List ℕ → List ℕ = λ bytes. (bytes ++ spelled fs) ++ spelled bs in
    let with_start : List ℕ → List ℕ = λ bytes. bytes ++ spelled (Word clock ∷ Pair count ∷ []) in
    let numbers : List Field → List ℕ = λ xs. spelled (Word clock ∷ Pair count ∷ xs) in
    let counted : ℕ → List ℕ = λ n. spelled (Word clock ∷ Pair n ∷ flat_map fields (front ++ back)) in
    let h : List ℕ = spelled (Word clock ∷ Pair count ∷ []) in
    d ∙ ap behind c ∙ ap two (b ∙ ap with_start a)
    ∙ append_assoc h (spelled fs) (spelled bs)
    ∙ ap (λ (bytes : List ℕ). h ++ bytes) (sym (spelled-append fs bs))
    ∙ sym (spelled-append (Word clock ∷ Pair count ∷ []) (fs ++ bs))
    ∙ ap numbers (sym (flat_map-append fields front back))
    ∙ ap counted e

pub spells : (p : Opened) (bytes : List ℕ) → IsPacket p → bytes ≡ spelled (packet_fields p) → Spells packet bytes p
spells p bytes h e = let says : List ℕ → Type 0 = λ b. Spells packet b p in subst says (sym e) (taken_is_spelled packet (packet_fields p) p (packet_taken p h))

pub contents_are : (p : Opened) (bytes : List ℕ) → Spells packet bytes p → contents bytes ≡ p
unfolding contents
contents_are p bytes s = ap or_empty (spelled_is_read packet bytes p s)

pub holds : (clock : ℕ) (p : Opened) (bytes : List ℕ) → clock ≡ p.clock → Spells packet bytes p → Holds clock bytes
holds clock p bytes e s =
    let same : contents bytes ≡ p = contents_are p bytes s in
    let says : Opened → Type 0 = λ x. Spells packet bytes x in
    record { clock_is = e ∙ ap (λ (x : Opened). x.clock) (sym same); spelled = subst says (sym same) s }

-- What is answered, by what all of the bytes spell.

pub decoded_spells : (bytes : List ℕ) (r : Result Opened DecodeError) → Decodes (opened packet bytes) r → IfOk r (λ p. Spells packet bytes p)
decoded_spells bytes (Ok p) h = read_is_spelled packet bytes p h
decoded_spells bytes (Err e) h = tt

pub spelled_decodes : (bytes : List ℕ) (p : Opened) (r : Result Opened DecodeError) → Decodes (opened packet bytes) r → Spells packet bytes p → Decodes (Ok p) r
spelled_decodes bytes p r h s = let decodes : Result Opened ℕ → Type 0 = λ read. Decodes read r in subst decodes (spelled_is_read packet bytes p s) h

pub stops_within : (bytes : List ℕ) (e : FormatError) → Stops e (reading packet bytes) → IsWithin (length bytes) e
stops_within bytes (stopped.Fault left) h = fault_is_within packet bytes left h
stops_within bytes stopped.OutOfMemory h = tt

pub stops_refused : (bytes : List ℕ) (e : FormatError) (refusal : DecodeError) → Stops e (reading packet bytes) → refusal ≡ refusal_of (length bytes) e → Decodes (opened packet bytes) (Err refusal)
stops_refused bytes (stopped.Fault left) refusal h e = let decodes : DecodeError → Type 0 = λ r. Decodes (opened packet bytes) (Err r) in subst decodes (sym e) (opened_fault packet bytes left h)
stops_refused bytes stopped.OutOfMemory refusal h e = let decodes : DecodeError → Type 0 = λ r. Decodes (opened packet bytes) (Err r) in subst decodes (sym e) tt
