-- What a text reads as: it has one reading, and the reader's steps lead to it.
use Rattle.std.proofs.Common.{◌≡◌, ◌≢◌, ◌<◌, ◌+◌, refl, sym, ap, ap₂, subst, ℕ, List, [], ◌∷◌, ◌++◌, length, Ok, Err, arith}
use Rattle.std.proofs.lemmas.List.{append_assoc, length-append}
use Rattle.std.specs.List.{join_with_byte}
use Rattle.gr_hist.specs.declared.fields.LineError.{LineError}
use Rattle.gr_hist.specs.declared.fields.LineError.TheVariants as error
use Rattle.gr_hist.specs.declared.text.HistError.{HistError}
use Rattle.gr_hist.specs.declared.text.HistError.TheVariants as faults
use Rattle.gr_hist.specs.declared.text.NamedEntry.{NamedEntry}
use Rattle.gr_hist.specs.Names.{Bytes}
use Rattle.gr_hist.specs.Grammar.{IsSameError, Lines, Outcome, ReadsLines, ReadsOnce, ReadsText, SaysError, with_front, with_header}
use Rattle.gr_hist.specs.LineWords.{IsHeaderAt, IsLineAt, IsNoHeader, IsNoLine, SaysLine, error_at}
use Rattle.gr_hist.specs.Spelling.{line_of, fields_of}
use Rattle.gr_hist.proofs.LineBytes.{entry_one, header_one}

-- A line isn't empty.
line_some : (fields : List Bytes) (rest : Bytes) → 0 < length (line_of fields ++ rest)
line_some fields rest = omega (arith, length-append (line_of fields) rest, length-append (join_with_byte 32 fields) (10 ∷ []))

not_empty : (fields : List Bytes) (rest : Bytes) → [] ≢ line_of fields ++ rest
not_empty fields rest e =
    let none : 0 ≡ length (line_of fields ++ rest) = ap length e in
    absurd (omega (arith, none, line_some fields rest))

-- One reading.

lines_one : (n : ℕ) (t u : Bytes) (r s : Lines) → t ≡ u → ReadsLines n t r → ReadsLines n u s → r ≡ s
lines_one n t u r s same ReadsLines.ends ReadsLines.ends = refl
lines_one n t u r s same ReadsLines.ends (ReadsLines.line f also rest) = absurd (not_empty (fields_of f) _ same)
lines_one n t u r s same ReadsLines.ends (ReadsLines.bad some none) = absurd (some (sym same))
lines_one n t u r s same (ReadsLines.line e is rest) ReadsLines.ends = absurd (not_empty (fields_of e) _ (sym same))
lines_one n t u r s same (ReadsLines.line e is rest) (ReadsLines.line f also more) =
    let l = entry_one e f _ _ is also same in
    ap₂ with_front l.0 (lines_one (n + 1) _ _ _ _ l.1 rest more)
lines_one n t u r s same (ReadsLines.line e is rest) (ReadsLines.bad some none) = absurd (none e _ is (sym same))
lines_one n t u r s same (ReadsLines.bad some none) ReadsLines.ends = absurd (some same)
lines_one n t u r s same (ReadsLines.bad some none) (ReadsLines.line f also more) = absurd (none f _ also same)
lines_one n t u r s same (ReadsLines.bad some none) (ReadsLines.bad some2 none2) = refl

text_one : (t u : Bytes) (r s : Outcome) → t ≡ u → ReadsText t r → ReadsText u s → r ≡ s
text_one t u r s same (ReadsText.headed cores steps is rest) (ReadsText.headed cores2 steps2 also more) =
    let h = header_one cores steps cores2 steps2 _ _ is also same in
    ap₂ (λ (p : ℕ × ℕ) (l : Lines). with_header p.0 p.1 l) h.0 (lines_one 2 _ _ _ _ h.1 rest more)
text_one t u r s same (ReadsText.headed cores steps is rest) (ReadsText.headless none) = absurd (none cores steps _ is (sym same))
text_one t u r s same (ReadsText.headless none) (ReadsText.headed cores steps is rest) = absurd (none cores steps _ is same)
text_one t u r s same (ReadsText.headless none) (ReadsText.headless none2) = refl

pub reads_once : ReadsOnce
reads_once text r s p q = text_one text text r s refl p q

-- The loop over lines.

-- What lines read as with these entries in front.
abbrev pub after : List NamedEntry → Lines → Lines
after es (Ok fs) = Ok (es ++ fs)
after es (Err n) = Err n

pub line_step : (n : ℕ) (text rest : Bytes) (e : NamedEntry) (r : Lines) → IsLineAt text e rest → ReadsLines (n + 1) rest r → ReadsLines n text (with_front e r)
line_step n text rest e r at more = subst (λ (t : Bytes). ReadsLines n t (with_front e r)) (sym at.1) (ReadsLines.line e at.0 more)

pub after_push : (es : List NamedEntry) (e : NamedEntry) (r : Lines) → after es (with_front e r) ≡ after (es ++ e ∷ []) r
after_push es e (Ok fs) = ap (λ (l : List NamedEntry). Ok l) (sym (append_assoc es (e ∷ []) fs))
after_push es e (Err n) = refl

pub end_step : (n : ℕ) (text : Bytes) → length text ≡ 0 → ReadsLines n text (Ok [])
end_step n [] e = ReadsLines.ends
end_step n (b ∷ text) e = absurd (omega arith)

pub shorter : (text rest : Bytes) (e : NamedEntry) → IsLineAt text e rest → length rest < length text
shorter text rest e at = omega (arith, ap length at.1, length-append (line_of (fields_of e)) rest, length-append (join_with_byte 32 (fields_of e)) (10 ∷ []))

-- Where no line stands, the text says the error, whatever was read before.
pub bad_step : (n : ℕ) (text whole : Bytes) (es : List NamedEntry) (e : LineError) → (length text ≡ 0 → ⊥) → IsNoLine text e
    → ((r : Lines) → ReadsLines n text r → ReadsLines 2 whole (after es r)) → SaysLine 2 whole (error_at n e)
bad_step n text whole es error.Bad some none before = before (Err n) (ReadsLines.bad (λ e. some (ap length e)) none)
bad_step n text whole es error.OutOfMemory some none before = tt

-- The whole text.

pub headed_ok : (text rest : Bytes) (cores steps : ℕ) (es : List NamedEntry) → IsHeaderAt text cores steps rest → ReadsLines 2 rest (Ok es)
    → ReadsText text (Ok (record { cores = cores; steps = steps; lines = es }))
headed_ok text rest cores steps es at lines =
    subst (λ (t : Bytes). ReadsText t (with_header cores steps (Ok es))) (sym at.1) (ReadsText.headed cores steps at.0 lines)

pub headed_error : (text rest : Bytes) (cores steps : ℕ) (e : HistError) → IsHeaderAt text cores steps rest → SaysLine 2 rest e → SaysError text e
headed_error text rest cores steps (faults.BadLine n) at lines =
    subst (λ (t : Bytes). ReadsText t (with_header cores steps (Err n))) (sym at.1) (ReadsText.headed cores steps at.0 lines)
headed_error text rest cores steps faults.OutOfMemory at lines = tt

pub headless_error : (text : Bytes) (e : LineError) → IsNoHeader text e → SaysError text (error_at 1 e)
headless_error text error.Bad none = ReadsText.headless none
headless_error text error.OutOfMemory none = tt

-- Where the text says an error, each reading is that error.
pub same_error : (text : Bytes) (r : Outcome) (e : HistError) → ReadsText text r → SaysError text e → IsSameError r e
same_error text r (faults.BadLine n) reads says = reads_once text r (Err n) reads says
same_error text r faults.OutOfMemory reads says = tt
