-- Lines and headers, both ways: no field has a space, and no line a line feed but the last.
use Rattle.std.proofs.Common.{◌≡◌, ◌∙◌, ◌<◌, refl, sym, ap, subst, ℕ, true, List, [], ◌∷◌, ◌++◌, length, Option, Some, None, Err, map, codes, decimal, arith, option_and_then, nat_le, nat_lt}
use Rattle.std.specs.Prelude.{All, IfSome, ◌&&◌}
use Rattle.std.specs.Str.{bytes_eq}
use Rattle.std.specs.List.{join_with_byte, list_all}
use Rattle.std.proofs.lemmas.Bool.{and_parts, leb-true, le-leb}
use Rattle.std.proofs.lemmas.List.{append_assoc}
use Rattle.std.proofs.lemmas.List.Elements.{All-append, All-cons, All-map, All-nil, All-weaker}
use Rattle.std.proofs.lemmas.List.Splits.{join_with_byte-slice_split}
use Rattle.std.proofs.lemmas.Option.{cond_some, none-some, same_Some}
use Rattle.gr_accept.specs.Operations.{operation_name, reducer_name}
use Rattle.gr_known.specs.Known.{IsReducer}
use Rattle.gr_lang.specs.declared.action.TaskId.{TaskId}
use Rattle.gr_lang.specs.declared.action.How.{How}
use Rattle.gr_lang.specs.declared.action.How.TheVariants as how
use Rattle.gr_lang.specs.Traps.{trap_word}
use Rattle.gr_syntax.specs.declared.limits.TheConstants.{MAX_CORES, MAX_STEPS}
use Rattle.gr_hist.specs.declared.fields.LineError.{LineError}
use Rattle.gr_hist.specs.declared.fields.LineError.TheVariants as error
use Rattle.gr_hist.specs.declared.text.NamedEntry.{NamedEntry}
use Rattle.gr_hist.specs.declared.text.NamedEntry.TheVariants as entry
use Rattle.gr_hist.specs.Names.{Bytes}
use Rattle.gr_hist.specs.Grammar.{IsEntry, IsHeader, IsHow, IsId, IsWord}
use Rattle.gr_hist.specs.LineWords.{IsHeaderAt, IsLineAt, IsNoHeader, IsNoLine, entry_in, header_in, header_of, limits_of, sizes_of}
use Rattle.gr_hist.specs.FieldWords.{Gives, cut_at, entry_of, fields_in, number_of}
use Rattle.gr_hist.specs.Spelling.{child_fields, fields_of, header_fields, how_fields, id_bytes, line_of, range_fields, reducer_field, reply_fields}
use Rattle.gr_hist.proofs.Acting.{entry_found, entry_only}
use Rattle.gr_hist.proofs.Choices.{if_some, then_some}
use Rattle.gr_hist.proofs.Cutting.{EachOver, Over, cut_found, cut_only, each_weaker, over_join, over_test, over_weaker, split_join}
use Rattle.gr_hist.proofs.NameBytes.{over_name, over_object}
use Rattle.gr_hist.proofs.Numerals.{number_found, number_only, over_decimal}
use Rattle.gr_hist.proofs.Wording.{over_operation, over_reducer, over_trap, same_text}

-- Fields, of which each byte is above `-`.

no_fields : EachOver 45 []
no_fields = All-nil (Over 45)

-- A field in front of others.
before : (field : Bytes) (fields : List Bytes) → Over 45 field → EachOver 45 fields → EachOver 45 (field ∷ fields)
before field fields first others = All-cons (Over 45) field fields first others

-- A field that is written out.
word : (field : Bytes) (fields : List Bytes) → list_all (nat_lt 45) field ≡ true → EachOver 45 fields → EachOver 45 (field ∷ fields)
word field fields is = before field fields (over_test 45 field is)

both : (one other : List Bytes) → EachOver 45 one → EachOver 45 other → EachOver 45 (one ++ other)
both = All-append (Over 45)

over_name_field : (bytes : Bytes) → Over 46 bytes → Over 45 bytes
over_name_field = over_weaker 45 46 (omega arith)

over_number : (number : ℕ) → IsWord number → Over 45 (decimal number)
over_number number fits = over_name_field (decimal number) (over_decimal number fits)

over_id : (id : TaskId) → IsId id → Over 45 (id_bytes id)
over_id id is =
    All-append (λ byte. 45 < byte) (decimal id.core) (46 ∷ decimal id.number) (over_number id.core is.0)
    (All-cons (λ byte. 45 < byte) 46 (decimal id.number) (omega arith) (over_number id.number is.1))

over_numbers : (numbers : List ℕ) → All IsWord numbers → EachOver 45 (map decimal numbers)
over_numbers numbers all = All-map (Over 45) decimal numbers (All-weaker IsWord (λ number. Over 45 (decimal number)) over_number numbers all)

over_reply : (words : List ℕ) → All IsWord words → EachOver 45 (reply_fields words)
over_reply [] all = no_fields
over_reply (w ∷ words) all = word (codes "=") (map decimal (w ∷ words)) refl (over_numbers (w ∷ words) all)

over_reducers : (reducer : Option ℕ) → IfSome reducer IsReducer → EachOver 45 (reducer_field reducer)
over_reducers None is = no_fields
over_reducers (Some reducer) is = before (reducer_name reducer) [] (over_reducer reducer is) no_fields

over_child : (child : TaskId) → IsId child → EachOver 45 (child_fields child)
over_child child is = word (codes "as") (id_bytes child ∷ []) refl (before (id_bytes child) [] (over_id child is) no_fields)

over_how : (way : How) → IsHow way → EachOver 45 (how_fields way)
over_how how.Here is = word (codes "spawn") [] refl no_fields
over_how (how.At core) is = word (codes "spawn") (codes "at" ∷ decimal core ∷ []) refl (word (codes "at") (decimal core ∷ []) refl (before (decimal core) [] (over_number core is) no_fields))
over_how how.Offer is = word (codes "offer") [] refl no_fields

over_range : (lo hi grain : ℕ) → IsWord lo → IsWord hi → IsWord grain → EachOver 45 (range_fields lo hi grain)
over_range lo hi grain fits_lo fits_hi fits_grain =
    word (codes "forall") (decimal lo ∷ decimal hi ∷ codes "grain" ∷ decimal grain ∷ []) refl
    (before (decimal lo) (decimal hi ∷ codes "grain" ∷ decimal grain ∷ []) (over_number lo fits_lo)
    (before (decimal hi) (codes "grain" ∷ decimal grain ∷ []) (over_number hi fits_hi)
    (word (codes "grain") (decimal grain ∷ []) refl (before (decimal grain) [] (over_number grain fits_grain) no_fields))))

over_fields : (e : NamedEntry) → IsEntry e → EachOver 45 (fields_of e)
over_fields (entry.Call task object op reducer numbers reply) is =
    before (id_bytes task) (object ∷ operation_name op ∷ (reducer_field reducer ++ (map decimal numbers ++ reply_fields reply))) (over_id task is.numbers.0)
    (before object (operation_name op ∷ (reducer_field reducer ++ (map decimal numbers ++ reply_fields reply))) (over_name_field object (over_object object is.names.0))
    (before (operation_name op) (reducer_field reducer ++ (map decimal numbers ++ reply_fields reply)) (over_operation op)
    (both (reducer_field reducer) (map decimal numbers ++ reply_fields reply) (over_reducers reducer is.names.1)
    (both (map decimal numbers) (reply_fields reply) (over_numbers numbers is.numbers.1) (over_reply reply is.numbers.2)))))
over_fields (entry.Print task number) is =
    before (id_bytes task) (codes "print" ∷ decimal number ∷ []) (over_id task is.numbers.0)
    (word (codes "print") (decimal number ∷ []) refl (before (decimal number) [] (over_number number is.numbers.1) no_fields))
over_fields (entry.Spawn task way target args child) is =
    before (id_bytes task) (how_fields way ++ target ∷ (map decimal args ++ child_fields child)) (over_id task is.numbers.0)
    (both (how_fields way) (target ∷ (map decimal args ++ child_fields child)) (over_how way is.numbers.1)
    (before target (map decimal args ++ child_fields child) (over_name_field target (over_name target is.names))
    (both (map decimal args) (child_fields child) (over_numbers args is.numbers.2) (over_child child is.numbers.3))))
over_fields (entry.Finish task) is = before (id_bytes task) (codes "finish" ∷ []) (over_id task is.numbers) (word (codes "finish") [] refl no_fields)
over_fields (entry.Loop task lo hi grain target args) is =
    before (id_bytes task) (range_fields lo hi grain ++ target ∷ map decimal args) (over_id task is.numbers.0)
    (both (range_fields lo hi grain) (target ∷ map decimal args) (over_range lo hi grain is.numbers.1 is.numbers.2 is.numbers.3)
    (before target (map decimal args) (over_name_field target (over_name target is.names)) (over_numbers args is.numbers.4)))
over_fields (entry.Begin owner index child) is =
    before (id_bytes owner) (codes "begin" ∷ decimal index ∷ child_fields child) (over_id owner is.numbers.0)
    (word (codes "begin") (decimal index ∷ child_fields child) refl (before (decimal index) (child_fields child) (over_number index is.numbers.1) (over_child child is.numbers.2)))
over_fields (entry.Pass task) is = before (id_bytes task) (codes "pass" ∷ []) (over_id task is.numbers) (word (codes "pass") [] refl no_fields)
over_fields (entry.End task) is = before (id_bytes task) (codes "end" ∷ []) (over_id task is.numbers) (word (codes "end") [] refl no_fields)
over_fields (entry.Trap task kind) is =
    before (id_bytes task) (codes "trap" ∷ trap_word kind ∷ []) (over_id task is.numbers)
    (word (codes "trap") (trap_word kind ∷ []) refl (before (trap_word kind) [] (over_trap kind) no_fields))
over_fields entry.Over is = word (codes "over") [] refl no_fields

-- Lines of fields.

-- The fields of a line, of which there is one.
pub record AreFields (fields : List Bytes) : Type 0 where
  pub some : 0 < length fields
  pub over : EachOver 45 fields

split_fields : (fields : List Bytes) → AreFields fields → fields_in (join_with_byte 32 fields) ≡ fields
split_fields [] are = absurd (omega arith)
split_fields (field ∷ fields) are = split_join field fields (each_weaker 32 45 (omega arith) (field ∷ fields) are.over)

cut_line : (fields : List Bytes) (rest : Bytes) → AreFields fields → cut_at 10 (line_of fields ++ rest) ≡ Some (join_with_byte 32 fields, rest)
cut_line fields rest are =
    ap (cut_at 10) (append_assoc (join_with_byte 32 fields) (10 ∷ []) rest)
    ∙ cut_only 10 (join_with_byte 32 fields) rest (over_weaker 10 31 (omega arith) (join_with_byte 32 fields) (over_join fields (each_weaker 31 45 (omega arith) fields are.over)))

-- A text that is cut at its first line feed begins with the line of its fields.
line_found : (text line rest : Bytes) (fields : List Bytes) → cut_at 10 text ≡ Some (line, rest) → fields_in line ≡ fields → text ≡ line_of fields ++ rest
line_found text line rest fields cut are =
    cut_found 10 text line rest cut
    ∙ ap (λ (l : Bytes). l ++ 10 ∷ rest) (sym (join_with_byte-slice_split 32 line) ∙ ap (join_with_byte 32) are)
    ∙ sym (append_assoc (join_with_byte 32 fields) (10 ∷ []) rest)

-- Cut at its first line feed, the line of fields has them.
line_fields : (text line rest more : Bytes) (fields : List Bytes) → AreFields fields → cut_at 10 text ≡ Some (line, rest) → text ≡ line_of fields ++ more → fields_in line ≡ fields
line_fields text line rest more fields are cut is =
    let same = same_Some {A = Bytes × Bytes} (line, rest) (join_with_byte 32 fields, more) (sym cut ∙ ap (cut_at 10) is ∙ cut_line fields more are) in
    ap (λ (p : Bytes × Bytes). fields_in p.0) same ∙ split_fields fields are

-- The line of fields has a line feed.
has_feed : (text more : Bytes) (fields : List Bytes) → AreFields fields → text ≡ line_of fields ++ more → cut_at 10 text ≡ None → ⊥
has_feed text more fields are is none = none-some {A = Bytes × Bytes} (join_with_byte 32 fields, more) (sym none ∙ ap (cut_at 10) is ∙ cut_line fields more are)

-- Lines with the same fields are the same, and so is what stands behind them.
fields_one : (one other : List Bytes) (x y : Bytes) → AreFields one → AreFields other → line_of one ++ x ≡ line_of other ++ y → (one ≡ other) × (x ≡ y)
fields_one one other x y are also is =
    let same = same_Some {A = Bytes × Bytes} (join_with_byte 32 one, x) (join_with_byte 32 other, y) (sym (cut_line one x are) ∙ ap (cut_at 10) is ∙ cut_line other y also) in
    (sym (split_fields one are) ∙ ap (λ (p : Bytes × Bytes). fields_in p.0) same ∙ split_fields other also, ap (λ (p : Bytes × Bytes). p.1) same)

-- Entries.

some_fields : (e : NamedEntry) → 0 < length (fields_of e)
some_fields (entry.Call task object op reducer numbers reply) = omega arith
some_fields (entry.Print task number) = omega arith
some_fields (entry.Spawn task way target args child) = omega arith
some_fields (entry.Finish task) = omega arith
some_fields (entry.Loop task lo hi grain target args) = omega arith
some_fields (entry.Begin owner index child) = omega arith
some_fields (entry.Pass task) = omega arith
some_fields (entry.End task) = omega arith
some_fields (entry.Trap task kind) = omega arith
some_fields entry.Over = omega arith

pub entry_fields : (e : NamedEntry) → IsEntry e → AreFields (fields_of e)
entry_fields e is = record { some = some_fields e; over = over_fields e is }

pub at_line : (text line rest : Bytes) (e : NamedEntry) → cut_at 10 text ≡ Some (line, rest) → entry_in line ≡ Some e → IsLineAt text e rest
unfolding entry_in
at_line text line rest e cut found =
    let f = entry_found (fields_in line) e found in
    (f.0, line_found text line rest (fields_of e) cut f.1)

no_entry : (text line rest : Bytes) → cut_at 10 text ≡ Some (line, rest) → entry_in line ≡ None → IsNoLine text error.Bad
unfolding entry_in
no_entry text line rest cut none e more is spelled =
    none-some e (sym none ∙ ap entry_of (line_fields text line rest more (fields_of e) (entry_fields e is) cut spelled) ∙ entry_only e is)

pub at_no_line : (text line rest : Bytes) (e : LineError) → cut_at 10 text ≡ Some (line, rest) → Gives (entry_in line) (Err e) → IsNoLine text e
at_no_line text line rest error.Bad cut none = no_entry text line rest cut none
at_no_line text line rest error.OutOfMemory cut none = tt

pub at_no_feed : (text : Bytes) → cut_at 10 text ≡ None → IsNoLine text error.Bad
at_no_feed text none e more is spelled = has_feed text more (fields_of e) (entry_fields e is) spelled none

-- Two entries with the same line are the same.
pub entry_one : (one other : NamedEntry) (x y : Bytes) → IsEntry one → IsEntry other → line_of (fields_of one) ++ x ≡ line_of (fields_of other) ++ y → (one ≡ other) × (x ≡ y)
entry_one one other x y is also same =
    let fields = fields_one (fields_of one) (fields_of other) x y (entry_fields one is) (entry_fields other also) same in
    (same_Some one other (sym (entry_only one is) ∙ ap entry_of fields.0 ∙ entry_only other also), fields.1)

-- Headers.

header_are : (cores steps : ℕ) → IsHeader cores steps → AreFields (header_fields cores steps)
header_are cores steps is = record {
  some = omega arith;
  over =
      word (codes "history") (codes "1" ∷ codes "cores" ∷ decimal cores ∷ codes "steps" ∷ decimal steps ∷ []) refl
      (word (codes "1") (codes "cores" ∷ decimal cores ∷ codes "steps" ∷ decimal steps ∷ []) refl
      (word (codes "cores") (decimal cores ∷ codes "steps" ∷ decimal steps ∷ []) refl
      (before (decimal cores) (codes "steps" ∷ decimal steps ∷ []) (over_number cores (omega arith))
      (word (codes "steps") (decimal steps ∷ []) refl (before (decimal steps) [] (over_number steps (omega arith)) no_fields)))));
}

limits_only : (cores steps : ℕ) → IsHeader cores steps → limits_of cores steps ≡ Some (cores, steps)
limits_only cores steps is = rw (le-leb 1 cores is.some_core, le-leb cores MAX_CORES is.most_cores, le-leb 1 steps is.some_step, le-leb steps MAX_STEPS is.most_steps) refl

header_only : (cores steps : ℕ) → IsHeader cores steps → header_of (header_fields cores steps) ≡ Some (cores, steps)
header_only cores steps is = rw (number_only cores (omega arith), number_only steps (omega arith)) (limits_only cores steps is)

limits_found : (cores steps : ℕ) (h : ℕ × ℕ) → limits_of cores steps ≡ Some h → IsHeader cores steps × ◌≡◌ {A = ℕ × ℕ} (cores, steps) h
limits_found cores steps h is =
    let found = cond_some {A = ℕ × ℕ} (nat_le 1 cores && nat_le cores MAX_CORES && nat_le 1 steps && nat_le steps MAX_STEPS) (cores, steps) h is in
    let d = and_parts (nat_le 1 cores && nat_le cores MAX_CORES && nat_le 1 steps) (nat_le steps MAX_STEPS) found.0 in
    let c = and_parts (nat_le 1 cores && nat_le cores MAX_CORES) (nat_le 1 steps) d.0 in
    let b = and_parts (nat_le 1 cores) (nat_le cores MAX_CORES) c.0 in
    (record { some_core = leb-true _ _ b.0; most_cores = leb-true _ _ b.1; some_step = leb-true _ _ c.1; most_steps = leb-true _ _ d.1 }, found.1)

abbrev IsHeaderOf : List Bytes → ℕ × ℕ → Type 0
IsHeaderOf fields h = IsHeader h.0 h.1 × (fields ≡ header_fields h.0 h.1)

sizes_found : (fields : List Bytes) (h : ℕ × ℕ) → sizes_of fields ≡ Some h → IsHeaderOf (codes "history" ∷ codes "1" ∷ codes "cores" ∷ fields) h
sizes_found [] h is = cc
sizes_found (p ∷ []) h is = cc
sizes_found (p ∷ q ∷ []) h is = cc
sizes_found (p ∷ sign ∷ q ∷ []) h is =
    let t = if_some (bytes_eq sign (codes "steps")) (option_and_then (λ n. option_and_then (λ l. limits_of n l) (number_of q)) (number_of p)) h is in
    let n = then_some (λ n. option_and_then (λ l. limits_of n l) (number_of q)) (number_of p) h t.1 in
    let l = then_some (λ l. limits_of n.0 l) (number_of q) h n.2 in
    let f = limits_found n.0 l.0 h l.2 in
    let a = number_found p n.0 n.1 in
    let b = number_found q l.0 l.1 in
    subst (IsHeaderOf (codes "history" ∷ codes "1" ∷ codes "cores" ∷ p ∷ sign ∷ q ∷ [])) f.1
    (f.0, (λ j. codes "history" ∷ codes "1" ∷ codes "cores" ∷ a.0 j ∷ same_text sign (codes "steps") t.0 j ∷ b.0 j ∷ []))
sizes_found (p ∷ q ∷ r ∷ x ∷ fields) h is = cc

header_found : (fields : List Bytes) (h : ℕ × ℕ) → header_of fields ≡ Some h → IsHeaderOf fields h
header_found [] h is = cc
header_found (p ∷ []) h is = cc
header_found (p ∷ q ∷ []) h is = cc
header_found (p ∷ q ∷ r ∷ fields) h is =
    let t = if_some (bytes_eq p (codes "history") && bytes_eq q (codes "1") && bytes_eq r (codes "cores")) (sizes_of fields) h is in
    let c = and_parts (bytes_eq p (codes "history") && bytes_eq q (codes "1")) (bytes_eq r (codes "cores")) t.0 in
    let b = and_parts (bytes_eq p (codes "history")) (bytes_eq q (codes "1")) c.0 in
    let f = sizes_found fields h t.1 in
    (f.0, (λ j. same_text p (codes "history") b.0 j ∷ same_text q (codes "1") b.1 j ∷ same_text r (codes "cores") c.1 j ∷ fields) ∙ f.1)

pub at_header : (text line rest : Bytes) (h : ℕ × ℕ) → cut_at 10 text ≡ Some (line, rest) → header_in line ≡ Some h → IsHeaderAt text h.0 h.1 rest
unfolding header_in
at_header text line rest h cut found =
    let f = header_found (fields_in line) h found in
    (f.0, line_found text line rest (header_fields h.0 h.1) cut f.1)

no_header : (text line rest : Bytes) → cut_at 10 text ≡ Some (line, rest) → header_in line ≡ None → IsNoHeader text error.Bad
unfolding header_in
no_header text line rest cut none cores steps more is spelled =
    none-some {A = ℕ × ℕ} (cores, steps) (sym none ∙ ap header_of (line_fields text line rest more (header_fields cores steps) (header_are cores steps is) cut spelled) ∙ header_only cores steps is)

pub at_no_header : (text line rest : Bytes) (e : LineError) → cut_at 10 text ≡ Some (line, rest) → Gives (header_in line) (Err e) → IsNoHeader text e
at_no_header text line rest error.Bad cut none = no_header text line rest cut none
at_no_header text line rest error.OutOfMemory cut none = tt

pub at_no_first : (text : Bytes) → cut_at 10 text ≡ None → IsNoHeader text error.Bad
at_no_first text none cores steps more is spelled = has_feed text more (header_fields cores steps) (header_are cores steps is) spelled none

-- Two headers with the same line are the same.
pub header_one : (cores steps cores2 steps2 : ℕ) (x y : Bytes) → IsHeader cores steps → IsHeader cores2 steps2
    → line_of (header_fields cores steps) ++ x ≡ line_of (header_fields cores2 steps2) ++ y → ◌≡◌ {A = ℕ × ℕ} (cores, steps) (cores2, steps2) × (x ≡ y)
header_one cores steps cores2 steps2 x y is also same =
    let fields = fields_one (header_fields cores steps) (header_fields cores2 steps2) x y (header_are cores steps is) (header_are cores2 steps2 also) same in
    (same_Some {A = ℕ × ℕ} (cores, steps) (cores2, steps2) (sym (header_only cores steps is) ∙ ap header_of fields.0 ∙ header_only cores2 steps2 also), fields.1)
