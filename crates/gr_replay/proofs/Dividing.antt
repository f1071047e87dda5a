-- How a source is divided line by line.
use Rattle.std.proofs.Common.{◌≡◌, ℕ, suc, ◌+◌, ◌-◌, ◌≤◌, ◌<◌, ◌==◌, Bool, true, false, not, cond, List, [], ◌∷◌, ◌++◌, length, take, drop, Option, Some, None, refl, sym, ap, subst, append_assoc, append-nil, add-one, ⊎_elim, ◌∙◌, eqb-true, arith}
use Rattle.std.specs.Prelude.{position, codes}
use Rattle.std.specs.List.{position_or_len, onto_first, join_with_byte}
use Rattle.std.specs.Option.{option_map, option_map_or}
use Rattle.std.specs.Str.{bytes_eq}
use Rattle.std.proofs.Math.Seq.{take-add, take-suc}
use Rattle.std.proofs.lemmas.List.{drop-drop, drop_all, take_all, length-drop}
use Rattle.std.proofs.lemmas.List.Splits.{join_with_byte-slice_split, slice_split_first}
use Rattle.std.proofs.lemmas.List.Sums.{passes_at_first, prefix_len-le-length}
use Rattle.std.proofs.lemmas.Bool.{cases_lt}
use Rattle.gr_replay.proofs.Positions.{position_hit, position_miss}
use Rattle.gr_replay.specs.Division.{lines_of, closed, program_part, history_part}

abbrev is_divider : List ℕ → Bool
is_divider = bytes_eq (codes "---")

-- The number of bytes before the first line feed, or of all.
abbrev pub first_len : List ℕ → ℕ
first_len text = position_or_len (λ b. b == 10) text

-- The program text of a source of which some stands before these lines.
abbrev program_of : List ℕ → List (List ℕ) → List ℕ → List ℕ
program_of before lines source = option_map_or (λ k. before ++ closed (take k lines)) (position is_divider lines) source

abbrev history_of : List (List ℕ) → List ℕ
history_of lines = option_map_or (λ k. join_with_byte 10 (drop (k + 1) lines)) (position is_divider lines) []

-- The program text of a source of which some stands before this rest.
abbrev pub program_after : List ℕ → List ℕ → List ℕ → List ℕ
program_after before rest source = program_of before (lines_of rest) source

program_hit : (before line : List ℕ) (ls : List (List ℕ)) (source : List ℕ) → is_divider line ≡ true → program_of before (line ∷ ls) source ≡ before
program_hit before line ls source h = ap (λ (o : Option ℕ). option_map_or (λ k. before ++ closed (take k (line ∷ ls))) o source) (position_hit is_divider line ls h) ∙ append-nil before

history_hit : (line : List ℕ) (ls : List (List ℕ)) → is_divider line ≡ true → history_of (line ∷ ls) ≡ join_with_byte 10 ls
history_hit line ls h = ap (λ (o : Option ℕ). option_map_or (λ k. join_with_byte 10 (drop (k + 1) (line ∷ ls))) o []) (position_hit is_divider line ls h)

program_miss : (before line : List ℕ) (ls : List (List ℕ)) (source : List ℕ) → is_divider line ≡ false → program_of before (line ∷ ls) source ≡ program_of (before ++ (line ++ 10 ∷ [])) ls source
program_miss before line ls source h = ap (λ (o : Option ℕ). option_map_or (λ k. before ++ closed (take k (line ∷ ls))) o source) (position_miss is_divider line ls h) ∙ by (position is_divider ls)
  where
    by : (o : Option ℕ) → option_map_or (λ k. before ++ closed (take k (line ∷ ls))) (option_map (λ j. j + 1) o) source ≡ option_map_or (λ k. (before ++ (line ++ 10 ∷ [])) ++ closed (take k ls)) o source
    by None = refl
    by (Some k) = rw (add-one k) (sym (append_assoc before (line ++ 10 ∷ []) (closed (take k ls)) ∙ ap (λ (l : List ℕ). before ++ l) (append_assoc line (10 ∷ []) (closed (take k ls)))))

history_miss : (line : List ℕ) (ls : List (List ℕ)) → is_divider line ≡ false → history_of (line ∷ ls) ≡ history_of ls
history_miss line ls h = ap (λ (o : Option ℕ). option_map_or (λ k. join_with_byte 10 (drop (k + 1) (line ∷ ls))) o []) (position_miss is_divider line ls h) ∙ by (position is_divider ls)
  where
    by : (o : Option ℕ) → option_map_or (λ k. join_with_byte 10 (drop (k + 1) (line ∷ ls))) (option_map (λ j. j + 1) o) [] ≡ option_map_or (λ k. join_with_byte 10 (drop (k + 1) ls)) o []
    by None = refl
    by (Some k) = ap (λ (n : ℕ). join_with_byte 10 (drop n (line ∷ ls))) (add-one (k + 1))

lines_last : (text : List ℕ) → first_len text ≡ length text → lines_of text ≡ text ∷ []
lines_last [] h = refl
lines_last (b ∷ bs) h = by (b == 10) h (lines_last bs)
  where
    by : (t : Bool) → cond (not t) (1 + first_len bs) 0 ≡ suc (length bs) → (first_len bs ≡ length bs → lines_of bs ≡ bs ∷ []) → cond t ([] ∷ lines_of bs) (onto_first b (lines_of bs)) ≡ (b ∷ bs) ∷ []
    by true e rest = absurd (omega arith)
    by false e rest = ap (onto_first b) (rest (omega arith))

lines_more : (text : List ℕ) → first_len text < length text → lines_of text ≡ take (first_len text) text ∷ lines_of (drop (first_len text + 1) text)
lines_more text h = slice_split_first (λ b. b == 10) text 0 h

pub line_end : (text : List ℕ) → first_len text < length text → take (first_len text + 1) text ≡ take (first_len text) text ++ 10 ∷ []
line_end text h =
    ap (λ (n : ℕ). take n text) (add-one (first_len text))
    ∙ take-suc text (first_len text) 0 h
    ∙ ap (λ (b : ℕ). take (first_len text) text ++ b ∷ []) (eqb-true _ 10 (passes_at_first (λ b. b == 10) text 0 h))

-- The first line, and the others, which are what stands behind its line feed.
pub record FirstLine (text : List ℕ) : Type 0 where
  pub others : List (List ℕ)
  pub parts : lines_of text ≡ take (first_len text) text ∷ others
  pub joined : join_with_byte 10 others ≡ drop (first_len text + 1) text

first_line : (text : List ℕ) → FirstLine text
first_line text = ⊎_elim
    (λ (h : first_len text < length text). record {
      others = lines_of (drop (first_len text + 1) text);
      parts = lines_more text h;
      joined = join_with_byte-slice_split 10 (drop (first_len text + 1) text);
    })
    (λ (h : length text ≤ first_len text). let all : first_len text ≡ length text = omega (arith, prefix_len-le-length (λ (b : ℕ). not (b == 10)) text) in record {
      others = [];
      parts = lines_last text all ∙ ap (λ (line : List ℕ). line ∷ []) (sym (take_all (first_len text) text h));
      joined = sym (drop_all (first_len text + 1) text (omega arith));
    })
    (cases_lt (first_len text) (length text))

-- At the dividing line.
pub divides_program : (before text source : List ℕ) → is_divider (take (first_len text) text) ≡ true → program_after before text source ≡ before
divides_program before text source h =
    let first = first_line text in
    ap (λ (ls : List (List ℕ)). program_of before ls source) first.parts ∙ program_hit before (take (first_len text) text) first.others source h

pub divides_history : (text : List ℕ) → is_divider (take (first_len text) text) ≡ true → history_part text ≡ drop (first_len text + 1) text
unfolding history_part
divides_history text h =
    let first = first_line text in
    ap history_of first.parts ∙ history_hit (take (first_len text) text) first.others h ∙ first.joined

-- At the last line, which divides nothing.
pub last_program : (before text source : List ℕ) → first_len text ≡ length text → is_divider (take (first_len text) text) ≡ false → program_after before text source ≡ source
last_program before text source all h =
    ap (λ (ls : List (List ℕ)). program_of before ls source) (lines_last text all) ∙ program_miss before text [] source (subst (λ (l : List ℕ). is_divider l ≡ false) (take_all (first_len text) text (omega arith)) h)

pub last_history : (text : List ℕ) → first_len text ≡ length text → is_divider (take (first_len text) text) ≡ false → history_part text ≡ []
unfolding history_part
last_history text all h =
    ap history_of (lines_last text all) ∙ history_miss text [] (subst (λ (l : List ℕ). is_divider l ≡ false) (take_all (first_len text) text (omega arith)) h)

-- At any other line.
pub other_program : (before text source : List ℕ) → first_len text < length text → is_divider (take (first_len text) text) ≡ false
    → program_after before text source ≡ program_after (before ++ take (first_len text + 1) text) (drop (first_len text + 1) text) source
other_program before text source more h =
    ap (λ (ls : List (List ℕ)). program_of before ls source) (lines_more text more)
    ∙ program_miss before (take (first_len text) text) (lines_of (drop (first_len text + 1) text)) source h
    ∙ ap (λ (l : List ℕ). program_of (before ++ l) (lines_of (drop (first_len text + 1) text)) source) (sym (line_end text more))

pub other_history : (text : List ℕ) → first_len text < length text → is_divider (take (first_len text) text) ≡ false → history_part text ≡ history_part (drop (first_len text + 1) text)
unfolding history_part
other_history text more h = ap history_of (lines_more text more) ∙ history_miss (take (first_len text) text) (lines_of (drop (first_len text + 1) text)) h

-- What is left of a source from this byte on, as a loop takes it.
abbrev pub left_at : List ℕ → ℕ → List ℕ
left_at source start = take (length source - start) (drop start source)

all_left : (source : List ℕ) (start : ℕ) → left_at source start ≡ drop start source
all_left source start = take_all (length source - start) (drop start source) (omega (arith, length-drop start source))

-- The program text, as far as it is known at this byte.
abbrev pub KnowsProgram : List ℕ → ℕ → Type 0
KnowsProgram source start = program_part source ≡ program_after (take start source) (drop start source) source

-- The history text, likewise.
abbrev pub KnowsHistory : List ℕ → ℕ → Type 0
KnowsHistory source start = history_part source ≡ history_part (drop start source)

-- The first line of what is left: its length, and whether it divides.
pub record LineAt (source : List ℕ) (start n : ℕ) (divides : Bool) : Type 0 where
  pub len : n ≡ first_len (drop start source)
  pub test : is_divider (take (first_len (drop start source)) (drop start source)) ≡ divides

pub line_at : (source : List ℕ) (start n : ℕ) (result divides : Bool) → n ≡ first_len (left_at source start) → result ≡ is_divider (take n (left_at source start)) → result ≡ divides → LineAt source start n divides
line_at source start n result divides is_len is_test is_result =
    let len : n ≡ first_len (drop start source) = is_len ∙ ap first_len (all_left source start) in
    record {
      len = len;
      test = sym (sym is_result ∙ is_test ∙ ap (λ (m : ℕ). is_divider (take m (left_at source start))) len ∙ ap (λ (text : List ℕ). is_divider (take (first_len (drop start source)) text)) (all_left source start));
    }

pub program_here : (source : List ℕ) (start n : ℕ) → LineAt source start n true → KnowsProgram source start → take start source ≡ program_part source
program_here source start n line knows = sym (knows ∙ divides_program (take start source) (drop start source) source line.test)

pub history_here : (source : List ℕ) (start n : ℕ) → LineAt source start n true → KnowsHistory source start → drop (n + 1) (left_at source start) ≡ history_part source
history_here source start n line knows =
    ap (drop (n + 1)) (all_left source start)
    ∙ ap (λ (m : ℕ). drop (m + 1) (drop start source)) line.len
    ∙ sym (knows ∙ divides_history (drop start source) line.test)

is_last : (source : List ℕ) (start n : ℕ) → LineAt source start n false → n ≡ length (left_at source start) → first_len (drop start source) ≡ length (drop start source)
is_last source start n line all = sym line.len ∙ all ∙ ap length (all_left source start)

pub program_whole : (source : List ℕ) (start n : ℕ) → LineAt source start n false → n ≡ length (left_at source start) → KnowsProgram source start → source ≡ program_part source
program_whole source start n line all knows = sym (knows ∙ last_program (take start source) (drop start source) source (is_last source start n line all) line.test)

pub history_none : (source : List ℕ) (start n : ℕ) → LineAt source start n false → n ≡ length (left_at source start) → KnowsHistory source start → [] ≡ history_part source
history_none source start n line all knows = sym (knows ∙ last_history (drop start source) (is_last source start n line all) line.test)

-- What is known one line further on.
pub record Further (source : List ℕ) (start : ℕ) : Type 0 where
  pub inside : start ≤ length source
  pub program : KnowsProgram source start
  pub history : KnowsHistory source start

pub further : (source : List ℕ) (start n : ℕ) → LineAt source start n false → ¬ (n ≡ length (left_at source start)) → Further source start → Further source (start + (n + 1))
further source start n line others knows =
    let rest : List ℕ = drop start source in
    let apart : ¬ (first_len rest ≡ length rest) = λ same. others (line.len ∙ same ∙ ap length (sym (all_left source start))) in
    let more : first_len rest < length rest = omega (arith, prefix_len-le-length (λ (b : ℕ). not (b == 10)) rest) in
    let taken : take (start + (n + 1)) source ≡ take start source ++ take (first_len rest + 1) rest =
    take-add start (n + 1) source ∙ ap (λ (m : ℕ). take start source ++ take (m + 1) rest) line.len in
    let behind : drop (first_len rest + 1) rest ≡ drop (start + (n + 1)) source = ap (λ (m : ℕ). drop (m + 1) rest) (sym line.len) ∙ drop-drop (n + 1) start source in
    record {
      inside = omega (arith, line.len, length-drop start source);
      program =
          knows.program
          ∙ other_program (take start source) rest source more line.test
          ∙ ap (λ (l : List ℕ). program_after l (drop (first_len rest + 1) rest) source) (sym taken)
          ∙ ap (λ (l : List ℕ). program_after (take (start + (n + 1)) source) l source) behind;
      history = knows.history ∙ other_history rest more line.test ∙ ap history_part behind;
    }

-- What is known before the first line.
pub at_start : (source : List ℕ) → Further source 0
unfolding program_part
at_start source = record { inside = omega arith; program = refl; history = refl }
