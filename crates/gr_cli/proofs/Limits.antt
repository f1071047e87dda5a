-- Each value is one that its option takes.
use Rattle.std.proofs.Common.{◌≡◌, ◌&&◌, refl, subst, ℕ, nat_le, Bool, true, false, List}
use Rattle.std.proofs.Common.{Option, Some, None, arith, cond, codes}
use Rattle.std.proofs.lemmas.Bool.{leb-true}
use Rattle.std.specs.Str.Parse.{digits_value}
use Rattle.clap.proofs.WalkLemmas.{both}
use Rattle.clap.specs.Words.{Row, Text, first_of, matches_of}
use Rattle.gr_cli.specs.Arguments.{simple_command}
use Rattle.gr_cli.specs.Numbers.{IsWithin, contains, is_numeral, number_in}
use Rattle.gr_cli.specs.Options.{IsWithinLimits, is_refused, options_of}
use Rattle.gr_cli.specs.Values.{command_of, given, kind_of, number_of, values_of}
use Rattle.gr_cli.specs.declared.numbers.Bounds.{Bounds}
use Rattle.gr_cli.specs.declared.numbers.TheConstants.{BLOCK, CORES, EVENTS, LIMIT, SEED, SIZE, SLICE, STEPS}
use Rattle.gr_cli.specs.declared.settings.Options.{Options}

-- Equal options hold equal values.
some-same : {A : Type 0} {x y : A} → Some x ≡ Some y → x ≡ y
some-same same = cc

-- What a value gives is within the limits if it is so for each value.
given-within : {A : Type 0} (value : Option A) (next : A → Option Options) (options : Options)
    → given value next ≡ Some options
    → ((x : A) → next x ≡ Some options → IsWithinLimits options) → IsWithinLimits options
given-within None next options is rest = cc
given-within (Some x) next options is rest = rest x is

-- A number that the text of an option spells is within the option's bounds.
number_in-within : (bounds : Bounds) (text : Text) (number : ℕ)
    → number_in bounds text ≡ Some number → IsWithin bounds number
number_in-within bounds text number = go (is_numeral text) (contains bounds value) refl
  where
    value : ℕ
    value = digits_value 10 text

    go : (numeral within : Bool) → contains bounds value ≡ within
        → cond (numeral && within) (Some value) None ≡ Some number → IsWithin bounds number
    go false within has is = cc
    go true false has is = cc
    go true true has is =
        let sides = both (nat_le bounds.least value) (nat_le value bounds.most) has in
        let same : value ≡ number = cc in
        subst (IsWithin bounds) same (leb-true _ _ sides.0, leb-true _ _ sides.1)

-- So is the number that it has by default. What a number gives is within the limits if it is so for each of these.
number-within : (bounds : Bounds) (word : Option Text) (next : ℕ → Option Options) (options : Options)
    → IsWithin bounds bounds.default → given (number_of bounds word) next ≡ Some options
    → ((number : ℕ) → IsWithin bounds number → next number ≡ Some options → IsWithinLimits options)
    → IsWithinLimits options
number-within bounds None next options default is rest = rest bounds.default default is
number-within bounds (Some text) next options default is rest =
    go (number_in bounds text) (number_in-within bounds text) is
  where
    go : (value : Option ℕ) → ((number : ℕ) → value ≡ Some number → IsWithin bounds number)
        → given value next ≡ Some options → IsWithinLimits options
    go None within is = cc
    go (Some number) within is = rest number (within number refl) is

-- The values of the matches are within the limits.
pub values_are_within : (rows : List Row) (options : Options)
    → values_of rows ≡ Some options → IsWithinLimits options
values_are_within rows o is =
    let word : Text → Option Text = λ name. first_of name rows in
    given-within (command_of (word (codes "command"))) _ o is (λ command is.
    number-within CORES (word (codes "cores")) _ o (omega arith, omega arith) is (λ cores few_cores is.
    number-within BLOCK (word (codes "block")) _ o (omega arith, omega arith) is (λ block short_block is.
    number-within LIMIT (word (codes "limit")) _ o (omega arith, omega arith) is (λ limit low_limit is.
    number-within STEPS (word (codes "steps")) _ o (omega arith, omega arith) is (λ steps few_steps is.
    number-within SLICE (word (codes "slice")) _ o (omega arith, omega arith) is (λ slice short_slice is.
    number-within EVENTS (word (codes "events")) _ o (omega arith, omega arith) is (λ events few_events is.
    given-within (kind_of (word (codes "kind"))) _ o is (λ kind is.
    number-within SIZE (word (codes "size")) _ o (omega arith, omega arith) is (λ size small_size is.
    number-within SEED (word (codes "seed")) _ o (omega arith, omega arith) is (λ seed seed_word is.
    subst IsWithinLimits (some-same is) (record {
      few_cores = few_cores;
      short_block = short_block;
      low_limit = low_limit;
      few_steps = few_steps;
      short_slice = short_slice;
      few_events = few_events;
      small_size = small_size;
      seed_word = seed_word;
    })))))))))))

-- So are the options of any words.
pub options_are_within : (words : List Text) (options : Options)
    → options_of words ≡ Some options → IsWithinLimits options
unfolding options_of
options_are_within words options = go (is_refused words)
  where
    go : (refused : Bool) → cond refused None (values_of (matches_of simple_command words)) ≡ Some options
        → IsWithinLimits options
    go true is = cc
    go false is = values_are_within (matches_of simple_command words) options is
