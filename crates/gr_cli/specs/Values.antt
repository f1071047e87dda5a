-- Which value the word of an argument stands for, and which options the matched words give.
use Rattle.std.specs.Prelude.{ℕ, Bool, false, List, [], ◌∷◌, Option, Some, None, codes, find, option_and_then}
use Rattle.std.specs.Str.{bytes_eq}
use Rattle.clap.specs.Words.{Row, Text, first_of}
use Rattle.gr_cli.specs.Numbers.{number_in}
use Rattle.gr_cli.specs.declared.numbers.TheConstants.{BLOCK, CORES, EVENTS, LIMIT, SEED, SIZE, SLICE, STEPS}
use Rattle.gr_cli.specs.declared.numbers.Bounds.{Bounds}
use Rattle.gr_gen.specs.declared.programs.BenchKind.{BenchKind}
use Rattle.gr_gen.specs.declared.programs.BenchKind.TheVariants.{Words, Sets, Queue}
use Rattle.gr_cli.specs.declared.settings.Command.{Command}
use Rattle.gr_cli.specs.declared.settings.Command.TheVariants.{Run, Check, Replay, Bench}
use Rattle.gr_cli.specs.declared.settings.Options.{Options}

-- The number of an option, by its word if it has one.
abbrev pub number_of : Bounds → Option Text → Option ℕ
number_of bounds None = Some bounds.default
number_of bounds (Some text) = number_in bounds text

-- A flag is used where its word is `true`: `clap` gives that word to a flag that is used, and `false` to any other.
abbrev pub is_used : Option Text → Bool
is_used None = false
is_used (Some text) = bytes_eq text (codes "true")

-- How each command is spelled.
abbrev pub command_word : Command → Text
command_word Run = codes "run"
command_word Check = codes "check"
command_word Replay = codes "replay"
command_word Bench = codes "bench"

-- The command of that spelling.
abbrev pub command_named : Text → Option Command
command_named text = find (λ command. bytes_eq text (command_word command)) (Run ∷ Check ∷ Replay ∷ Bench ∷ [])

-- The command of the positional's word.
abbrev pub command_of : Option Text → Option Command
command_of word = option_and_then command_named word

-- How each kind of program is spelled.
abbrev pub kind_word : BenchKind → Text
kind_word Words = codes "words"
kind_word Sets = codes "sets"
kind_word Queue = codes "queue"

-- The kind of that spelling.
abbrev pub kind_named : Text → Option BenchKind
kind_named text = find (λ kind. bytes_eq text (kind_word kind)) (Words ∷ Sets ∷ Queue ∷ [])

-- The kind of the option's word, if it has one.
abbrev pub kind_of : Option Text → Option BenchKind
kind_of None = Some Words
kind_of (Some text) = kind_named text

-- What the value gives, if there is one: `given read (λ value. rest)` reads `let value = read?; rest`.
abbrev pub given : {Value Next : Type 0} → Option Value → (Value → Option Next) → Option Next
given value next = option_and_then next value

-- The options that the rows of the matches give, none where a word is no value of its option.
abbrev pub values_of : List Row → Option Options
values_of rows =
    given (command_of (first_of (codes "command") rows)) (λ command.
    given (number_of CORES (first_of (codes "cores") rows)) (λ cores.
    given (number_of BLOCK (first_of (codes "block") rows)) (λ block.
    given (number_of LIMIT (first_of (codes "limit") rows)) (λ limit.
    given (number_of STEPS (first_of (codes "steps") rows)) (λ steps.
    given (number_of SLICE (first_of (codes "slice") rows)) (λ slice.
    given (number_of EVENTS (first_of (codes "events") rows)) (λ events.
    given (kind_of (first_of (codes "kind") rows)) (λ kind.
    given (number_of SIZE (first_of (codes "size") rows)) (λ size.
    given (number_of SEED (first_of (codes "seed") rows)) (λ seed.
    Some (record {
      command = command;
      cores = cores;
      block = block;
      limit = limit;
      steps = steps;
      slice = slice;
      events = events;
      history = is_used (first_of (codes "history") rows);
      counts = is_used (first_of (codes "counts") rows);
      kind = kind;
      size = size;
      seed = seed;
    })))))))))))
