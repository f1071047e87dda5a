-- Worked rows: the words of a line that is written as one text, and what a row says of them.
use Rattle.std.specs.Prelude.{◌≡◌, ◌==◌, ◌^◌, Bool, true, false, List, Option, None, Some}
use Rattle.std.specs.List.{slice_split}
use Rattle.clap.specs.Words.{Text}
use Rattle.gr_cli.specs.Options.{is_refused, options_of}
use Rattle.gr_gen.specs.declared.programs.BenchKind.TheVariants.{Words}
use Rattle.gr_cli.specs.declared.settings.Command.TheVariants.{Run}
use Rattle.gr_cli.specs.declared.settings.Options.{Options}

-- The words of a line, which has one space between two of them.
abbrev pub line : Text → List Text
line text = slice_split (λ byte. byte == 32) text

-- What the word `run` alone gives: each option has its default.
abbrev pub run_options : Options
run_options = record {
  command = Run;
  cores = 4;
  block = 8;
  limit = 32;
  steps = 1000000;
  slice = 1024;
  events = 2 ^ 40;
  history = false;
  counts = false;
  kind = Words;
  size = 1000;
  seed = 1;
}

-- The words of the line give these options.
abbrev pub GivesOptions : Text → Options → Type 0
GivesOptions text options = options_of (line text) ≡ Some options

-- Whether `clap` refuses the words, and the options that they give.
abbrev pub answer_to : List Text → Bool × Option Options
answer_to words = (is_refused words, options_of words)

-- `clap` refuses the words of the line, so they give no options.
abbrev pub IsRefusedByClap : Text → Type 0
IsRefusedByClap text = answer_to (line text) ≡ (true, None)

-- `clap` takes the words of the line, but one of them is no value of its argument, so they give no options.
abbrev pub HasFaultyValue : Text → Type 0
HasFaultyValue text = answer_to (line text) ≡ (false, None)
