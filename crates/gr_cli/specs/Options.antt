-- Which options the words of a command line give.
use Rattle.std.specs.Prelude.{Bool, true, false, List, [], ◌∷◌, Option, None, if◌then◌else◌}
use Rattle.clap.specs.Words.{Kinds, Text, fault_of, matches_of}
use Rattle.gr_cli.specs.Arguments.{simple_command}
use Rattle.gr_cli.specs.Numbers.{IsWithin}
use Rattle.gr_cli.specs.Values.{values_of}
use Rattle.gr_cli.specs.declared.numbers.TheConstants.{BLOCK, CORES, EVENTS, LIMIT, SEED, SIZE, SLICE, STEPS}
use Rattle.gr_cli.specs.declared.settings.Options.{Options}

-- Whether the list of kinds has one.
abbrev pub has_some : Kinds → Bool
has_some [] = false
has_some (kind ∷ kinds) = true

-- Whether `clap` states a fault, other than want of memory, of the command for these words.
abbrev pub is_refused : List Text → Bool
is_refused words = has_some (fault_of simple_command words)

-- The options of the words: none where `clap` states a fault for them, else the values of the matches that it states.
unfoldable pub options_of : List Text → Option Options
options_of words = if is_refused words then None else values_of (matches_of simple_command words)

-- Each number is within the bounds of its option.
pub record IsWithinLimits (options : Options) : Type 0 where
  pub few_cores : IsWithin CORES options.cores
  pub short_block : IsWithin BLOCK options.block
  pub low_limit : IsWithin LIMIT options.limit
  pub few_steps : IsWithin STEPS options.steps
  pub short_slice : IsWithin SLICE options.slice
  pub few_events : IsWithin EVENTS options.events
  pub small_size : IsWithin SIZE options.size
  pub seed_word : IsWithin SEED options.seed
