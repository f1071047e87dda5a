-- What the words ask for, and how much of the source that takes.
use Rattle.std.specs.Prelude.{ℕ, Bool, true, false, if◌then◌else◌, List, map, Option, String, string_bytes}
use Rattle.std.specs.declared.alloc.Global.{Global}
use Rattle.gr_gen.specs.Programs.{bench_text}
use Rattle.gr_machine.specs.declared.setup.Setup.{Setup}
use Rattle.gr_cli.specs.declared.settings.Options.{Options}
use Rattle.gr_cli.specs.declared.settings.Command.{Command}
use Rattle.gr_cli.specs.declared.settings.Command.TheVariants.{Run, Replay, Bench}
use Rattle.gr_cli.specs.Options.{options_of}
use Rattle.gr_io.specs.declared.limits.TheConstants.{MAX_PROGRAM, MAX_REPLAY}

-- The options of the words; none where they are no command line.
abbrev pub asked : List (String Global) → Option Options
asked words = options_of (map string_bytes words)

-- Commands on one program text; and those that run it.
abbrev pub is_on_text : Command → Bool
is_on_text Replay = false
is_on_text _ = true

abbrev pub is_run : Command → Bool
is_run Run = true
is_run Bench = true
is_run _ = false

abbrev pub is_replay : Command → Bool
is_replay Replay = true
is_replay _ = false

-- A bench makes its own text.
abbrev pub is_read : Command → Bool
is_read Bench = false
is_read _ = true

-- The most bytes that a source may hold.
abbrev pub limit_of : Command → ℕ
limit_of Replay = MAX_REPLAY
limit_of _ = MAX_PROGRAM

-- The numbers of a run.
abbrev pub setup_of : Options → Setup
setup_of options = record {
  cores = options.cores;
  block = options.block;
  limit = options.limit;
  steps = options.steps;
  events = options.events;
}

-- The text that a command is on: a bench's own, and else what the source holds.
abbrev pub text_of : Options → List ℕ → List ℕ
text_of options bytes = if is_read options.command then bytes else bench_text options.kind options.size options.seed
