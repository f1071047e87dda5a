-- One line of a history text, taken by a plain memory.
use Rattle.std.specs.Prelude.{ℕ, Option}
use Rattle.std.specs.Option.{option_and_then}
use Rattle.gr_plain.specs.Held.{Held, stepped}
use Rattle.gr_plain.specs.declared.plain.StepError.{StepError}
use Rattle.gr_plain.specs.declared.plain.StepError.TheVariants as step
use Rattle.gr_hist.specs.declared.text.NamedEntry.{NamedEntry}
use Rattle.gr_replay.specs.Entries.{entry_in}
use Rattle.gr_replay.specs.declared.judging.ReplayError.{ReplayError}
use Rattle.gr_replay.specs.declared.judging.ReplayError.TheVariants as error

-- After the entry that the line names, where it names one that is a step.
abbrev pub advanced : Held → NamedEntry → Option Held
advanced held line = option_and_then (stepped held) (entry_in held.program line)

-- The error of a replay at the entry with this number.
abbrev pub error_at : StepError → ℕ → ReplayError
error_at step.NotLegal entry = error.NotLegal entry
error_at step.OutOfMemory entry = error.OutOfMemory
