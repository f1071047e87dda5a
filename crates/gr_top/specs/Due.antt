-- The answer due: the refusal and the text for the options, what the text reads as, and the history of its run; and what comes of it.
use Rattle.std.specs.Prelude.{◌≡◌, ℕ, ◌<◌, Bool, true, false, List, [], ◌++◌, length, take, Option, None, Some, is_some}
use Rattle.std.specs.Io.KnownBytes.{Appends}
use Rattle.gr_syntax.specs.declared.syntax.Program.{Program}
use Rattle.gr_syntax.specs.declared.refusal.Fault.{Fault}
use Rattle.gr_lang.specs.declared.action.Entry.{Entry}
use Rattle.gr_cli.specs.declared.settings.Options.{Options}
use Rattle.gr_cli.specs.declared.settings.Command.{Command}
use Rattle.gr_cli.specs.declared.settings.Command.TheVariants.{Check}
use Rattle.gr_hist.specs.Naming.{history_text}
use Rattle.gr_replay.specs.Judged.{Verdict, legal, not_legal}
use Rattle.gr_machine.specs.declared.core_end.CoreEnd.{CoreEnd}
use Rattle.gr_report.specs.Ends.{counts_lines, limit_text}
use Rattle.gr_report.specs.Texts.{prints, trap_text}
use Rattle.gr_report.specs.Showing.{shown_of}
use Rattle.gr_engine.specs.declared.ending.WorldEnd.{WorldEnd}
use Rattle.gr_engine.specs.Ends.{Ended, complete, ended_as, limited, stalled, trapped}
use Rattle.gr_top.specs.Commands.{setup_of}
use Rattle.gr_top.specs.Texts.{accepted_text, refused_text, usage_text, too_long_text, legal_text, not_legal_text, bad_line_text, stalled_text}
use Rattle.gr_top.specs.declared.answer.Refusal.{Refusal}
use Rattle.gr_top.specs.declared.answer.Refusal.TheVariants.{Nothing, Refused, Usage, Trap, ReadFault, WriteFault, Memory, EventLimit, TooLong, NotLegal, BadLine, Stalled}

-- What a text reads as: an accepted program, or its first fault.
pub data Reading : Type 0 where
  accepted : Program → Reading
  refused : Fault → Reading

-- What a replay finds: the program's text is refused, the history text leaves its grammar at a line, or the history is judged.
pub data Replayed : Type 0 where
  unread : Fault → Replayed
  bad_line : ℕ → Replayed
  judged : Verdict → Replayed

-- A refusal, the text that goes to the sink, and whether a run was made.
pub record Due : Type 0 where
  pub refusal : Refusal
  pub text : List ℕ
  pub ran : Bool

-- An answer without a run.
abbrev pub said : Refusal → List ℕ → Due
said refusal text = record { refusal = refusal; text = text; ran = false }

abbrev pub due_usage : Due
due_usage = said Usage usage_text

abbrev pub due_too_long : Due
due_too_long = said TooLong too_long_text

abbrev pub due_refused : Fault → Due
due_refused f = said (Refused f.kind f.at.line f.at.column) (refused_text f)

-- The history text and the counts follow where the options ask for them.
abbrev pub told : Bool → Program → ℕ → ℕ → List Entry → List ℕ
told true program cores steps history = history_text program cores steps history
told false program cores steps history = []

abbrev pub counted : Bool → List CoreEnd → List ℕ
counted true ends = counts_lines ends
counted false ends = []

-- Why a run ended as it did, and the lines that say so: what the shown objects hold, the first trap, or the first core at the limit of events.
abbrev pub refusal_of : Ended → Refusal
refusal_of (complete objects) = Nothing
refusal_of (trapped trap) = Trap trap.kind trap.task
refusal_of (limited at) = EventLimit at.core at.clock
refusal_of stalled = Stalled

abbrev pub last_lines : Program → Ended → List ℕ
last_lines program (complete objects) = shown_of program objects
last_lines program (trapped trap) = trap_text trap
last_lines program (limited at) = limit_text at
last_lines program stalled = []

-- Of a run with this history, by how it ended: its prints, then those lines, and then what the options ask for.
abbrev pub run_text : Options → Program → WorldEnd → Ended → List ℕ
run_text options program world how =
    prints world.history ++ (last_lines program how ++ (told options.history program options.cores options.steps world.history ++ counted options.counts world.cores))

abbrev pub due_ended : Options → Program → WorldEnd → Ended → Due
due_ended options program world stalled = record { refusal = Stalled; text = stalled_text; ran = true }
due_ended options program world how = record { refusal = refusal_of how; text = run_text options program world how; ran = true }

-- Of the run that is kept; no answer is due where there should be a run and none is kept.
abbrev pub due_run : Options → Program → Option WorldEnd → Option Due
due_run options program None = None
due_run options program (Some world) = Some (due_ended options program world (ended_as (setup_of options) program world))

abbrev pub due_accepted : Command → Options → Program → Option WorldEnd → Option Due
due_accepted Check options program world = Some (said Nothing accepted_text)
due_accepted _ options program world = due_run options program world

-- Of a command on a text that was read.
abbrev pub due_read : Options → Reading → Option WorldEnd → Option Due
due_read options (refused fault) world = Some (due_refused fault)
due_read options (accepted program) world = due_accepted options.command options program world

-- Of a replay.
abbrev pub due_judged : Verdict → Due
due_judged (legal is_complete) = said Nothing (legal_text is_complete)
due_judged (not_legal entry) = said (NotLegal entry) (not_legal_text entry)

abbrev pub due_replayed : Replayed → Due
due_replayed (unread f) = due_refused f
due_replayed (bad_line line) = said (BadLine line) (bad_line_text line)
due_replayed (judged verdict) = due_judged verdict

-- What came of an answer: it was given and its text written, or the sink failed and got only the front of the text.
abbrev pub Came : Due → Option (List ℕ) → Option (List ℕ) → Refusal → Option WorldEnd → Type 0
Came d before now (WriteFault written) world = (written < length d.text) × Appends before now (take written d.text) × (is_some world ≡ d.ran)
Came d before now refusal world = (refusal ≡ d.refusal) × Appends before now d.text × (is_some world ≡ d.ran)

-- An answer that can be written.
abbrev pub IsWritten : Refusal → Type 0
IsWritten Memory = ⊥
IsWritten ReadFault = ⊥
IsWritten (WriteFault written) = ⊥
IsWritten refusal = Unit {0}
