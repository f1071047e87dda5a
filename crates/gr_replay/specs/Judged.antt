-- What is said of a history text: it is legal, and complete or not, or its first line that is no step has a number, counted from 1.
use Rattle.std.specs.Prelude.{◌≡◌, ℕ, ◌+◌, Bool, List, ◌∷◌, ◌++◌, length, map, Some, None}
use Rattle.std.specs.Option.{option_and_then}
use Rattle.gr_syntax.specs.declared.syntax.Program.{Program}
use Rattle.gr_lang.specs.declared.action.Entry.{Entry}
use Rattle.gr_lang.specs.States.{State}
use Rattle.gr_lang.specs.Steps.{step}
use Rattle.gr_lang.specs.Histories.{final}
use Rattle.gr_hist.specs.declared.text.HistoryText.{HistoryText}
use Rattle.gr_hist.specs.declared.text.NamedEntry.{NamedEntry}
use Rattle.gr_replay.specs.Entries.{entry_in}
use Rattle.gr_replay.specs.declared.judging.ReplayError.{ReplayError}
use Rattle.gr_replay.specs.declared.judging.ReplayError.TheVariants as error

-- Legal, and whether complete; or the number of the first line that is no step.
pub data Verdict : Type 0 where
  legal : (is_complete : Bool) → Verdict
  not_legal : (entry : ℕ) → Verdict

-- The lines name these entries.
abbrev pub Names : Program → List NamedEntry → List Entry → Type 0
Names program lines history = map (entry_in program) lines ≡ map Some history

-- The line is no step here: it names no entry, or one that isn't allowed.
abbrev pub IsNoStep : Program → (cores limit : ℕ) → State → NamedEntry → Type 0
IsNoStep program cores limit state line = option_and_then (step program cores limit state) (entry_in program line) ≡ None

-- What is said of these lines, with this number of cores and this limit of pure steps.
pub data Judged (program : Program) (cores limit : ℕ) (lines : List NamedEntry) : Verdict → Type 0 where
  is_legal : (history : List Entry) (state : State) → Names program lines history → final program cores limit history ≡ Some state
      → Judged program cores limit lines (legal state.passed)
  is_not_legal : (front rest : List NamedEntry) (line : NamedEntry) (history : List Entry) (state : State) → lines ≡ front ++ line ∷ rest
      → Names program front history → final program cores limit history ≡ Some state → IsNoStep program cores limit state line
      → Judged program cores limit lines (not_legal (length front + 1))

-- What is said of a history text, with the numbers of its header.
abbrev pub JudgedText : Program → HistoryText → Verdict → Type 0
JudgedText program text = Judged program text.cores text.steps text.lines

-- What an error says of the text: its first line that is no step. Want of memory says nothing of it.
abbrev pub SaysError : Program → HistoryText → ReplayError → Type 0
SaysError program text (error.NotLegal entry) = JudgedText program text (not_legal entry)
SaysError program text error.OutOfMemory = Unit {0}
