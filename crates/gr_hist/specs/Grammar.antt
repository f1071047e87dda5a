-- The grammar of a history text, by cases: which entries have a line, and what a text reads as.
use Rattle.std.specs.Prelude.{◌≡◌, ◌≢◌, ℕ, ◌+◌, ◌<◌, ◌≤◌, ◌^◌, true, List, [], ◌∷◌, ◌++◌, length, All, Result, Ok, Err, is_some, IfSome}
use Rattle.gr_lang.specs.declared.action.TaskId.{TaskId}
use Rattle.gr_lang.specs.declared.action.How.{How}
use Rattle.gr_lang.specs.declared.action.How.TheVariants as how
use Rattle.gr_accept.specs.Operations.{argument_count, result_count, takes_reducer}
use Rattle.gr_hist.specs.declared.text.NamedEntry.{NamedEntry}
use Rattle.gr_hist.specs.declared.text.NamedEntry.TheVariants as entry
use Rattle.gr_hist.specs.declared.text.HistoryText.{HistoryText}
use Rattle.gr_hist.specs.declared.text.HistError.{HistError}
use Rattle.gr_hist.specs.declared.text.HistError.TheVariants as error
use Rattle.gr_syntax.specs.declared.limits.TheConstants.{MAX_CORES, MAX_STEPS}
use Rattle.gr_syntax.specs.Names.{is_name}
use Rattle.gr_known.specs.Known.{IsReducer}
use Rattle.gr_hist.specs.Names.{Bytes, is_object_name}
use Rattle.gr_hist.specs.Spelling.{entry_line, header_line}

-- A number that a line can have.
abbrev pub IsWord : ℕ → Type 0
IsWord n = n < 2 ^ 64

-- A task's name that a line can have.
abbrev pub IsId : TaskId → Type 0
IsId id = IsWord id.core × IsWord id.number

-- A way to start a task that a line can have.
abbrev pub IsHow : How → Type 0
IsHow how.Here = Unit {0}
IsHow (how.At core) = IsWord core
IsHow how.Offer = Unit {0}

-- The entry's numbers are such as a line can have.
abbrev pub HasNumbers : NamedEntry → Type 0
HasNumbers (entry.Call task object op reducer numbers reply) = IsId task × All IsWord numbers × All IsWord reply
HasNumbers (entry.Print task word) = IsId task × IsWord word
HasNumbers (entry.Spawn task way target args child) = IsId task × IsHow way × All IsWord args × IsId child
HasNumbers (entry.Finish task) = IsId task
HasNumbers (entry.Loop task lo hi grain target args) = IsId task × IsWord lo × IsWord hi × IsWord grain × All IsWord args
HasNumbers (entry.Begin owner index child) = IsId owner × IsWord index × IsId child
HasNumbers (entry.Pass task) = IsId task
HasNumbers (entry.End task) = IsId task
HasNumbers (entry.Trap task kind) = IsId task
HasNumbers entry.Over = Unit {0}

-- The entry's object or target has a name, and its reducer, if there is one, is one of the eight.
abbrev pub HasNames : NamedEntry → Type 0
HasNames (entry.Call task object op reducer numbers reply) = (is_object_name object ≡ true) × IfSome reducer IsReducer
HasNames (entry.Spawn task way target args child) = is_name target ≡ true
HasNames (entry.Loop task lo hi grain target args) = is_name target ≡ true
HasNames _ = Unit {0}

-- A call has a reducer just where its operation takes one, and as many numbers and result words as its operation has.
abbrev pub HasShape : NamedEntry → Type 0
HasShape (entry.Call task object op reducer numbers reply) = (is_some reducer ≡ takes_reducer op) × (length numbers ≡ argument_count op) × (length reply ≡ result_count op)
HasShape _ = Unit {0}

-- An entry that has a line.
pub record IsEntry (line : NamedEntry) : Type 0 where
  pub numbers : HasNumbers line
  pub names : HasNames line
  pub shape : HasShape line

-- The numbers of cores and of steps that a header can have.
pub record IsHeader (cores steps : ℕ) : Type 0 where
  pub some_core : 1 ≤ cores
  pub most_cores : cores ≤ MAX_CORES
  pub some_step : 1 ≤ steps
  pub most_steps : steps ≤ MAX_STEPS

-- What lines read as: their entries, or the number of the first line that is none.
abbrev pub Lines : Type 0
Lines = Result (List NamedEntry) ℕ

-- What lines read as with one more entry in front.
abbrev pub with_front : NamedEntry → Lines → Lines
with_front line (Ok lines) = Ok (line ∷ lines)
with_front line (Err number) = Err number

-- From the line of this number on the text reads so: its entries, or the first line that is none.
pub data ReadsLines : ℕ → Bytes → Lines → Type 0 where
  ends : {number : ℕ} → ReadsLines number [] (Ok [])
  line : {number : ℕ} {rest : Bytes} {lines : Lines} (first : NamedEntry) → IsEntry first → ReadsLines (number + 1) rest lines
      → ReadsLines number (entry_line first ++ rest) (with_front first lines)
  bad : {number : ℕ} {text : Bytes} → text ≢ [] → ((first : NamedEntry) (rest : Bytes) → IsEntry first → text ≢ entry_line first ++ rest)
      → ReadsLines number text (Err number)

-- What a text reads as: a history text, or the number of the first line that the grammar doesn't take.
abbrev pub Outcome : Type 0
Outcome = Result HistoryText ℕ

-- What a text with this header reads as, of whose further lines it is known.
abbrev pub with_header : ℕ → ℕ → Lines → Outcome
with_header cores steps (Ok lines) = Ok (record { cores = cores; steps = steps; lines = lines })
with_header cores steps (Err number) = Err number

-- A text reads so: its header and its lines, or line 1 where it has no header.
pub data ReadsText : Bytes → Outcome → Type 0 where
  headed : {rest : Bytes} {lines : Lines} (cores steps : ℕ) → IsHeader cores steps → ReadsLines 2 rest lines
      → ReadsText (header_line cores steps ++ rest) (with_header cores steps lines)
  headless : {text : Bytes} → ((cores steps : ℕ) (rest : Bytes) → IsHeader cores steps → text ≢ header_line cores steps ++ rest) → ReadsText text (Err 1)

-- The text reads as this error. Want of memory says nothing of it.
abbrev pub SaysError : Bytes → HistError → Type 0
SaysError text (error.BadLine number) = ReadsText text (Err number)
SaysError text error.OutOfMemory = Unit {0}

-- The outcome is this error. Want of memory says nothing of it.
abbrev pub IsSameError : Outcome → HistError → Type 0
IsSameError outcome (error.BadLine number) = outcome ≡ Err number
IsSameError outcome error.OutOfMemory = Unit {0}

-- A text has at most one reading.
abbrev pub ReadsOnce : Type 0
ReadsOnce = (text : Bytes) (one other : Outcome) → ReadsText text one → ReadsText text other → one ≡ other
