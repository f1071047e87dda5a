-- What the call promises, in the order of its clauses: the answer, the run that is kept, what a run that went well has written, that there is an answer where neither memory, nor source, nor sink fails, and what each refusal means.
use Rattle.std.specs.Prelude.{◌≡◌, ℕ, ◌<◌, ◌≤◌, ◌⊎◌, Bool, true, false, List, length, Option, Some, None, IfSome, String}
use Rattle.std.specs.declared.alloc.Global.{Global}
use Rattle.std.specs.Io.KnownBytes.{Appends, Consumes, Keeps}
use Rattle.gr_io.specs.Faults.{next_count}
use Rattle.gr_syntax.specs.declared.syntax.Program.{Program}
use Rattle.gr_syntax.specs.declared.refusal.Kind.{Kind}
use Rattle.gr_syntax.specs.declared.refusal.Fault.{Fault}
use Rattle.gr_syntax.specs.Faults.{fault}
use Rattle.gr_lang.specs.Histories.{complete, final, legal}
use Rattle.gr_lang.specs.States.{State}
use Rattle.gr_cli.specs.declared.settings.Options.{Options}
use Rattle.gr_cli.specs.declared.settings.Command.TheVariants.{Check, Replay}
use Rattle.gr_hist.specs.Naming.{history_text, ReadsBack}
use Rattle.gr_replay.specs.Division.{program_part, history_part}
use Rattle.gr_replay.specs.Judged as verdict
use Rattle.gr_machine.specs.Machines.{machine_of}
use Rattle.gr_engine.specs.declared.ending.WorldEnd.{WorldEnd}
use Rattle.gr_engine.specs.Ends as ended
use Rattle.gr_engine.specs.Ends.{ended_as, stalled}
use Rattle.gr_engine.specs.Runs.{AreStuck, IsMachineRun}
use Rattle.gr_top.specs.Readings.{FitsLimit, IsDue, ReadsAs, ReplaysAs}
use Rattle.gr_top.specs.Due.{Due, Came, accepted, refused, bad_line, judged, run_text}
use Rattle.gr_top.specs.Commands.{asked, is_on_text, is_read, is_replay, is_run, limit_of, setup_of, text_of}
use Rattle.gr_top.specs.declared.answer.Refusal.{Refusal}
use Rattle.gr_top.specs.declared.answer.Refusal.TheVariants as refusal

-- What came of the call: the answer due; or memory or the source failed, and nothing was written.
abbrev pub Answered : List (String Global) → List ℕ → Option (List ℕ) → Option (List ℕ) → Refusal → Option WorldEnd → Type 0
Answered words bytes before now refusal.Memory world = Keeps before now × (world ≡ None)
Answered words bytes before now refusal.ReadFault world = Keeps before now × (world ≡ None)
Answered words bytes before now answer world = (d : Due) × IsDue words bytes world d × Came d before now answer world

-- A run that is kept is one of the program that the text reads as, on the machine with the numbers of the words: each core's end is a local run, what it took from
-- each ring is the first of what was sent there, and the history is that of the merge of their journals. It is legal, and its text, where that is asked for, reads as it.
pub record IsRunOf (o : Options) (p : Program) (world : WorldEnd) : Type 0 where
  pub machine : IsMachineRun (setup_of o) p world
  pub legal : legal p o.cores o.steps world.history ≡ true
  pub stuck : ended_as (setup_of o) p world ≡ stalled → AreStuck (machine_of (setup_of o) p) world.cores
  pub told : o.history ≡ true → ReadsBack p o.cores o.steps world.history (history_text p o.cores o.steps world.history)

pub record IsRunAsked (words : List (String Global)) (bytes : List ℕ) (world : WorldEnd) : Type 0 where
  pub options : Options
  pub asked : asked words ≡ Some options
  pub program : Program
  pub reads : ReadsAs (text_of options bytes) (accepted program)
  pub run : IsRunOf options program world

abbrev pub IsWorldOf : List (String Global) → List ℕ → Option WorldEnd → Type 0
IsWorldOf words bytes None = Unit {0}
IsWorldOf words bytes (Some world) = IsRunAsked words bytes world

-- What `--history` writes of a run is judged by a replay of the same program: it is legal, and complete where the run is.
abbrev pub IsRetold : List (String Global) → List ℕ → Option WorldEnd → Type 0
IsRetold words bytes None = Unit {0}
IsRetold words bytes (Some world) = (o : Options) (p : Program) → asked words ≡ Some o → ReadsAs (text_of o bytes) (accepted p) → o.history ≡ true
    → ReplaysAs (text_of o bytes) (history_text p o.cores o.steps world.history) (judged (verdict.legal (complete p o.cores o.steps world.history)))

-- Neither memory nor the source failed.
abbrev pub IsDelivered : Refusal → Type 0
IsDelivered refusal.Memory = ⊥
IsDelivered refusal.ReadFault = ⊥
IsDelivered _ = Unit {0}

-- The source gave some bytes, and the call answered them.
abbrev pub AnsweredSome : List (String Global) → (held left before now : Option (List ℕ)) → Refusal → Option WorldEnd → Type 0
AnsweredSome words held left before now answer world =
    (bytes : List ℕ) × Consumes held left bytes × Answered words bytes before now answer world × IsWorldOf words bytes world

-- A run was kept whose history is legal and complete for the program of the text, and the sink got its prints, what the shown objects hold in the end, and the
-- history text and the counts where they were asked for.
pub record EndedWell (options : Options) (bytes : List ℕ) (before now : Option (List ℕ)) (found : Option WorldEnd) : Type 0 where
  pub program : Program
  pub reads : ReadsAs (text_of options bytes) (accepted program)
  pub world : WorldEnd
  pub kept : found ≡ Some world
  pub run : IsMachineRun (setup_of options) program world
  pub state : State
  pub last : final program options.cores options.steps world.history ≡ Some state
  pub passed : state.passed ≡ true
  pub written : Appends before now (run_text options program world (ended.complete state.objects))

-- Where the words ask for a run, it ended well.
abbrev pub RanWell : List (String Global) → List ℕ → (before now : Option (List ℕ)) → Option WorldEnd → Type 0
RanWell words bytes before now found = (options : Options) → asked words ≡ Some options → is_run options.command ≡ true → EndedWell options bytes before now found

-- Where the source held these bytes, and neither it (R) nor the sink (W) failed:

-- A check of an accepted text ends with status 0, or for want of memory.
abbrev pub AnswersChecks : List (String Global) → ℕ → (R W : Type 0) → List ℕ → Type 0
AnswersChecks words status R W bytes =
    (options : Options) (program : Program) → length bytes ≤ limit_of options.command → ReadsAs bytes (accepted program) → asked words ≡ Some options
    → options.command ≡ Check → (R → ⊥) → (W → ⊥) → (status ≡ 0) ⊎ (status ≡ 6)

-- The statuses of a run: it ended, a task was trapped, memory was wanting, a clock came to the limit of events, or it stalled.
abbrev pub IsRunStatus : ℕ → Type 0
IsRunStatus status = (status ≡ 0) ⊎ (status ≡ 3) ⊎ (status ≡ 6) ⊎ (status ≡ 7) ⊎ (status ≡ 11)

-- A run of an accepted text ends with one of these.
abbrev pub AnswersRuns : List (String Global) → ℕ → (R W : Type 0) → List ℕ → Type 0
AnswersRuns words status R W bytes =
    (options : Options) (program : Program) → FitsLimit options bytes → ReadsAs (text_of options bytes) (accepted program) → asked words ≡ Some options
    → is_run options.command ≡ true → (R → ⊥) → (W → ⊥) → IsRunStatus status

-- A replay of a legal history ends with status 0, or for want of memory.
abbrev pub AnswersReplays : List (String Global) → ℕ → (R W : Type 0) → List ℕ → Type 0
AnswersReplays words status R W bytes =
    (options : Options) (is_complete : Bool) → length bytes ≤ limit_of options.command → ReplaysAs (program_part bytes) (history_part bytes) (judged (verdict.legal is_complete))
    → asked words ≡ Some options → options.command ≡ Replay → (R → ⊥) → (W → ⊥) → (status ≡ 0) ⊎ (status ≡ 6)

-- A refused text is refused for its first fault, or memory is wanting.
abbrev pub AnswersRefused : List (String Global) → Refusal → (R W : Type 0) → List ℕ → Type 0
AnswersRefused words answer R W bytes =
    (options : Options) (first : Fault) → FitsLimit options bytes → ReadsAs (text_of options bytes) (refused first) → asked words ≡ Some options
    → is_on_text options.command ≡ true → (R → ⊥) → (W → ⊥) → (answer ≡ refusal.Refused first.kind first.at.line first.at.column) ⊎ (answer ≡ refusal.Memory)

-- What each refusal tells of the words and the bytes.

-- The words ask for nothing that the source holds.
abbrev pub IsUnread : Option Options → Type 0
IsUnread None = Unit {0}
IsUnread (Some options) = is_read options.command ≡ false

-- The bytes are more than the command may read.
abbrev pub IsTooLong : List (String Global) → List ℕ → Type 0
IsTooLong words bytes = IfSome (asked words) (λ options. limit_of options.command < length bytes)

-- Why a text is refused: it reads as this fault, or so does the program text of a replay.
pub data Refusing (bytes : List ℕ) : Option Options → Fault → Type 0 where
  of_text : {o : Options} {f : Fault} → is_on_text o.command ≡ true → ReadsAs (text_of o bytes) (refused f) → Refusing bytes (Some o) f
  of_replay : {o : Options} {f : Fault} → is_replay o.command ≡ true → ReadsAs (program_part bytes) (refused f) → Refusing bytes (Some o) f

abbrev pub RefusedWhere : List (String Global) → Refusal → List ℕ → Type 0
RefusedWhere words answer bytes =
    (kind : Kind) (line column : ℕ) → answer ≡ refusal.Refused kind line column → Refusing bytes (asked words) (fault kind (record { line = line; column = column }))

abbrev pub NotLegalWhere : Refusal → List ℕ → Type 0
NotLegalWhere answer bytes = (entry : ℕ) → answer ≡ refusal.NotLegal entry → ReplaysAs (program_part bytes) (history_part bytes) (judged (verdict.not_legal entry))

abbrev pub BadLineWhere : Refusal → List ℕ → Type 0
BadLineWhere answer bytes = (line : ℕ) → answer ≡ refusal.BadLine line → ReplaysAs (program_part bytes) (history_part bytes) (bad_line line)

-- The source had one fault where the refusal says so, and else none.
abbrev pub CountsReads : Refusal → ℕ → ℕ → Type 0
CountsReads refusal.ReadFault before now = now ≡ next_count before
CountsReads _ before now = now ≡ before

-- The sink had one fault where the refusal says so, and else none.
abbrev pub CountsWrites : Refusal → ℕ → ℕ → Type 0
CountsWrites (refusal.WriteFault written) before now = now ≡ next_count before
CountsWrites _ before now = now ≡ before

-- The exit status that goes with a refusal.
abbrev pub status_of : Refusal → ℕ
status_of refusal.Nothing = 0
status_of (refusal.Refused kind line column) = 1
status_of refusal.Usage = 2
status_of (refusal.Trap kind task) = 3
status_of refusal.ReadFault = 4
status_of (refusal.WriteFault written) = 5
status_of refusal.Memory = 6
status_of (refusal.EventLimit core clock) = 7
status_of refusal.TooLong = 8
status_of (refusal.NotLegal entry) = 9
status_of (refusal.BadLine line) = 10
status_of refusal.Stalled = 11
