-- What each part keeps at each stage of an event, so that all of them together are an invariant.
use Rattle.std.specs.Prelude.{ℕ}
use Rattle.gr_lang.specs.States.{State}
use Rattle.gr_machine.specs.Histories.{Sent}
use Rattle.gr_stands.specs.Worlds.{Given, World}
use Rattle.gr_scopes.specs.Trees.{Names, tree_of, NamesGrow}
use Rattle.gr_scopes.specs.Scopes.{ScopesStand}
use Rattle.gr_scopes_steps.specs.Stepping.{GrownStand}
use Rattle.gr_batches.specs.Batches.{BatchesStand}
use Rattle.gr_lines.specs.Waiting.{LinesStand}
use Rattle.gr_lines_turns.specs.Tokens.{TurnsStand}
use Rattle.gr_elements_steps.specs.Behind.{ElementsHold}
use Rattle.gr_elements_lines.specs.Lines.{HasWords}
use Rattle.gr_stands_parts.specs.Stages.{Stage, begins, is_last, IsMade, sent_then, ends_then, words_then}
use Rattle.gr_stands_parts.specs.Parts.{WorkAt, PartsStand, RoomAt}

-- A stage is made where all parts stand.
pub record StageStands (given : Given) (sent : Sent) (before later : World) (state next : State) (me : ℕ) (stage : Stage) : Type 0 where
  pub made : IsMade given sent before later state next me stage
  pub room : RoomAt (begins stage) given before
  pub parts : PartsStand given (begins stage) me sent before state

-- Then scopes stand, with names that have grown.
abbrev pub StagesKeepScopes : Given → Type 0
StagesKeepScopes given =
    (sent : Sent) (before later : World) (state next : State) (me : ℕ) (stage : Stage)
    → (at : StageStands given sent before later state next me stage) → GrownStand given at.parts.names later next

-- With these names work stands, as it must then.
abbrev pub StagesKeepWork : Given → Type 0
StagesKeepWork given =
    (sent : Sent) (before later : World) (state next : State) (me : ℕ) (stage : Stage)
    → (at : StageStands given sent before later state next me stage) (more : Names)
    → NamesGrow at.parts.names more → ScopesStand given more later (tree_of next) → WorkAt given more (is_last stage) me later next

abbrev pub StagesKeepBatches : Given → Type 0
StagesKeepBatches given =
    (sent : Sent) (before later : World) (state next : State) (me : ℕ) (stage : Stage)
    → StageStands given sent before later state next me stage → BatchesStand given (sent_then given sent before me stage) later next

abbrev pub StagesKeepLines : Given → Type 0
StagesKeepLines given =
    (sent : Sent) (before later : World) (state next : State) (me : ℕ) (stage : Stage)
    → StageStands given sent before later state next me stage → LinesStand given later

abbrev pub StagesKeepTurns : Given → Type 0
StagesKeepTurns given =
    (sent : Sent) (before later : World) (state next : State) (me : ℕ) (stage : Stage)
    → (at : StageStands given sent before later state next me stage) → TurnsStand given later (ends_then before me at.parts.ends stage)

abbrev pub StagesKeepElements : Given → Type 0
StagesKeepElements given =
    (sent : Sent) (before later : World) (state next : State) (me : ℕ) (stage : Stage)
    → (at : StageStands given sent before later state next me stage)
    → ElementsHold given later (ends_then before me at.parts.ends stage) (words_then before me at.parts.words stage)

-- The plain state has the words that its vectors had, but behind the end of a turn those that its calls leave.
abbrev pub StagesKeepLists : Given → Type 0
StagesKeepLists given =
    (sent : Sent) (before later : World) (state next : State) (me : ℕ) (stage : Stage)
    → (at : StageStands given sent before later state next me stage) → HasWords given next (words_then before me at.parts.words stage)
