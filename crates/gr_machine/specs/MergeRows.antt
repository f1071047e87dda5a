-- Worked rows of the merge of two journals.
use Rattle.std.specs.Prelude.{◌≡◌, ℕ, List, [], ◌∷◌, map, Some}
use Rattle.gr_lang.specs.declared.action.Op.TheVariants as op
use Rattle.gr_lang.specs.declared.action.Entry.{Entry}
use Rattle.gr_lang.specs.declared.action.Entry.TheVariants as entry
use Rattle.gr_lang.specs.Effects.{one}
use Rattle.gr_merge.specs.Merges.{merge}
use Rattle.gr_machine.specs.GlobalRuns.{Step}
use Rattle.gr_machine.specs.Histories.{history}
use Rattle.gr_machine.specs.RowWords.{Line, id, journal_in}
use Rattle.gr_machine.specs.RemoteRows.{remote, remote_lines, remote_history}
use Rattle.gr_machine.specs.WaitRows.{waits, waits_lines, waits_history}
use Rattle.gr_machine.specs.LoopRows.{looped, looped_lines}
use Rattle.gr_machine.specs.TurnRows.{turn, turn_lines, turn_history}
use Rattle.gr_machine.specs.declared.journal.Stamped.{Stamped}

-- The journals of both cores.
abbrev pub journals_in : List Line → List (List Stamped)
journals_in lines = journal_in 0 lines ∷ journal_in 1 lines ∷ []

-- Their merge.
abbrev pub merged : List Line → List Step
merged lines = merge (λ entry. entry.clock) (journals_in lines)

-- The core and the clock of each event.
abbrev pub places : List Step → List (ℕ × ℕ)
places = map (λ step. (step.0, step.1.clock))

-- By clock, and of equal clocks core 0 first.
abbrev pub RemoteMerge : Type 0
RemoteMerge = places (merged remote_lines) ≡
    (0, 1) ∷ (0, 2) ∷ (0, 3) ∷ (1, 3) ∷ (0, 4) ∷ (1, 4) ∷ (1, 5) ∷ (0, 6) ∷ (1, 6) ∷ (0, 7) ∷ (1, 7) ∷ (1, 8) ∷ (1, 9)
    ∷ (0, 10) ∷ (0, 11) ∷ (0, 12) ∷ (0, 13) ∷ (0, 14) ∷ (0, 15) ∷ (0, 16) ∷ (0, 17) ∷ []

-- The loop's merge has the end of 1.0, at clock 23 of core 1, behind the add of 1.1, at clock 22 of core 0; the run came to them in the other order.
abbrev pub looped_merged : List Entry
looped_merged =
    entry.Loop (id 0 0) 0 4 1 0 []
    ∷ entry.Begin (id 0 0) 0 (id 0 1)
    ∷ entry.Call (id 0 1) (op.Add 0 0 0) (one 0)
    ∷ entry.End (id 0 1)
    ∷ entry.Begin (id 0 0) 1 (id 0 2)
    ∷ entry.Begin (id 0 0) 2 (id 1 0)
    ∷ entry.Call (id 0 2) (op.Add 0 0 1) (one 0)
    ∷ entry.End (id 0 2)
    ∷ entry.Begin (id 0 0) 3 (id 1 1)
    ∷ entry.Call (id 1 0) (op.Add 0 0 2) (one 1)
    ∷ entry.Call (id 1 1) (op.Add 0 0 3) (one 3)
    ∷ entry.End (id 1 0)
    ∷ entry.End (id 1 1)
    ∷ entry.Pass (id 0 0)
    ∷ entry.End (id 0 0)
    ∷ entry.Over
    ∷ []

-- The merge of each run is a global run too, and tells this history.
pub record MergesRun : Type 0 where
  pub remote : history remote 0 (merged remote_lines) ≡ Some remote_history
  pub waits : history waits 0 (merged waits_lines) ≡ Some waits_history
  pub looped : history looped 0 (merged looped_lines) ≡ Some looped_merged
  pub turn : history turn 0 (merged turn_lines) ≡ Some turn_history
