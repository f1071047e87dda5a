-- Worked rows of reduces of one word, of which not all fold.
-- array a[2]; task one() { a.reduce add (1, 5); } task two() { a.reduce max (1, 9); } task main() { finish { spawn one(); spawn one(); spawn two(); spawn one(); } }
use Rattle.std.specs.Prelude.{List, [], ◌∷◌, Some, zero, suc}
use Rattle.gr_lang.specs.declared.action.Action.TheVariants as action
use Rattle.gr_lang.specs.declared.action.Op.TheVariants as op
use Rattle.gr_lang.specs.declared.action.How.TheVariants as how
use Rattle.gr_lang.specs.declared.action.Entry.TheVariants as entry
use Rattle.gr_lang.specs.declared.action.Effect.TheVariants as effect
use Rattle.gr_lang.specs.declared.action.Entry.{Entry}
use Rattle.gr_lang.specs.declared.action.WaitingCall.{WaitingCall}
use Rattle.gr_lang.specs.Objects.{array}
use Rattle.gr_lang.specs.Effects.{one}
use Rattle.gr_msg.specs.declared.message.Msg.TheVariants as msg
use Rattle.gr_machine.specs.declared.mark.Mark.TheVariants as mark
use Rattle.gr_machine.specs.Machines.{Machine}
use Rattle.gr_machine.specs.Outcomes.{marked}
use Rattle.gr_machine.specs.RowWords.{setup_of, objects_of, Script, scripted, machine_with, Line, run, serve, ship, take_from, close, steal, id, scope, RunsAs, EndsAs, counts_of}

-- The script of each task.
abbrev pub reduced_script : Script
reduced_script zero args words = action.Call (op.Reduce 0 0 1 5) ∷ []
reduced_script (suc zero) args words = action.Call (op.Reduce 0 2 1 9) ∷ []
reduced_script (suc (suc target)) args words =
    action.Finish ∷ action.Spawn how.Here 0 [] ∷ action.Spawn how.Here 0 [] ∷ action.Spawn how.Here 1 [] ∷ action.Spawn how.Here 0 [] ∷ action.Arrive ∷ []

abbrev pub reduced : Machine
reduced = machine_with (setup_of 2 1 32) (scripted reduced_script 2 (0 ∷ 0 ∷ 0 ∷ []) (objects_of (0 ∷ 0 ∷ []) (array 0 2 ∷ [])))

-- The calls of batch 0.
abbrev pub closed_0 : List WaitingCall
closed_0 =
    record { slot = 1; id = id 0 1; op = op.Reduce 0 0 1 5 }
    ∷ record { slot = 2; id = id 0 2; op = op.Reduce 0 0 1 5 }
    ∷ []

-- The calls of batch 1.
abbrev pub closed_1 : List WaitingCall
closed_1 =
    record { slot = 3; id = id 0 3; op = op.Reduce 0 2 1 9 }
    ∷ []

-- The calls of batch 2.
abbrev pub closed_2 : List WaitingCall
closed_2 =
    record { slot = 4; id = id 0 4; op = op.Reduce 0 0 1 5 }
    ∷ []

abbrev pub reduced_lines : List Line
reduced_lines =
    run 0 1 [] (marked (entry.Finish (id 0 0)))
    ∷ run 0 2 [] (marked (entry.Spawn (id 0 0) how.Here 0 [] (id 0 1)))
    ∷ run 0 3 [] (marked (entry.Spawn (id 0 0) how.Here 0 [] (id 0 2)))
    ∷ run 0 4 [] (marked (entry.Spawn (id 0 0) how.Here 1 [] (id 0 3)))
    ∷ run 0 5 [] (marked (entry.Spawn (id 0 0) how.Here 0 [] (id 0 4)))
    ∷ run 0 6 [] []
    ∷ run 0 7 (1 ∷ []) []
    ∷ run 0 8 [] []
    ∷ run 0 9 (2 ∷ []) []
    ∷ run 0 10 [] []
    ∷ run 0 11 (3 ∷ []) []
    ∷ run 0 12 [] []
    ∷ run 0 13 (4 ∷ []) []
    ∷ run 0 14 [] []
    ∷ close 0 15 0 (mark.Closed 0 closed_0 ∷ [])
    ∷ close 0 16 0 (mark.Closed 1 closed_1 ∷ [])
    ∷ close 0 17 0 (mark.Closed 2 closed_2 ∷ [])
    ∷ ship 0 18 1 (msg.Batch 0 1 (effect.Fold 0 10) 0 ∷ msg.Batch 0 1 (effect.Fold 2 9) 1 ∷ msg.Batch 0 1 (effect.Fold 0 5) 2 ∷ [])
    ∷ steal 0 19 1
    ∷ take_from 1 19 0
    ∷ ship 0 20 1 (msg.StealAsk ∷ [])
    ∷ serve 1 20 (msg.Batch 0 1 (effect.Fold 0 10) 0) (mark.Applied 0 0 (Some 0) ∷ [])
    ∷ serve 1 21 (msg.Batch 0 1 (effect.Fold 2 9) 1) (mark.Applied 0 1 (Some 10) ∷ [])
    ∷ serve 1 22 (msg.Batch 0 1 (effect.Fold 0 5) 2) (mark.Applied 0 2 (Some 10) ∷ [])
    ∷ take_from 1 23 0
    ∷ serve 1 24 (msg.StealAsk) []
    ∷ ship 1 25 0 (msg.BatchReply 0 (Some 0) ∷ msg.BatchReply 1 (Some 10) ∷ msg.BatchReply 2 (Some 10) ∷ [])
    ∷ take_from 0 26 1
    ∷ steal 1 26 0
    ∷ serve 0 27 (msg.BatchReply 0 (Some 0)) []
    ∷ ship 1 27 0 (msg.StealAsk ∷ [])
    ∷ serve 0 28 (msg.BatchReply 1 (Some 10)) []
    ∷ serve 0 29 (msg.BatchReply 2 (Some 10)) []
    ∷ take_from 0 30 1
    ∷ serve 0 31 (msg.StealAsk) []
    ∷ run 0 32 [] (marked (entry.End (id 0 1)))
    ∷ serve 0 33 (msg.Complete (scope 0 1) 1) []
    ∷ run 0 34 [] (marked (entry.End (id 0 2)))
    ∷ serve 0 35 (msg.Complete (scope 0 1) 1) []
    ∷ run 0 36 [] (marked (entry.End (id 0 3)))
    ∷ serve 0 37 (msg.Complete (scope 0 1) 1) []
    ∷ run 0 38 [] (marked (entry.End (id 0 4)))
    ∷ serve 0 39 (msg.Complete (scope 0 1) 1) []
    ∷ serve 0 40 (msg.Leave (scope 0 1)) (marked (entry.Pass (id 0 0)))
    ∷ run 0 41 [] (marked (entry.End (id 0 0)))
    ∷ serve 0 42 (msg.Complete (scope 0 0) 1) []
    ∷ serve 0 43 (msg.Leave (scope 0 0)) (marked (entry.Over))
    ∷ []

abbrev pub reduced_history : List Entry
reduced_history =
    entry.Finish (id 0 0)
    ∷ entry.Spawn (id 0 0) how.Here 0 [] (id 0 1)
    ∷ entry.Spawn (id 0 0) how.Here 0 [] (id 0 2)
    ∷ entry.Spawn (id 0 0) how.Here 1 [] (id 0 3)
    ∷ entry.Spawn (id 0 0) how.Here 0 [] (id 0 4)
    ∷ entry.Call (id 0 1) (op.Reduce 0 0 1 5) (one 0)
    ∷ entry.Call (id 0 2) (op.Reduce 0 0 1 5) (one 5)
    ∷ entry.Call (id 0 3) (op.Reduce 0 2 1 9) (one 10)
    ∷ entry.Call (id 0 4) (op.Reduce 0 0 1 5) (one 10)
    ∷ entry.End (id 0 1)
    ∷ entry.End (id 0 2)
    ∷ entry.End (id 0 3)
    ∷ entry.End (id 0 4)
    ∷ entry.Pass (id 0 0)
    ∷ entry.End (id 0 0)
    ∷ entry.Over
    ∷ []

-- The third reduce does not fold with the first two, so it and the fourth behind it stay for later batches.
abbrev pub ReducedRun : Type 0
ReducedRun = RunsAs reduced reduced_lines reduced_history

-- Each core by itself, and what it has done in numbers.
pub record ReducedEnds : Type 0 where
  pub core0 : EndsAs reduced 0 reduced_lines (counts_of 4 4 2 2 3 1 0)
  pub core1 : EndsAs reduced 1 reduced_lines (counts_of 0 4 2 2 0 1 0)
