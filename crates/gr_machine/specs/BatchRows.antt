-- Worked rows of three inserts of one key, which go off as one batch.
-- set s; task t() { let n = s.insert(9); print n; } task main() { finish { spawn t(); spawn t(); spawn t(); } }
use Rattle.std.specs.Prelude.{List, [], ◌∷◌, slice_index_or, None, zero, suc}
use Rattle.std.specs.FinSet as set
use Rattle.gr_lang.specs.declared.action.Action.TheVariants as action
use Rattle.gr_lang.specs.declared.action.Op.TheVariants as op
use Rattle.gr_lang.specs.declared.action.How.TheVariants as how
use Rattle.gr_lang.specs.declared.action.Entry.TheVariants as entry
use Rattle.gr_lang.specs.declared.action.Effect.TheVariants as effect
use Rattle.gr_lang.specs.declared.action.Entry.{Entry}
use Rattle.gr_lang.specs.declared.action.WaitingCall.{WaitingCall}
use Rattle.gr_lang.specs.Objects.{keys}
use Rattle.gr_lang.specs.Effects.{nothing, one}
use Rattle.gr_msg.specs.declared.message.Msg.TheVariants as msg
use Rattle.gr_machine.specs.declared.mark.Mark.TheVariants as mark
use Rattle.gr_machine.specs.Machines.{Machine}
use Rattle.gr_machine.specs.Outcomes.{marked}
use Rattle.gr_machine.specs.RowWords.{setup_of, objects_of, Script, scripted, machine_with, Line, run, serve, close, id, scope, RunsAs, EndsAs, counts_of}

-- The script of each task.
abbrev pub batch_script : Script
batch_script zero args words = action.Call (op.Insert 0 9) ∷ action.Call (op.Print (slice_index_or words 0 0)) ∷ []
batch_script (suc target) args words =
    action.Finish ∷ action.Spawn how.Here 0 [] ∷ action.Spawn how.Here 0 [] ∷ action.Spawn how.Here 0 [] ∷ action.Arrive ∷ []

abbrev pub batch : Machine
batch = machine_with (setup_of 1 8 32) (scripted batch_script 1 (0 ∷ 0 ∷ []) (objects_of [] (keys set.empty ∷ [])))

-- The calls of batch 0.
abbrev pub closed_0 : List WaitingCall
closed_0 =
    record { slot = 1; id = id 0 1; op = op.Insert 0 9 }
    ∷ record { slot = 2; id = id 0 2; op = op.Insert 0 9 }
    ∷ record { slot = 3; id = id 0 3; op = op.Insert 0 9 }
    ∷ []

abbrev pub batch_lines : List Line
batch_lines =
    run 0 1 [] (marked (entry.Finish (id 0 0)))
    ∷ run 0 2 [] (marked (entry.Spawn (id 0 0) how.Here 0 [] (id 0 1)))
    ∷ run 0 3 [] (marked (entry.Spawn (id 0 0) how.Here 0 [] (id 0 2)))
    ∷ run 0 4 [] (marked (entry.Spawn (id 0 0) how.Here 0 [] (id 0 3)))
    ∷ run 0 5 [] []
    ∷ run 0 6 (1 ∷ []) []
    ∷ run 0 7 [] []
    ∷ run 0 8 (2 ∷ []) []
    ∷ run 0 9 [] []
    ∷ run 0 10 (3 ∷ []) []
    ∷ run 0 11 [] []
    ∷ close 0 12 0 (mark.Closed 0 closed_0 ∷ [])
    ∷ serve 0 13 (msg.Batch 0 9 (effect.Present 0) 0) (mark.Applied 0 0 None ∷ [])
    ∷ serve 0 14 (msg.BatchReply 0 None) []
    ∷ run 0 15 [] []
    ∷ serve 0 16 (msg.Request 1 (id 0 1) 7 1 0 0) (marked (entry.Call (id 0 1) (op.Print 1) nothing))
    ∷ serve 0 17 (msg.Reply 1 (id 0 1) 0 0) []
    ∷ run 0 18 [] []
    ∷ serve 0 19 (msg.Request 2 (id 0 2) 7 0 0 0) (marked (entry.Call (id 0 2) (op.Print 0) nothing))
    ∷ serve 0 20 (msg.Reply 2 (id 0 2) 0 0) []
    ∷ run 0 21 [] []
    ∷ serve 0 22 (msg.Request 3 (id 0 3) 7 0 0 0) (marked (entry.Call (id 0 3) (op.Print 0) nothing))
    ∷ serve 0 23 (msg.Reply 3 (id 0 3) 0 0) []
    ∷ run 0 24 [] (marked (entry.End (id 0 1)))
    ∷ serve 0 25 (msg.Complete (scope 0 1) 1) []
    ∷ run 0 26 [] (marked (entry.End (id 0 2)))
    ∷ serve 0 27 (msg.Complete (scope 0 1) 1) []
    ∷ run 0 28 [] (marked (entry.End (id 0 3)))
    ∷ serve 0 29 (msg.Complete (scope 0 1) 1) []
    ∷ serve 0 30 (msg.Leave (scope 0 1)) (marked (entry.Pass (id 0 0)))
    ∷ run 0 31 [] (marked (entry.End (id 0 0)))
    ∷ serve 0 32 (msg.Complete (scope 0 0) 1) []
    ∷ serve 0 33 (msg.Leave (scope 0 0)) (marked (entry.Over))
    ∷ []

abbrev pub batch_history : List Entry
batch_history =
    entry.Finish (id 0 0)
    ∷ entry.Spawn (id 0 0) how.Here 0 [] (id 0 1)
    ∷ entry.Spawn (id 0 0) how.Here 0 [] (id 0 2)
    ∷ entry.Spawn (id 0 0) how.Here 0 [] (id 0 3)
    ∷ entry.Call (id 0 1) (op.Insert 0 9) (one 1)
    ∷ entry.Call (id 0 2) (op.Insert 0 9) (one 0)
    ∷ entry.Call (id 0 3) (op.Insert 0 9) (one 0)
    ∷ entry.Call (id 0 1) (op.Print 1) nothing
    ∷ entry.Call (id 0 2) (op.Print 0) nothing
    ∷ entry.Call (id 0 3) (op.Print 0) nothing
    ∷ entry.End (id 0 1)
    ∷ entry.End (id 0 2)
    ∷ entry.End (id 0 3)
    ∷ entry.Pass (id 0 0)
    ∷ entry.End (id 0 0)
    ∷ entry.Over
    ∷ []

-- The first insert is new and the others are not, though the home sees one effect alone.
abbrev pub BatchRun : Type 0
BatchRun = RunsAs batch batch_lines batch_history

-- Each core by itself, and what it has done in numbers.
pub record BatchEnds : Type 0 where
  pub core0 : EndsAs batch 0 batch_lines (counts_of 6 0 0 0 1 0 0)
