-- Worked rows of a finish that waits for a task at its own core and for one at another.
-- array a[1]; task t(w) { a.add(0, w); } task main() { finish { spawn t(1); spawn at 1 t(2); } let x = a.read(0); print x; }
use Rattle.std.specs.Prelude.{List, [], ◌∷◌, slice_index_or, zero, suc}
use Rattle.gr_lang.specs.declared.action.Action.TheVariants as action
use Rattle.gr_lang.specs.declared.action.Op.TheVariants as op
use Rattle.gr_lang.specs.declared.action.How.TheVariants as how
use Rattle.gr_lang.specs.declared.action.Entry.TheVariants as entry
use Rattle.gr_lang.specs.declared.action.Entry.{Entry}
use Rattle.gr_lang.specs.Objects.{array}
use Rattle.gr_lang.specs.Effects.{nothing, one}
use Rattle.gr_msg.specs.declared.message.Unit.TheVariants as unit
use Rattle.gr_msg.specs.declared.message.Msg.TheVariants as msg
use Rattle.gr_machine.specs.Machines.{Machine}
use Rattle.gr_machine.specs.Outcomes.{marked}
use Rattle.gr_machine.specs.RowWords.{setup_of, objects_of, Script, scripted, machine_with, Line, run, serve, ship, take_from, steal, id, scope, RunsAs, EndsAs, counts_of}

-- The script of each task.
abbrev pub waits_script : Script
waits_script zero args words = action.Call (op.Add 0 0 (slice_index_or args 0 0)) ∷ []
waits_script (suc target) args words =
    action.Finish ∷ action.Spawn how.Here 0 (1 ∷ []) ∷ action.Spawn (how.At 1) 0 (2 ∷ []) ∷ action.Arrive ∷ action.Call (op.Read 0 0)
    ∷ action.Call (op.Print (slice_index_or words 8 0)) ∷ []

abbrev pub waits : Machine
waits = machine_with (setup_of 2 8 1) (scripted waits_script 1 (1 ∷ 0 ∷ []) (objects_of (0 ∷ []) (array 0 1 ∷ [])))

abbrev pub waits_lines : List Line
waits_lines =
    run 0 1 [] (marked (entry.Finish (id 0 0)))
    ∷ run 0 2 [] (marked (entry.Spawn (id 0 0) how.Here 0 (1 ∷ []) (id 0 1)))
    ∷ run 0 3 [] (marked (entry.Spawn (id 0 0) (how.At 1) 0 (2 ∷ []) (id 0 2)))
    ∷ ship 0 4 1 (msg.Spawn (unit.Single 0 (2 ∷ []) (scope 0 1) 0 (id 0 2)) ∷ [])
    ∷ run 0 5 [] []
    ∷ run 0 6 (1 ∷ []) []
    ∷ run 0 7 [] []
    ∷ serve 0 8 (msg.Request 1 (id 0 1) 3 0 1 0) (marked (entry.Call (id 0 1) (op.Add 0 0 1) (one 0)))
    ∷ serve 0 9 (msg.Reply 1 (id 0 1) 0 0) []
    ∷ run 0 10 [] (marked (entry.End (id 0 1)))
    ∷ serve 0 11 (msg.Complete (scope 0 1) 1) []
    ∷ steal 0 12 1
    ∷ ship 0 13 1 (msg.StealAsk ∷ [])
    ∷ take_from 1 5 0
    ∷ serve 1 6 (msg.Spawn (unit.Single 0 (2 ∷ []) (scope 0 1) 0 (id 0 2))) []
    ∷ take_from 1 14 0
    ∷ serve 1 15 (msg.StealAsk) []
    ∷ run 1 16 (0 ∷ []) []
    ∷ run 1 17 [] []
    ∷ ship 1 18 0 (msg.Request 0 (id 0 2) 3 0 2 0 ∷ [])
    ∷ steal 1 19 0
    ∷ ship 1 20 0 (msg.StealAsk ∷ [])
    ∷ take_from 0 19 1
    ∷ serve 0 20 (msg.Request 0 (id 0 2) 3 0 2 0) (marked (entry.Call (id 0 2) (op.Add 0 0 2) (one 1)))
    ∷ ship 0 21 1 (msg.Reply 0 (id 0 2) 1 0 ∷ [])
    ∷ take_from 0 22 1
    ∷ serve 0 23 (msg.StealAsk) []
    ∷ take_from 1 22 0
    ∷ serve 1 23 (msg.Reply 0 (id 0 2) 1 0) []
    ∷ run 1 24 [] (marked (entry.End (id 0 2)))
    ∷ ship 1 25 0 (msg.Complete (scope 0 1) 1 ∷ [])
    ∷ take_from 0 26 1
    ∷ serve 0 27 (msg.Complete (scope 0 1) 1) []
    ∷ serve 0 28 (msg.Leave (scope 0 1)) (marked (entry.Pass (id 0 0)))
    ∷ run 0 29 [] []
    ∷ serve 0 30 (msg.Request 0 (id 0 0) 1 0 0 0) (marked (entry.Call (id 0 0) (op.Read 0 0) (one 3)))
    ∷ serve 0 31 (msg.Reply 0 (id 0 0) 3 0) []
    ∷ run 0 32 [] []
    ∷ serve 0 33 (msg.Request 0 (id 0 0) 7 3 0 0) (marked (entry.Call (id 0 0) (op.Print 3) nothing))
    ∷ serve 0 34 (msg.Reply 0 (id 0 0) 0 0) []
    ∷ run 0 35 [] (marked (entry.End (id 0 0)))
    ∷ serve 0 36 (msg.Complete (scope 0 0) 1) []
    ∷ serve 0 37 (msg.Leave (scope 0 0)) (marked (entry.Over))
    ∷ []

abbrev pub waits_history : List Entry
waits_history =
    entry.Finish (id 0 0)
    ∷ entry.Spawn (id 0 0) how.Here 0 (1 ∷ []) (id 0 1)
    ∷ entry.Spawn (id 0 0) (how.At 1) 0 (2 ∷ []) (id 0 2)
    ∷ entry.Call (id 0 1) (op.Add 0 0 1) (one 0)
    ∷ entry.End (id 0 1)
    ∷ entry.Call (id 0 2) (op.Add 0 0 2) (one 1)
    ∷ entry.End (id 0 2)
    ∷ entry.Pass (id 0 0)
    ∷ entry.Call (id 0 0) (op.Read 0 0) (one 3)
    ∷ entry.Call (id 0 0) (op.Print 3) nothing
    ∷ entry.End (id 0 0)
    ∷ entry.Over
    ∷ []

-- Main passes in the very event in which core 0, the only one that counts tasks of the finish, leaves it.
abbrev pub WaitsRun : Type 0
WaitsRun = RunsAs waits waits_lines waits_history

-- Each core by itself, and what it has done in numbers.
pub record WaitsEnds : Type 0 where
  pub core0 : EndsAs waits 0 waits_lines (counts_of 3 3 3 0 0 1 0)
  pub core1 : EndsAs waits 1 waits_lines (counts_of 1 3 3 0 0 1 0)
