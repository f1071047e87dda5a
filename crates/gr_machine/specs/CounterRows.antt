-- Worked rows of a run on one core: nine events.
-- array a[1]; task main() { let x = a.add(0, 5); print x; }
use Rattle.std.specs.Prelude.{List, [], ◌∷◌, slice_index_or}
use Rattle.gr_lang.specs.declared.action.Action.TheVariants as action
use Rattle.gr_lang.specs.declared.action.Op.TheVariants as op
use Rattle.gr_lang.specs.declared.action.Entry.TheVariants as entry
use Rattle.gr_lang.specs.declared.action.Entry.{Entry}
use Rattle.gr_lang.specs.Objects.{array}
use Rattle.gr_lang.specs.Effects.{nothing, one}
use Rattle.gr_msg.specs.declared.message.Msg.TheVariants as msg
use Rattle.gr_machine.specs.Machines.{Machine}
use Rattle.gr_machine.specs.Outcomes.{marked}
use Rattle.gr_machine.specs.RowWords.{setup_of, objects_of, Script, scripted, machine_with, Line, run, serve, id, scope, RunsAs, EndsAs, counts_of}

-- The script of each task.
abbrev pub counter_script : Script
counter_script target args words = action.Call (op.Add 0 0 5) ∷ action.Call (op.Print (slice_index_or words 0 0)) ∷ []

abbrev pub counter : Machine
counter = machine_with (setup_of 1 8 32) (scripted counter_script 0 (0 ∷ []) (objects_of (0 ∷ []) (array 0 1 ∷ [])))

abbrev pub counter_lines : List Line
counter_lines =
    run 0 1 [] []
    ∷ serve 0 2 (msg.Request 0 (id 0 0) 3 0 5 0) (marked (entry.Call (id 0 0) (op.Add 0 0 5) (one 0)))
    ∷ serve 0 3 (msg.Reply 0 (id 0 0) 0 0) []
    ∷ run 0 4 [] []
    ∷ serve 0 5 (msg.Request 0 (id 0 0) 7 0 0 0) (marked (entry.Call (id 0 0) (op.Print 0) nothing))
    ∷ serve 0 6 (msg.Reply 0 (id 0 0) 0 0) []
    ∷ run 0 7 [] (marked (entry.End (id 0 0)))
    ∷ serve 0 8 (msg.Complete (scope 0 0) 1) []
    ∷ serve 0 9 (msg.Leave (scope 0 0)) (marked (entry.Over))
    ∷ []

abbrev pub counter_history : List Entry
counter_history =
    entry.Call (id 0 0) (op.Add 0 0 5) (one 0)
    ∷ entry.Call (id 0 0) (op.Print 0) nothing
    ∷ entry.End (id 0 0)
    ∷ entry.Over
    ∷ []

-- The add is asked of core 0 by core 0 itself, served and replied, and so is the print; then main ends, is counted, and its core leaves the root scope.
abbrev pub CounterRun : Type 0
CounterRun = RunsAs counter counter_lines counter_history

-- Each core by itself, and what it has done in numbers.
pub record CounterEnds : Type 0 where
  pub core0 : EndsAs counter 0 counter_lines (counts_of 2 0 0 0 0 0 0)
