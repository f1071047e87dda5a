-- Worked rows of a finish in a finish.
-- task t() { } task main() { finish { finish { spawn t(); } spawn t(); } }
use Rattle.std.specs.Prelude.{List, [], ◌∷◌, zero, suc}
use Rattle.gr_lang.specs.declared.action.Action.TheVariants as action
use Rattle.gr_lang.specs.declared.action.How.TheVariants as how
use Rattle.gr_lang.specs.declared.action.Entry.TheVariants as entry
use Rattle.gr_lang.specs.declared.action.Entry.{Entry}
use Rattle.gr_msg.specs.declared.message.Msg.TheVariants as msg
use Rattle.gr_machine.specs.Machines.{Machine}
use Rattle.gr_machine.specs.Outcomes.{marked}
use Rattle.gr_machine.specs.RowWords.{setup_of, objects_of, Script, scripted, machine_with, Line, run, serve, id, scope, RunsAs, EndsAs, counts_of}

-- The script of each task.
abbrev pub nested_script : Script
nested_script (suc target) args words =
    action.Finish ∷ action.Finish ∷ action.Spawn how.Here 0 [] ∷ action.Arrive ∷ action.Spawn how.Here 0 [] ∷ action.Arrive ∷ []
nested_script zero args words = []

abbrev pub nested : Machine
nested = machine_with (setup_of 1 8 32) (scripted nested_script 1 (0 ∷ 0 ∷ []) (objects_of [] []))

abbrev pub nested_lines : List Line
nested_lines =
    run 0 1 [] (marked (entry.Finish (id 0 0)))
    ∷ run 0 2 [] (marked (entry.Finish (id 0 0)))
    ∷ run 0 3 [] (marked (entry.Spawn (id 0 0) how.Here 0 [] (id 0 1)))
    ∷ run 0 4 [] []
    ∷ run 0 5 (1 ∷ []) []
    ∷ run 0 6 [] (marked (entry.End (id 0 1)))
    ∷ serve 0 7 (msg.Complete (scope 0 2) 1) []
    ∷ serve 0 8 (msg.Leave (scope 0 2)) (marked (entry.Pass (id 0 0)))
    ∷ run 0 9 [] (marked (entry.Spawn (id 0 0) how.Here 0 [] (id 0 2)))
    ∷ run 0 10 [] []
    ∷ run 0 11 (1 ∷ []) []
    ∷ run 0 12 [] (marked (entry.End (id 0 2)))
    ∷ serve 0 13 (msg.Complete (scope 0 1) 1) []
    ∷ serve 0 14 (msg.Leave (scope 0 1)) (marked (entry.Pass (id 0 0)))
    ∷ run 0 15 [] (marked (entry.End (id 0 0)))
    ∷ serve 0 16 (msg.Complete (scope 0 0) 1) []
    ∷ serve 0 17 (msg.Leave (scope 0 0)) (marked (entry.Over))
    ∷ []

abbrev pub nested_history : List Entry
nested_history =
    entry.Finish (id 0 0)
    ∷ entry.Finish (id 0 0)
    ∷ entry.Spawn (id 0 0) how.Here 0 [] (id 0 1)
    ∷ entry.End (id 0 1)
    ∷ entry.Pass (id 0 0)
    ∷ entry.Spawn (id 0 0) how.Here 0 [] (id 0 2)
    ∷ entry.End (id 0 2)
    ∷ entry.Pass (id 0 0)
    ∷ entry.End (id 0 0)
    ∷ entry.Over
    ∷ []

-- A new task stands under the innermost finish that its maker has opened and not passed.
abbrev pub NestedRun : Type 0
NestedRun = RunsAs nested nested_lines nested_history

-- Each core by itself, and what it has done in numbers.
pub record NestedEnds : Type 0 where
  pub core0 : EndsAs nested 0 nested_lines (counts_of 0 0 0 0 0 0 0)
