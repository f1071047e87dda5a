-- Worked rows of two tasks that wait until their core may count under their scope.
-- task k() { } task t() { spawn k(); } task main() { finish { spawn at 1 t(); spawn at 1 t(); } }
use Rattle.std.specs.Option.{option_map}
use Rattle.std.specs.Prelude.{◌≡◌, ℕ, Option, Some, take, List, [], ◌∷◌, ◌++◌, zero, suc}
use Rattle.gr_lang.specs.declared.action.Action.TheVariants as action
use Rattle.gr_lang.specs.declared.action.How.TheVariants as how
use Rattle.gr_lang.specs.declared.action.Entry.TheVariants as entry
use Rattle.gr_lang.specs.declared.action.Entry.{Entry}
use Rattle.gr_msg.specs.declared.message.Unit.TheVariants as unit
use Rattle.gr_msg.specs.declared.message.Msg.TheVariants as msg
use Rattle.gr_event.specs.declared.counts.LocalCount.TheVariants as count
use Rattle.gr_event.specs.declared.masters.Waiter.TheVariants as waiter
use Rattle.gr_machine.specs.Machines.{Machine}
use Rattle.gr_machine.specs.States.{Scopes}
use Rattle.gr_machine.specs.GlobalRuns.{global_run}
use Rattle.gr_machine.specs.Outcomes.{marked}
use Rattle.gr_machine.specs.RowWords.{steps_in, setup_of, objects_of, Script, scripted, machine_with, Line, run, serve, ship, take_from, steal, id, scope, RunsAs, EndsAs, counts_of}

-- The script of each task.
abbrev pub enrolled_script : Script
enrolled_script (suc zero) args words = action.Spawn how.Here 0 [] ∷ []
enrolled_script (suc (suc target)) args words = action.Finish ∷ action.Spawn (how.At 1) 1 [] ∷ action.Spawn (how.At 1) 1 [] ∷ action.Arrive ∷ []
enrolled_script zero args words = []

abbrev pub enrolled : Machine
enrolled = machine_with (setup_of 2 8 32) (scripted enrolled_script 2 (0 ∷ 0 ∷ 0 ∷ []) (objects_of [] []))

abbrev pub enrolled_lines : List Line
enrolled_lines =
    run 0 1 [] (marked (entry.Finish (id 0 0)))
    ∷ run 0 2 [] (marked (entry.Spawn (id 0 0) (how.At 1) 1 [] (id 0 1)))
    ∷ run 0 3 [] (marked (entry.Spawn (id 0 0) (how.At 1) 1 [] (id 0 2)))
    ∷ run 0 4 [] []
    ∷ ship 0 5 1 (msg.Spawn (unit.Single 1 [] (scope 0 1) 0 (id 0 1)) ∷ msg.Spawn (unit.Single 1 [] (scope 0 1) 0 (id 0 2)) ∷ [])
    ∷ steal 0 6 1
    ∷ take_from 1 6 0
    ∷ ship 0 7 1 (msg.StealAsk ∷ [])
    ∷ serve 1 7 (msg.Spawn (unit.Single 1 [] (scope 0 1) 0 (id 0 1))) []
    ∷ serve 1 8 (msg.Spawn (unit.Single 1 [] (scope 0 1) 0 (id 0 2))) []
    ∷ take_from 1 9 0
    ∷ serve 1 10 (msg.StealAsk) []
    ∷ run 1 11 (0 ∷ []) []
    ∷ run 1 12 [] []
    ∷ run 1 13 (1 ∷ []) []
    ∷ run 1 14 [] []
    ∷ ship 1 15 0 (msg.Enrol (scope 0 1) ∷ [])
    ∷ take_from 0 16 1
    ∷ steal 1 16 0
    ∷ serve 0 17 (msg.Enrol (scope 0 1)) []
    ∷ ship 1 17 0 (msg.StealAsk ∷ [])
    ∷ take_from 0 18 1
    ∷ serve 0 19 (msg.StealAsk) []
    ∷ ship 0 20 1 (msg.EnrolAck (scope 0 1) ∷ [])
    ∷ take_from 1 21 0
    ∷ serve 1 22 (msg.EnrolAck (scope 0 1)) (marked (entry.Spawn (id 0 1) how.Here 0 [] (id 1 0)) ++ marked (entry.Spawn (id 0 2) how.Here 0 [] (id 1 1)))
    ∷ run 1 23 [] (marked (entry.End (id 0 1)))
    ∷ run 1 24 [] (marked (entry.End (id 0 2)))
    ∷ run 1 25 (0 ∷ []) []
    ∷ run 1 26 [] (marked (entry.End (id 1 0)))
    ∷ serve 1 27 (msg.Complete (scope 0 1) 1) []
    ∷ run 1 28 (0 ∷ []) []
    ∷ run 1 29 [] (marked (entry.End (id 1 1)))
    ∷ serve 1 30 (msg.Complete (scope 0 1) 1) []
    ∷ ship 1 31 0 (msg.Complete (scope 0 1) 2 ∷ msg.Leave (scope 0 1) ∷ [])
    ∷ take_from 0 32 1
    ∷ serve 0 33 (msg.Complete (scope 0 1) 2) []
    ∷ serve 0 34 (msg.Leave (scope 0 1)) []
    ∷ serve 0 35 (msg.Leave (scope 0 1)) (marked (entry.Pass (id 0 0)))
    ∷ run 0 36 [] (marked (entry.End (id 0 0)))
    ∷ serve 0 37 (msg.Complete (scope 0 0) 1) []
    ∷ serve 0 38 (msg.Leave (scope 0 0)) (marked (entry.Over))
    ∷ []

abbrev pub enrolled_history : List Entry
enrolled_history =
    entry.Finish (id 0 0)
    ∷ entry.Spawn (id 0 0) (how.At 1) 1 [] (id 0 1)
    ∷ entry.Spawn (id 0 0) (how.At 1) 1 [] (id 0 2)
    ∷ entry.Spawn (id 0 1) how.Here 0 [] (id 1 0)
    ∷ entry.Spawn (id 0 2) how.Here 0 [] (id 1 1)
    ∷ entry.End (id 0 1)
    ∷ entry.End (id 0 2)
    ∷ entry.End (id 1 0)
    ∷ entry.End (id 1 1)
    ∷ entry.Pass (id 0 0)
    ∷ entry.End (id 0 0)
    ∷ entry.Over
    ∷ []

-- One question and one answer serve both tasks. The two Completes to core 0 become one in the buffer, and main passes when both cores have left.
abbrev pub EnrolledRun : Type 0
EnrolledRun = RunsAs enrolled enrolled_lines enrolled_history

-- Each core by itself, and what it has done in numbers.
pub record EnrolledEnds : Type 0 where
  pub core0 : EndsAs enrolled 0 enrolled_lines (counts_of 0 4 3 3 0 1 0)
  pub core1 : EndsAs enrolled 1 enrolled_lines (counts_of 0 4 3 3 0 1 0)

-- Behind the answer to its question core 1 counts both new tasks, and both cores are active at the master, where main waits.
abbrev pub scopes_at : ℕ → Option Scopes
scopes_at core = option_map (λ world. (world.states core).core.body.scopes) (global_run enrolled 0 (steps_in (take 26 enrolled_lines)))

pub record EnrolledCounts : Type 0 where
  pub counts : option_map (λ scopes. scopes.counts (scope 0 1)) (scopes_at 1) ≡ Some (Some (count.Active 2))
  pub master : option_map (λ scopes. scopes.masters (scope 0 1)) (scopes_at 0) ≡ Some (Some (record { active = 2; waiter = Some (waiter.Task 0) }))
