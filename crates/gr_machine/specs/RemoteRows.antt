-- Worked rows of a call whose home is another core.
-- array a[2]; task main() { let x = a.add(1, 5); print x; }
use Rattle.std.specs.Prelude.{List, [], ◌∷◌, slice_index_or}
use Rattle.gr_lang.specs.declared.action.Action.TheVariants as action
use Rattle.gr_lang.specs.declared.action.Op.TheVariants as op
use Rattle.gr_lang.specs.declared.action.Entry.TheVariants as entry
use Rattle.gr_lang.specs.declared.action.Entry.{Entry}
use Rattle.gr_lang.specs.Objects.{array}
use Rattle.gr_lang.specs.Effects.{nothing, one}
use Rattle.gr_msg.specs.declared.message.Msg.TheVariants as msg
use Rattle.gr_machine.specs.Machines.{Machine}
use Rattle.gr_machine.specs.Outcomes.{marked}
use Rattle.gr_machine.specs.RowWords.{setup_of, objects_of, Script, scripted, machine_with, Line, run, serve, ship, take_from, steal, id, scope, RunsAs, EndsAs, counts_of}

-- The script of each task.
abbrev pub remote_script : Script
remote_script target args words = action.Call (op.Add 0 1 5) ∷ action.Call (op.Print (slice_index_or words 0 0)) ∷ []

abbrev pub remote : Machine
remote = machine_with (setup_of 2 1 1) (scripted remote_script 0 (0 ∷ []) (objects_of (0 ∷ 0 ∷ []) (array 0 2 ∷ [])))

abbrev pub remote_lines : List Line
remote_lines =
    run 0 1 [] []
    ∷ ship 0 2 1 (msg.Request 0 (id 0 0) 3 1 5 0 ∷ [])
    ∷ steal 0 3 1
    ∷ ship 0 4 1 (msg.StealAsk ∷ [])
    ∷ take_from 1 3 0
    ∷ serve 1 4 (msg.Request 0 (id 0 0) 3 1 5 0) (marked (entry.Call (id 0 0) (op.Add 0 1 5) (one 0)))
    ∷ ship 1 5 0 (msg.Reply 0 (id 0 0) 0 0 ∷ [])
    ∷ take_from 1 6 0
    ∷ serve 1 7 (msg.StealAsk) []
    ∷ steal 1 8 0
    ∷ ship 1 9 0 (msg.StealAsk ∷ [])
    ∷ take_from 0 6 1
    ∷ serve 0 7 (msg.Reply 0 (id 0 0) 0 0) []
    ∷ take_from 0 10 1
    ∷ serve 0 11 (msg.StealAsk) []
    ∷ run 0 12 [] []
    ∷ serve 0 13 (msg.Request 0 (id 0 0) 7 0 0 0) (marked (entry.Call (id 0 0) (op.Print 0) nothing))
    ∷ serve 0 14 (msg.Reply 0 (id 0 0) 0 0) []
    ∷ run 0 15 [] (marked (entry.End (id 0 0)))
    ∷ serve 0 16 (msg.Complete (scope 0 0) 1) []
    ∷ serve 0 17 (msg.Leave (scope 0 0)) (marked (entry.Over))
    ∷ []

abbrev pub remote_history : List Entry
remote_history =
    entry.Call (id 0 0) (op.Add 0 1 5) (one 0)
    ∷ entry.Call (id 0 0) (op.Print 0) nothing
    ∷ entry.End (id 0 0)
    ∷ entry.Over
    ∷ []

-- The word lies at core 1, where the add is made and marked.
abbrev pub RemoteRun : Type 0
RemoteRun = RunsAs remote remote_lines remote_history

-- Each core by itself, and what it has done in numbers.
pub record RemoteEnds : Type 0 where
  pub core0 : EndsAs remote 0 remote_lines (counts_of 2 2 2 0 0 1 0)
  pub core1 : EndsAs remote 1 remote_lines (counts_of 0 2 2 0 0 1 0)
