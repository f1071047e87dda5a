-- Worked rows of a trap.
-- array a[1]; task main() { print 1; let x = a.read(0); print 1 / x; }
use Rattle.std.specs.Prelude.{List, [], ◌∷◌}
use Rattle.gr_lang.specs.declared.action.Action.TheVariants as action
use Rattle.gr_lang.specs.declared.action.Op.TheVariants as op
use Rattle.gr_lang.specs.declared.action.Entry.TheVariants as entry
use Rattle.gr_lang.specs.declared.action.TrapKind.TheVariants as trap
use Rattle.gr_lang.specs.declared.action.Entry.{Entry}
use Rattle.gr_lang.specs.Objects.{array}
use Rattle.gr_lang.specs.Effects.{nothing, one}
use Rattle.gr_msg.specs.declared.message.Msg.TheVariants as msg
use Rattle.gr_machine.specs.Machines.{Machine}
use Rattle.gr_machine.specs.Outcomes.{marked}
use Rattle.gr_machine.specs.RowWords.{setup_of, objects_of, Script, scripted, machine_with, Line, run, serve, id, RunsAs, EndsAs, counts_of}

-- The script of each task.
abbrev pub trapped_script : Script
trapped_script target args words = action.Call (op.Print 1) ∷ action.Call (op.Read 0 0) ∷ action.Trap trap.Div ∷ []

abbrev pub trapped : Machine
trapped = machine_with (setup_of 1 8 32) (scripted trapped_script 0 (0 ∷ []) (objects_of (0 ∷ []) (array 0 1 ∷ [])))

abbrev pub trapped_lines : List Line
trapped_lines =
    run 0 1 [] []
    ∷ serve 0 2 (msg.Request 0 (id 0 0) 7 1 0 0) (marked (entry.Call (id 0 0) (op.Print 1) nothing))
    ∷ serve 0 3 (msg.Reply 0 (id 0 0) 0 0) []
    ∷ run 0 4 [] []
    ∷ serve 0 5 (msg.Request 0 (id 0 0) 1 0 0 0) (marked (entry.Call (id 0 0) (op.Read 0 0) (one 0)))
    ∷ serve 0 6 (msg.Reply 0 (id 0 0) 0 0) []
    ∷ run 0 7 [] (marked (entry.Trap (id 0 0) trap.Div))
    ∷ []

abbrev pub trapped_history : List Entry
trapped_history =
    entry.Call (id 0 0) (op.Print 1) nothing
    ∷ entry.Call (id 0 0) (op.Read 0 0) (one 0)
    ∷ entry.Trap (id 0 0) trap.Div
    ∷ []

-- The core of a task that is trapped does nothing more.
abbrev pub TrappedRun : Type 0
TrappedRun = RunsAs trapped trapped_lines trapped_history

-- Each core by itself, and what it has done in numbers.
pub record TrappedEnds : Type 0 where
  pub core0 : EndsAs trapped 0 trapped_lines (counts_of 2 0 0 0 0 0 0)
