-- Worked rows of a turn of a vector that pushes a word and pops it again.
-- vector v; task put(w) { v.push(w); } task get() { let f, x = v.pop(); print x; } task main() { finish { spawn put(5); spawn get(); } }
use Rattle.std.specs.Prelude.{List, [], ◌∷◌, ◌++◌, slice_index_or, None, Some, zero, suc}
use Rattle.gr_lang.specs.declared.action.Action.TheVariants as action
use Rattle.gr_lang.specs.declared.action.Op.TheVariants as op
use Rattle.gr_lang.specs.declared.action.How.TheVariants as how
use Rattle.gr_lang.specs.declared.action.Entry.TheVariants as entry
use Rattle.gr_lang.specs.declared.action.Entry.{Entry}
use Rattle.gr_lang.specs.Objects.{line}
use Rattle.gr_lang.specs.Effects.{reply, nothing}
use Rattle.gr_msg.specs.declared.message.Msg.TheVariants as msg
use Rattle.gr_machine.specs.Machines.{Machine}
use Rattle.gr_machine.specs.Outcomes.{marked}
use Rattle.gr_machine.specs.RowWords.{setup_of, objects_of, Script, scripted, machine_with, Line, run, serve, ship, close, steal, id, scope, RunsAs, EndsAs, counts_of}

-- The script of each task.
abbrev pub turn_script : Script
turn_script zero args words = action.Call (op.Push 0 (slice_index_or args 0 0)) ∷ []
turn_script (suc zero) args words = action.Call (op.Pop 0) ∷ action.Call (op.Print (slice_index_or words 1 0)) ∷ []
turn_script (suc (suc target)) args words = action.Finish ∷ action.Spawn how.Here 0 (5 ∷ []) ∷ action.Spawn how.Here 1 [] ∷ action.Arrive ∷ []

abbrev pub turn : Machine
turn = machine_with (setup_of 2 1 1) (scripted turn_script 2 (1 ∷ 0 ∷ 0 ∷ []) (objects_of [] (line [] ∷ [])))

abbrev pub turn_lines : List Line
turn_lines =
    run 0 1 [] (marked (entry.Finish (id 0 0)))
    ∷ run 0 2 [] (marked (entry.Spawn (id 0 0) how.Here 0 (5 ∷ []) (id 0 1)))
    ∷ run 0 3 [] (marked (entry.Spawn (id 0 0) how.Here 1 [] (id 0 2)))
    ∷ run 0 4 [] []
    ∷ run 0 5 (1 ∷ []) []
    ∷ run 0 6 [] []
    ∷ run 0 7 (2 ∷ []) []
    ∷ run 0 8 [] []
    ∷ close 0 9 0 []
    ∷ serve 0 10 (msg.Turn 0) []
    ∷ serve 0 11 (msg.Grant 0 0 0) []
    ∷ serve 0 12 (msg.ElemPut 0 0 5) []
    ∷ serve 0 13 (msg.ElemGet 0 0) []
    ∷ serve 0 14 (msg.ElemAck 0 0 None) []
    ∷ serve 0 15 (msg.ElemAck 0 0 (Some 5)) (marked (entry.Call (id 0 1) (op.Push 0 5) nothing) ++ marked (entry.Call (id 0 2) (op.Pop 0) (reply 1 5)))
    ∷ serve 0 16 (msg.Done 0 0 0) []
    ∷ run 0 17 [] (marked (entry.End (id 0 1)))
    ∷ serve 0 18 (msg.Complete (scope 0 1) 1) []
    ∷ run 0 19 [] []
    ∷ serve 0 20 (msg.Request 2 (id 0 2) 7 5 0 0) (marked (entry.Call (id 0 2) (op.Print 5) nothing))
    ∷ serve 0 21 (msg.Reply 2 (id 0 2) 0 0) []
    ∷ run 0 22 [] (marked (entry.End (id 0 2)))
    ∷ serve 0 23 (msg.Complete (scope 0 1) 1) []
    ∷ serve 0 24 (msg.Leave (scope 0 1)) (marked (entry.Pass (id 0 0)))
    ∷ run 0 25 [] (marked (entry.End (id 0 0)))
    ∷ serve 0 26 (msg.Complete (scope 0 0) 1) []
    ∷ serve 0 27 (msg.Leave (scope 0 0)) (marked (entry.Over))
    ∷ steal 1 1 0
    ∷ ship 1 2 0 (msg.StealAsk ∷ [])
    ∷ []

abbrev pub turn_history : List Entry
turn_history =
    entry.Finish (id 0 0)
    ∷ entry.Spawn (id 0 0) how.Here 0 (5 ∷ []) (id 0 1)
    ∷ entry.Spawn (id 0 0) how.Here 1 [] (id 0 2)
    ∷ entry.Call (id 0 1) (op.Push 0 5) nothing
    ∷ entry.Call (id 0 2) (op.Pop 0) (reply 1 5)
    ∷ entry.End (id 0 1)
    ∷ entry.Call (id 0 2) (op.Print 5) nothing
    ∷ entry.End (id 0 2)
    ∷ entry.Pass (id 0 0)
    ∷ entry.End (id 0 0)
    ∷ entry.Over
    ∷ []

-- The word is put at position 0 and got from there; both calls are marked when the last of these is answered.
abbrev pub TurnRun : Type 0
TurnRun = RunsAs turn turn_lines turn_history

-- Each core by itself, and what it has done in numbers.
pub record TurnEnds : Type 0 where
  pub core0 : EndsAs turn 0 turn_lines (counts_of 3 0 0 0 0 0 0)
  pub core1 : EndsAs turn 1 turn_lines (counts_of 0 1 1 0 0 1 0)
