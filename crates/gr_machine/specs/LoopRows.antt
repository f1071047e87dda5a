-- Worked rows of a loop that is split, and of which another core gets a part.
-- array a[1]; task one(i) { a.add(0, i); } task main() { forall 0 .. 4 grain 1 one(); }
use Rattle.std.specs.Prelude.{List, [], ◌∷◌, slice_index_or, zero, suc}
use Rattle.gr_lang.specs.declared.action.Action.TheVariants as action
use Rattle.gr_lang.specs.declared.action.Op.TheVariants as op
use Rattle.gr_lang.specs.declared.action.Entry.TheVariants as entry
use Rattle.gr_lang.specs.declared.action.Entry.{Entry}
use Rattle.gr_lang.specs.Objects.{array}
use Rattle.gr_lang.specs.Effects.{one}
use Rattle.gr_msg.specs.declared.message.Unit.TheVariants as unit
use Rattle.gr_msg.specs.declared.message.Msg.TheVariants as msg
use Rattle.gr_machine.specs.Machines.{Machine}
use Rattle.gr_machine.specs.Outcomes.{marked}
use Rattle.gr_machine.specs.RowWords.{setup_of, objects_of, Script, scripted, machine_with, Line, run, serve, ship, take_from, steal, id, scope, RunsAs, EndsAs, counts_of}

-- The script of each task.
abbrev pub looped_script : Script
looped_script zero args words = action.Call (op.Add 0 0 (slice_index_or args 0 0)) ∷ []
looped_script (suc target) args words = action.Loop 0 4 1 0 [] ∷ []

abbrev pub looped : Machine
looped = machine_with (setup_of 2 8 1) (scripted looped_script 1 (1 ∷ 0 ∷ []) (objects_of (0 ∷ []) (array 0 1 ∷ [])))

abbrev pub looped_lines : List Line
looped_lines =
    run 0 1 [] (marked (entry.Loop (id 0 0) 0 4 1 0 []))
    ∷ run 0 2 [] []
    ∷ run 0 3 (1 ∷ []) (marked (entry.Begin (id 0 0) 0 (id 0 1)))
    ∷ run 0 4 [] []
    ∷ steal 1 1 0
    ∷ ship 1 2 0 (msg.StealAsk ∷ [])
    ∷ serve 0 5 (msg.Request 1 (id 0 1) 3 0 0 0) (marked (entry.Call (id 0 1) (op.Add 0 0 0) (one 0)))
    ∷ serve 0 6 (msg.Reply 1 (id 0 1) 0 0) []
    ∷ take_from 0 7 1
    ∷ serve 0 8 (msg.StealAsk) []
    ∷ ship 0 9 1 (msg.StealGive (unit.Chunk 0 [] (scope 0 1) 0 (id 0 0) 2 4 1) ∷ [])
    ∷ run 0 10 [] (marked (entry.End (id 0 1)))
    ∷ serve 0 11 (msg.Complete (scope 0 1) 1) []
    ∷ run 0 12 (1 ∷ []) (marked (entry.Begin (id 0 0) 1 (id 0 2)))
    ∷ take_from 1 10 0
    ∷ serve 1 11 (msg.StealGive (unit.Chunk 0 [] (scope 0 1) 0 (id 0 0) 2 4 1)) []
    ∷ run 1 12 [] []
    ∷ run 1 13 (0 ∷ []) (marked (entry.Begin (id 0 0) 2 (id 1 0)))
    ∷ run 0 13 [] []
    ∷ serve 0 14 (msg.Request 1 (id 0 2) 3 0 1 0) (marked (entry.Call (id 0 2) (op.Add 0 0 1) (one 0)))
    ∷ serve 0 15 (msg.Reply 1 (id 0 2) 0 0) []
    ∷ run 0 16 [] (marked (entry.End (id 0 2)))
    ∷ run 1 14 [] []
    ∷ ship 1 15 0 (msg.Request 0 (id 1 0) 3 0 2 0 ∷ [])
    ∷ run 1 16 (1 ∷ []) (marked (entry.Begin (id 0 0) 3 (id 1 1)))
    ∷ run 1 17 [] []
    ∷ serve 0 17 (msg.Complete (scope 0 1) 1) []
    ∷ take_from 0 18 1
    ∷ serve 0 19 (msg.Request 0 (id 1 0) 3 0 2 0) (marked (entry.Call (id 1 0) (op.Add 0 0 2) (one 1)))
    ∷ ship 0 20 1 (msg.Reply 0 (id 1 0) 1 0 ∷ [])
    ∷ ship 1 18 0 (msg.Request 1 (id 1 1) 3 0 3 0 ∷ [])
    ∷ take_from 1 21 0
    ∷ serve 1 22 (msg.Reply 0 (id 1 0) 1 0) []
    ∷ run 1 23 [] (marked (entry.End (id 1 0)))
    ∷ take_from 0 21 1
    ∷ serve 0 22 (msg.Request 1 (id 1 1) 3 0 3 0) (marked (entry.Call (id 1 1) (op.Add 0 0 3) (one 3)))
    ∷ ship 0 23 1 (msg.Reply 1 (id 1 1) 3 0 ∷ [])
    ∷ steal 0 24 1
    ∷ ship 1 24 0 (msg.Complete (scope 0 1) 1 ∷ [])
    ∷ take_from 1 25 0
    ∷ serve 1 26 (msg.Reply 1 (id 1 1) 3 0) []
    ∷ run 1 27 [] (marked (entry.End (id 1 1)))
    ∷ ship 0 25 1 (msg.StealAsk ∷ [])
    ∷ take_from 0 26 1
    ∷ serve 0 27 (msg.Complete (scope 0 1) 1) []
    ∷ ship 1 28 0 (msg.Complete (scope 0 1) 1 ∷ [])
    ∷ take_from 1 29 0
    ∷ serve 1 30 (msg.StealAsk) []
    ∷ steal 1 31 0
    ∷ take_from 0 29 1
    ∷ serve 0 30 (msg.Complete (scope 0 1) 1) []
    ∷ serve 0 31 (msg.Leave (scope 0 1)) (marked (entry.Pass (id 0 0)))
    ∷ run 0 32 [] (marked (entry.End (id 0 0)))
    ∷ ship 1 32 0 (msg.StealAsk ∷ [])
    ∷ serve 0 33 (msg.Complete (scope 0 0) 1) []
    ∷ serve 0 34 (msg.Leave (scope 0 0)) (marked (entry.Over))
    ∷ []

abbrev pub looped_history : List Entry
looped_history =
    entry.Loop (id 0 0) 0 4 1 0 []
    ∷ entry.Begin (id 0 0) 0 (id 0 1)
    ∷ entry.Call (id 0 1) (op.Add 0 0 0) (one 0)
    ∷ entry.End (id 0 1)
    ∷ entry.Begin (id 0 0) 1 (id 0 2)
    ∷ entry.Begin (id 0 0) 2 (id 1 0)
    ∷ entry.Call (id 0 2) (op.Add 0 0 1) (one 0)
    ∷ entry.End (id 0 2)
    ∷ entry.Begin (id 0 0) 3 (id 1 1)
    ∷ entry.Call (id 1 0) (op.Add 0 0 2) (one 1)
    ∷ entry.End (id 1 0)
    ∷ entry.Call (id 1 1) (op.Add 0 0 3) (one 3)
    ∷ entry.End (id 1 1)
    ∷ entry.Pass (id 0 0)
    ∷ entry.End (id 0 0)
    ∷ entry.Over
    ∷ []

-- The indices 2 and 3 are given to core 1 as soon as its question is served.
abbrev pub LoopedRun : Type 0
LoopedRun = RunsAs looped looped_lines looped_history

-- Each core by itself, and what it has done in numbers.
pub record LoopedEnds : Type 0 where
  pub core0 : EndsAs looped 0 looped_lines (counts_of 2 4 4 0 0 1 1)
  pub core1 : EndsAs looped 1 looped_lines (counts_of 2 6 6 0 0 2 0)
