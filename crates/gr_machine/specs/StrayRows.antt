-- Worked rows of what finds nothing to act on.
use Rattle.std.specs.Prelude.{◌≡◌, ◌^◌, Bool, true, List, [], ◌∷◌, map, replicate, is_none, Some, None}
use Rattle.std.specs.FinSet as set
use Rattle.gr_lang.specs.declared.action.Effect.TheVariants as effect
use Rattle.gr_lang.specs.declared.action.How.TheVariants as how
use Rattle.gr_lang.specs.declared.action.Op.TheVariants as op
use Rattle.gr_lang.specs.declared.action.Action.{Action}
use Rattle.gr_lang.specs.declared.action.Action.TheVariants as action
use Rattle.gr_lang.specs.Objects.{array, keys, line}
use Rattle.gr_event.specs.declared.counts.LocalCount.TheVariants as count
use Rattle.gr_msg.specs.declared.message.Unit.{Unit as WorkUnit}
use Rattle.gr_msg.specs.declared.message.Unit.TheVariants as unit
use Rattle.gr_msg.specs.declared.message.Msg.{Msg}
use Rattle.gr_msg.specs.declared.message.Msg.TheVariants as msg
use Rattle.gr_machine.specs.Machines.{Machine}
use Rattle.gr_machine.specs.States.{Suspended, Body, Core}
use Rattle.gr_machine.specs.Openings.{opening_core, main_task}
use Rattle.gr_machine.specs.Slots.{dropped}
use Rattle.gr_machine.specs.Spawns.{with_count}
use Rattle.gr_machine.specs.ScopeRuns.{with_master}
use Rattle.gr_machine.specs.Runs.{acts, run_unit}
use Rattle.gr_machine.specs.Serves.{serves}
use Rattle.gr_machine.specs.Events.{served}
use Rattle.gr_machine.specs.RowWords.{setup_of, objects_of, scripted, machine_with, id, scope}

-- Two cores in blocks of one word: an array of two words, a set and a vector. Its one task takes no argument.
abbrev pub small : Machine
small = machine_with (setup_of 2 1 32) (scripted (λ target args words. []) 0 (0 ∷ []) (objects_of (0 ∷ 0 ∷ []) (array 0 2 ∷ keys set.empty ∷ line [] ∷ [])))

-- Core 1 at the start.
abbrev pub one : Core
one = opening_core small 0 1

abbrev pub finds_nothing : Msg → Bool
finds_nothing message = is_none (serves small 1 one.body 0 message)

-- Words of another home, of no address or of no operation; what core 0 alone is asked; what nobody waits for; scopes that aren't there or of no core;
-- a unit that wasn't asked for; batches of another home, that don't fold, of no reducer or no object; and vectors' messages where nothing is out.
abbrev pub strays : List Msg
strays =
    msg.Request 0 (id 0 0) 1 0 0 0
    ∷ msg.Request 0 (id 0 0) 3 3 5 0
    ∷ msg.Request 0 (id 0 0) 0 1 0 0
    ∷ msg.Request 0 (id 0 0) 9 1 0 0
    ∷ msg.Request 0 (id 0 0) 7 5 0 0
    ∷ msg.Reply 0 (id 0 0) 0 0
    ∷ msg.Enrol (scope 1 0)
    ∷ msg.EnrolAck (scope 0 0)
    ∷ msg.Complete (scope 0 0) 1
    ∷ msg.Complete (scope 9 0) 1
    ∷ msg.Leave (scope 1 0)
    ∷ msg.StealGive (unit.Single 0 [] (scope 0 0) 0 (id 0 1))
    ∷ msg.Batch 0 0 (effect.Fold 0 5) 0
    ∷ msg.Batch 0 1 effect.Keep 0
    ∷ msg.Batch 0 1 (effect.Fold 8 5) 0
    ∷ msg.Batch 1 9 (effect.Present 1) 0
    ∷ msg.Batch 2 1 (effect.Fold 0 5) 0
    ∷ msg.Batch 7 1 (effect.Fold 0 5) 0
    ∷ msg.BatchReply 0 None
    ∷ msg.Turn 2
    ∷ msg.Grant 2 0 0
    ∷ msg.Done 2 0 0
    ∷ msg.ElemPut 1 1 5
    ∷ msg.ElemGet 2 1
    ∷ msg.ElemAck 2 1 None
    ∷ []

abbrev pub StraysFindNothing : Type 0
StraysFindNothing = map finds_nothing strays ≡ replicate 25 true

-- The message is gone all the same, and nothing else has changed, sent or marked anything.
abbrev pub with_letter : Core → Msg → Core
with_letter core message = record core { inbox = record { from = 0; message = message } ∷ [] }

abbrev pub StrayIsGone : Type 0
StrayIsGone = served small 1 (with_letter one (msg.Leave (scope 1 0))) ≡ record { core = one; sent = []; marks = [] }

-- A scope at its greatest count and number of cores.
abbrev pub full : Body
full = with_master (with_count one.body (scope 1 0) (Some (count.Active (2 ^ 127)))) (scope 1 0) (Some (record { active = 2 ^ 63; waiter = None }))

abbrev pub FullScopeFindsNothing : Type 0
FullScopeFindsNothing = is_none (serves small 1 full 0 (msg.Enrol (scope 1 0))) ≡ true

-- No such task, too many arguments, no index, and a grain of 0.
abbrev pub unsound : List WorkUnit
unsound =
    unit.Single 5 [] (scope 0 0) 0 (id 0 1)
    ∷ unit.Single 0 (1 ∷ []) (scope 0 0) 0 (id 0 1)
    ∷ unit.Chunk 0 [] (scope 0 0) 0 (id 0 0) 0 4 1
    ∷ unit.Chunk 0 [] (scope 0 0) 0 (id 0 0) 4 4 1
    ∷ unit.Chunk 0 [] (scope 0 0) 0 (id 0 0) 0 4 0
    ∷ []

abbrev pub UnitsAreDropped : Type 0
UnitsAreDropped = map (λ work. is_none (run_unit small 1 one.body 0 (Some work))) unsound ≡ replicate 5 true

-- Main, in slot 0 of core 1, drops at each of these: a place that there isn't, a set's call of an array, a map's of a set, a reducer that there isn't,
-- a vector's call of a set, an arrival in no scope, and a new task under a scope whose count is at its greatest.
abbrev pub task : Suspended
task = record (main_task small) { scope = scope 1 0 }

abbrev pub Drops : Body → Action → Type 0
Drops body what = acts small 1 body 0 task what ≡ dropped body 0

pub record ActionsAreDropped : Type 0 where
  pub place : Drops full (action.Call (op.Read 0 2))
  pub no_set : Drops full (action.Call (op.Insert 0 7))
  pub no_map : Drops full (action.Call (op.Put 1 7 5))
  pub reducer : Drops full (action.Call (op.Reduce 0 8 0 5))
  pub no_vector : Drops full (action.Call (op.Push 1 5))
  pub arrival : Drops full action.Arrive
  pub spawn : Drops full (action.Spawn how.Here 0 [])
