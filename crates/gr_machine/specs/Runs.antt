-- Run: what a ready task does, and what becomes of a unit of work that is taken up.
use Rattle.std.specs.Prelude.{ℕ, ◌+◌, ◌-◌, ◌&&◌, Bool, nat_lt, if◌then◌else◌, List, [], ◌∷◌, length, drop, Option, Some, None}
use Rattle.gr_lang.specs.declared.action.Action.{Action}
use Rattle.gr_lang.specs.declared.action.Action.TheVariants as action
use Rattle.gr_lang.specs.declared.action.Entry.TheVariants as entry
use Rattle.gr_lang.specs.declared.action.TaskId.{TaskId}
use Rattle.gr_msg.specs.declared.message.ScopeId.{ScopeId}
use Rattle.gr_msg.specs.declared.message.Unit.{Unit as WorkUnit}
use Rattle.gr_msg.specs.declared.message.Unit.TheVariants as unit
use Rattle.gr_work.specs.Parts.{with_split}
use Rattle.gr_work.specs.Queues.{next_unit, after_next}
use Rattle.gr_machine.specs.Machines.{Machine, has_task}
use Rattle.gr_machine.specs.States.{Suspended, Body}
use Rattle.gr_machine.specs.Openings.{new_task}
use Rattle.gr_machine.specs.Outcomes.{Outcome, marked, quietly}
use Rattle.gr_machine.specs.Slots.{readied, numbered, own_id}
use Rattle.gr_machine.specs.Calls.{called}
use Rattle.gr_machine.specs.Spawns.{trapped, private_first, spawns}
use Rattle.gr_machine.specs.ScopeRuns.{finishes, arrives, loops, ends}

-- The action of a ready task.
abbrev pub acts : Machine → ℕ → Body → ℕ → Suspended → Action → Outcome
acts machine me body slot task (action.Call op) = called machine body slot task op
acts machine me body slot task (action.Spawn how target args) = spawns machine me body slot task how target args
acts machine me body slot task action.Finish = finishes machine me body slot task
acts machine me body slot task action.Arrive = arrives machine body slot task task.opened
acts machine me body slot task (action.Loop lo hi grain target args) = loops machine me body slot task lo hi grain target args
acts machine me body slot task action.End = ends machine body slot task
acts machine me body slot task (action.Trap kind) = trapped body slot task kind

-- A ready slot without a task finds nothing to act on.
abbrev pub run_slot : Machine → ℕ → Body → ℕ → Option Suspended → Option Outcome
run_slot machine me body slot None = None
run_slot machine me body slot (Some task) = Some (acts machine me body slot task task.action)

abbrev pub without_ready : Body → Body
without_ready body = record body { tasks = record body.tasks { ready = drop 1 body.tasks.ready } }

-- Units

-- The unit that is taken up next, and the body without it.
abbrev pub first_unit : Body → Option WorkUnit
first_unit body = next_unit body.work.private body.work.public

abbrev pub without_unit : Body → Body
without_unit body = record body { work = after_next body.work.private body.work.public }

-- A task that hasn't started is ready in this slot.
abbrev pub starts : Machine → Body → ℕ → ℕ → List ℕ → ScopeId → ℕ → TaskId → Outcome
starts machine body slot target args scope origin id = quietly (readied body slot (new_task id scope origin (machine.code.start target args)))

-- The indices of a chunk that are left are the core's first unit, if there are any.
abbrev pub with_rest : Body → ℕ → List ℕ → ScopeId → ℕ → TaskId → ℕ → ℕ → ℕ → Body
with_rest body target args scope origin owner lo hi grain =
    if nat_lt lo hi then private_first body (unit.Chunk target args scope origin owner lo hi grain) else body

-- The first index of a chunk begins as a new task, which is ready in this slot.
abbrev pub begins : Machine → ℕ → Body → ℕ → ℕ → List ℕ → ScopeId → ℕ → TaskId → ℕ → ℕ → ℕ → Outcome
begins machine me body slot target args scope origin owner lo hi grain = record {
  body = with_rest (numbered (readied body slot (new_task (own_id me body) scope origin (machine.code.start target (lo ∷ args))))) target args scope origin owner (lo + 1) hi grain;
  sends = [];
  marks = marked (entry.Begin owner lo (own_id me body));
}

abbrev pub splits : Body → WorkUnit → Outcome
splits body work = quietly (record body { work = with_split body.work work })

-- A unit may be taken up where there is such a task with so many parameters; a chunk has indices, and a grain of at least 1.
abbrev pub is_sound : Machine → WorkUnit → Bool
is_sound machine (unit.Single target args scope origin id) = has_task machine target (length args)
is_sound machine (unit.Chunk target args scope origin owner lo hi grain) = has_task machine target (length args + 1) && nat_lt lo hi && nat_lt 0 grain

-- A chunk of more indices than its grain is split; of any other the first index begins.
abbrev pub taken_up : Machine → ℕ → Body → ℕ → WorkUnit → Outcome
taken_up machine me body slot (unit.Single target args scope origin id) = starts machine body slot target args scope origin id
taken_up machine me body slot (unit.Chunk target args scope origin owner lo hi grain) =
    if nat_lt grain (hi - lo)
    then splits body (unit.Chunk target args scope origin owner lo hi grain)
    else begins machine me body slot target args scope origin owner lo hi grain

abbrev pub run_unit : Machine → ℕ → Body → ℕ → Option WorkUnit → Option Outcome
run_unit machine me body slot None = None
run_unit machine me body slot (Some work) = if is_sound machine work then Some (taken_up machine me body slot work) else None

-- How many slots a unit takes: one for a task that starts, and none where a chunk is split or nothing is found to act on.
abbrev pub slots_of : WorkUnit → ℕ
slots_of (unit.Single target args scope origin id) = 1
slots_of (unit.Chunk target args scope origin owner lo hi grain) = if nat_lt grain (hi - lo) then 0 else 1

abbrev pub slots_for : Machine → Option WorkUnit → ℕ
slots_for machine None = 0
slots_for machine (Some work) = if is_sound machine work then slots_of work else 0
