-- Part 4 of 'stands for', work: the chunks of a loop are disjoint and cover its indices that haven't begun; a core's question for work is out in exactly one
-- form; and while a core waits at another, that one has no unit that others may take.
use Rattle.std.specs.Prelude.{◌≡◌, ◌⊎◌, ℕ, ◌+◌, ◌<◌, ◌==◌, ◌&&◌, Bool, true, false, if◌then◌else◌, List, [], length, Some}
use Rattle.gr_lang.specs.declared.action.TaskId.{TaskId}
use Rattle.gr_msg.specs.declared.message.Msg.{Msg}
use Rattle.gr_msg.specs.declared.message.Msg.TheVariants as msg
use Rattle.gr_msg.specs.declared.message.ScopeId.{ScopeId}
use Rattle.gr_msg.specs.declared.message.Unit.{Unit as WorkUnit}
use Rattle.gr_msg.specs.declared.message.Unit.TheVariants as unit
use Rattle.gr_net.specs.Sums.{Each}
use Rattle.gr_net.specs.Flights.{Everywhere}
use Rattle.gr_machine.specs.Machines.{has_task}
use Rattle.gr_machine.specs.States.{Body}
use Rattle.gr_machine.specs.Nets.{messages_in}
use Rattle.gr_machine.specs.Slots.{same_id}
use Rattle.gr_stands.specs.Worlds.{Given, machine_in, World, bodies, in_flight}
use Rattle.gr_stands.specs.Censuses.{Weights, census}
use Rattle.gr_stands.specs.Calls.{times}
use Rattle.gr_stands_events.specs.Laws.{WaitersAreCores}
use Rattle.gr_scopes.specs.Trees.{Names}
use Rattle.gr_shares.specs.Loops.{Loop, Loops, within, left_at, LoopsStand}

-- Weights

-- This number where both names are those of one task, and else 0.
unfoldable pub if_owner : TaskId → TaskId → ℕ → ℕ
if_owner one other number = if same_id other one then number else 0

-- 1 for a chunk of a task's loop that has the index.
abbrev pub covers : TaskId → ℕ → WorkUnit → ℕ
covers owner index (unit.Single target args scope origin id) = 0
covers owner index (unit.Chunk target args scope origin other lo hi grain) = if_owner owner other (within lo hi index)

-- Units weigh, tasks in slots don't.
abbrev pub units_only : (WorkUnit → ℕ) → Weights
units_only weight = record { of_task = λ task. 0; of_unit = weight }

-- 1 where the message goes from the first core to the second.
unfoldable pub if_between : ℕ → ℕ → ℕ → ℕ → ℕ
if_between one other from to = if from == one && to == other then 1 else 0

-- 1 for the question of a core to a victim, and for the unit that answers it.
abbrev pub is_question : ℕ → ℕ → ℕ → ℕ → Msg → ℕ
is_question asker victim from to msg.StealAsk = if_between asker victim from to
is_question asker victim from to (msg.StealGive work) = if_between victim asker from to
is_question asker victim from to _ = 0

abbrev pub one_if : Bool → ℕ
one_if true = 1
one_if false = 0

-- Units and messages

-- A chunk has indices and a grain of at least 1, is of the loop at which its owner waits, with the loop's task and words, under the loop's scope; and the ends
-- of its tasks are counted at a core.
pub record ChunkStands (given : Given) (names : Names) (loops : Loops) (target : ℕ) (args : List ℕ) (scope : ScopeId) (origin : ℕ) (owner : TaskId) (lo hi grain : ℕ) : Type 0 where
  pub some : lo < hi
  pub grained : 0 < grain
  pub known : has_task (machine_in given) target (length args + 1) ≡ true
  pub counted : origin < given.setup.cores
  pub loop : Loop
  pub waits : loops owner ≡ Some loop
  pub named : names loop.number ≡ Some scope
  pub targets : loop.range.target ≡ target
  pub words : loop.range.args ≡ args

abbrev pub UnitShares : Given → Names → Loops → WorkUnit → Type 0
UnitShares given names loops (unit.Single target args scope origin id) = Unit
UnitShares given names loops (unit.Chunk target args scope origin owner lo hi grain) = ChunkStands given names loops target args scope origin owner lo hi grain

abbrev pub IsSingle : WorkUnit → Type 0
IsSingle (unit.Single target args scope origin id) = Unit
IsSingle (unit.Chunk target args scope origin owner lo hi grain) = ⊥

-- A task that is made elsewhere is sent as one; a question is a core's.
abbrev pub MessageShares : Given → Names → Loops → ℕ → ℕ → Msg → Type 0
MessageShares given names loops from to (msg.Spawn work) = IsSingle work
MessageShares given names loops from to msg.StealAsk = from < given.setup.cores
MessageShares given names loops from to (msg.StealGive work) = UnitShares given names loops work
MessageShares given names loops from to _ = Unit

-- The part

-- Each index of a loop that hasn't begun is in one chunk, in a queue or in flight, and no other index is in one. A core has asked a victim where its StealAsk is
-- in flight, or it waits at the victim, or a StealGive to it is in flight: one of these, once.
pub record SharesHold (given : Given) (names : Names) (world : World) (loops : Loops) : Type 0 where
  pub chunks : (owner : TaskId) (index : ℕ) → census (units_only (covers owner index)) given world ≡ left_at (loops owner) index
  pub questions : (asker victim : ℕ) → in_flight (is_question asker victim) given.setup.cores world + times asker (bodies world victim).steals.waiting
      ≡ one_if ((bodies world asker).steals.asked victim)
  pub private : (core : ℕ) → core < given.setup.cores → Each (UnitShares given names loops) (bodies world core).work.private
  pub public : (core : ℕ) → core < given.setup.cores → Each (UnitShares given names loops) (bodies world core).work.public
  pub messages : Everywhere messages_in (MessageShares given names loops) given.setup.cores world
  pub waiting : (core : ℕ) → WaitersAreCores given (bodies world core)
  pub ranges : LoopsStand loops

-- While a core waits here, there is no unit that others may take.
abbrev pub KeepsNothing : Body → Type 0
KeepsNothing body = (body.steals.waiting ≡ []) ⊎ (body.work.public ≡ [])

-- So it is between events.
pub record SharesStand (given : Given) (names : Names) (world : World) (loops : Loops) : Type 0 where
  pub hold : SharesHold given names world loops
  pub gives : (core : ℕ) → KeepsNothing (bodies world core)
