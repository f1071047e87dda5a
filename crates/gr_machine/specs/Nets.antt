-- The machine as a net of messages between cores: what it is without its clocks.
use Rattle.std.specs.Prelude.{◌≡◌, ℕ, List, take, Some}
use Rattle.gr_msg.specs.declared.message.Msg.{Msg}
use Rattle.gr_merge.specs.Machines.{takes, ships}
use Rattle.gr_merge.specs.GlobalRuns.{goes_at}
use Rattle.gr_agg.specs.Buffers.{add_last}
use Rattle.gr_agg.specs.Laws.{Adds}
use Rattle.gr_net.specs.Worlds as net
use Rattle.gr_net.specs.Flights.{AddsUp}
use Rattle.gr_machine.specs.declared.event.Event.TheVariants as event
use Rattle.gr_machine.specs.Machines.{Machine}
use Rattle.gr_machine.specs.States.{Body, Core}
use Rattle.gr_machine.specs.Outcomes.{Outcome, acted}
use Rattle.gr_machine.specs.Events.{Packet}
use Rattle.gr_machine.specs.Steppers.{stepper}
use Rattle.gr_machine.specs.GlobalRuns.{World}

-- A core, and the world, without clocks.
abbrev pub core_in : Core → net.Core Body Msg
core_in core = record { body = core.body; inbox = core.inbox; buffers = core.buffers }

abbrev pub world_in : World → net.World Body Msg Packet
world_in world = record { cores = λ me. core_in (world.states me).core; transit = world.transit }

abbrev pub messages_in : Packet → List Msg
messages_in packet = packet.messages

-- A weight that adds up over counts of one scope adds up over a buffer that a message joins.
abbrev pub BuffersAddUp : Type 0
BuffersAddUp = (weight : Msg → ℕ) → Adds weight → AddsUp add_last weight

-- An outcome at a core of the machine is one at a core of the net.
abbrev pub OutcomesAreTheNets : Type 0
OutcomesAreTheNets = (me : ℕ) (core : Core) (outcome : Outcome)
    → core_in (acted me core (Some outcome)) ≡ net.acted add_last me (core_in core) (Some outcome)

-- A Ship of the machine is one of the net: of the first messages of the buffer, with the clock of its entry.
abbrev pub ShipsAreTheNets : Type 0
ShipsAreTheNets = (machine : Machine) (world next : World) (me dest clock : ℕ) (slots : List ℕ)
    → goes_at (stepper machine) (ships dest) me world (record { clock = clock; event = event.Ship dest; slots = slots }) ≡ Some next
    → world_in next ≡ net.shipped machine.setup.limit
    (record { clock = clock; messages = take machine.setup.limit ((world.states me).core.buffers dest) }) (world_in world) me dest

-- So is a Take.
abbrev pub TakesAreTheNets : Type 0
TakesAreTheNets = (machine : Machine) (world next : World) (me from clock : ℕ) (slots : List ℕ)
    → goes_at (stepper machine) (takes from) me world (record { clock = clock; event = event.Take from; slots = slots }) ≡ Some next
    → world_in next ≡ net.taken messages_in (world_in world) me from (world.transit from me)
