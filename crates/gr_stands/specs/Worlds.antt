-- What a run is given; worlds without their clocks; and what happens to a world: an outcome at a core, a Ship or a Take.
use Rattle.std.specs.Prelude.{◌≡◌, ◌⊎◌, ℕ, ◌<◌, List, take, Some}
use Rattle.gr_syntax.specs.declared.syntax.Program.{Program}
use Rattle.gr_msg.specs.declared.message.Msg.{Msg}
use Rattle.gr_agg.specs.Buffers.{add_last}
use Rattle.gr_net.specs.Sums.{weigh, Each}
use Rattle.gr_net.specs.Worlds as net
use Rattle.gr_net.specs.Worlds.{put_core, acted, shipped, taken, Without}
use Rattle.gr_net.specs.Flights.{flight}
use Rattle.gr_machine.specs.declared.setup.Setup.{Setup}
use Rattle.gr_machine.specs.Machines.{Machine, machine_of}
use Rattle.gr_machine.specs.States.{Letter, Body}
use Rattle.gr_machine.specs.Outcomes.{Send, Outcome}
use Rattle.gr_machine.specs.Events.{Packet}
use Rattle.gr_machine.specs.Nets.{messages_in}

-- A program and the numbers of its run; and a number below which all slots are in which a task ever stands.
pub record Given : Type 0 where
  pub program : Program
  pub setup : Setup
  pub slots : ℕ

abbrev pub machine_in : Given → Machine
machine_in given = machine_of given.setup given.program

-- The cores by number with the packets between them, without clocks.
abbrev pub World : Type 0
World = net.World Body Msg Packet

abbrev pub Core : Type 0
Core = net.Core Body Msg

abbrev pub bodies : World → ℕ → Body
bodies world core = (world.cores core).body

-- What the messages in flight weigh together, by the core that sent each, the core that gets it and the message; what letters of a core and what its sends weigh.
abbrev pub Weight : Type 0
Weight = ℕ → ℕ → Msg → ℕ

abbrev pub in_flight : Weight → ℕ → World → ℕ
in_flight weight count world = flight messages_in weight count world

abbrev pub of_letters : Weight → ℕ → List Letter → ℕ
of_letters weight me letters = weigh (λ letter. weight letter.from me letter.message) letters

abbrev pub of_sends : Weight → ℕ → List Send → ℕ
of_sends weight me sends = weigh (λ send. weight me send.to send.message) sends

-- What happens, at so many cores

-- An outcome at a core that has taken up these letters, the first of its inbox.
pub record Acts (count : ℕ) (before after : World) (me : ℕ) (got : List Letter) (outcome : Outcome) : Type 0 where
  pub here : me < count
  pub core : Core
  pub without : Without before me core got
  pub sends : Each (λ send. send.to < count) outcome.sends
  pub world : after ≡ put_core before me (acted add_last me core (Some outcome))

-- A core ships the first messages for another as a packet.
pub record Ships (count : ℕ) (before after : World) : Type 0 where
  pub me : ℕ
  pub dest : ℕ
  pub here : me < count
  pub there : dest < count
  pub size : ℕ
  pub packet : Packet
  pub messages : packet.messages ≡ take size ((before.cores me).buffers dest)
  pub world : after ≡ shipped size packet before me dest

-- A core takes the first of the packets that come to it from another.
pub record Takes (count : ℕ) (before after : World) : Type 0 where
  pub me : ℕ
  pub from : ℕ
  pub here : me < count
  pub there : from < count
  pub packets : List Packet
  pub under_way : before.transit from me ≡ packets
  pub world : after ≡ taken messages_in before me from packets

abbrev pub Moves : ℕ → World → World → Type 0
Moves count before after = Ships count before after ⊎ Takes count before after
