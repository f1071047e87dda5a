-- The messages in flight, in an inbox, a buffer or a packet: what they weigh together, and facts of each.
use Rattle.std.specs.Prelude.{◌≡◌, ℕ, ◌+◌, ◌<◌, List}
use Rattle.gr_net.specs.Sums.{total, weigh, Each}
use Rattle.gr_net.specs.Worlds.{Core, World, Joining}

-- What a message weighs, by the core that sent it and the core that gets it.
abbrev pub Weight : Type 0 → Type 0
Weight Message = ℕ → ℕ → Message → ℕ

-- The messages at a core, of so many.
abbrev pub core_flight : {State Message : Type 0} → Weight Message → ℕ → ℕ → Core State Message → ℕ
core_flight weight count me core = weigh (λ letter. weight letter.from me letter.message) core.inbox + total count (λ dest. weigh (weight me dest) (core.buffers dest))

-- The messages in packets from a core.
abbrev pub ring_flight : {Message Packet : Type 0} → (Packet → List Message) → Weight Message → ℕ → ℕ → (ℕ → List Packet) → ℕ
ring_flight messages weight count me rings = total count (λ dest. weigh (λ packet. weigh (weight me dest) (messages packet)) (rings dest))

-- All messages in flight.
unfoldable pub flight : {State Message Packet : Type 0} → (Packet → List Message) → Weight Message → ℕ → World State Message Packet → ℕ
flight messages weight count world =
    total count (λ me. core_flight weight count me (world.cores me)) + total count (λ me. ring_flight messages weight count me (world.transit me))

-- A fact of each message in flight.
pub record Everywhere {State Message Packet : Type 0} (messages : Packet → List Message) (Fact : ℕ → ℕ → Message → Type 0) (count : ℕ) (world : World State Message Packet) : Type 0 where
  pub inboxes : (me : ℕ) → me < count → Each (λ letter. Fact letter.from me letter.message) (world.cores me).inbox
  pub buffers : (me dest : ℕ) → me < count → dest < count → Each (Fact me dest) ((world.cores me).buffers dest)
  pub transits : (me dest : ℕ) → me < count → dest < count → Each (λ packet. Each (Fact me dest) (messages packet)) (world.transit me dest)

-- Where messages that join a buffer add up: so does a weight, and so does a fact.
abbrev pub AddsUp : {Message : Type 0} → Joining Message → (Message → ℕ) → Type 0
AddsUp {Message} join weight = (xs : List Message) (x : Message) → weigh weight (join xs x) ≡ weigh weight xs + weight x

abbrev pub KeepsFact : {Message : Type 0} → Joining Message → (Message → Type 0) → Type 0
KeepsFact {Message} join Fact = (xs : List Message) (x : Message) → Each Fact xs → Fact x → Each Fact (join xs x)
