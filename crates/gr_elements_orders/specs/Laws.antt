-- The laws of the order of messages.
use Rattle.std.specs.Prelude.{◌≡◌, ◌⊎◌, ℕ, ◌<◌, List, [], ◌∷◌, take, Some}
use Rattle.gr_net.specs.Messages.{Letter, Outcome}
use Rattle.gr_net.specs.Sums.{weigh}
use Rattle.gr_net.specs.Worlds.{Core, World, Joining, acted, put_core, shipped, taken, Without}
use Rattle.gr_net.specs.Flights.{Everywhere, AddsUp}
use Rattle.gr_elements_orders.specs.Orders.{went, channel, InOrder, OwnAreIn, KeepsOrder}

-- An outcome keeps a channel in order, where what its core sends on it is in order, and nothing late is on it or nothing early is sent.
abbrev pub OutcomesKeepOrder : Type 0 → Type 0 → Type 0 → Type 0 → Type 0
OutcomesKeepOrder State Message Packet Mark = (messages : Packet → List Message) (join : Joining Message) (early late : Message → ℕ)
    → AddsUp join early → AddsUp join late → KeepsOrder join early late
    → (world : World State Message Packet) (me : ℕ) (core : Core State Message) (got : List (Letter Message)) → Without world me core got
    → (outcome : Outcome State Message Mark) → OwnAreIn messages world → (from to : ℕ) → InOrder early late (channel messages world from to)
    → (from ≡ me → InOrder early late (went to outcome.sends)
    × ((weigh late (channel messages world from to) ≡ 0) ⊎ (weigh early (went to outcome.sends) ≡ 0)))
    → InOrder early late (channel messages (put_core world me (acted join me core (Some outcome))) from to)

-- It sends nothing to itself but into its inbox.
abbrev pub OutcomesKeepOwn : Type 0 → Type 0 → Type 0 → Type 0 → Type 0
OutcomesKeepOwn State Message Packet Mark = (messages : Packet → List Message) (join : Joining Message) (world : World State Message Packet)
    (me : ℕ) (core : Core State Message) (got : List (Letter Message)) → Without world me core got
    → (outcome : Outcome State Message Mark) → OwnAreIn messages world → OwnAreIn messages (put_core world me (acted join me core (Some outcome)))

-- A Ship and a Take leave each channel.
abbrev pub ShipsKeepChannels : Type 0 → Type 0 → Type 0 → Type 0
ShipsKeepChannels State Message Packet = (messages : Packet → List Message) (world : World State Message Packet) (me dest size : ℕ) (packet : Packet)
    → messages packet ≡ take size ((world.cores me).buffers dest)
    → (from to : ℕ) → channel messages (shipped size packet world me dest) from to ≡ channel messages world from to

abbrev pub TakesKeepChannels : Type 0 → Type 0 → Type 0 → Type 0
TakesKeepChannels State Message Packet = (messages : Packet → List Message) (world : World State Message Packet) (me source : ℕ) (packets : List Packet)
    → world.transit source me ≡ packets
    → (from to : ℕ) → channel messages (taken messages world me source packets) from to ≡ channel messages world from to

abbrev pub ShipsKeepOwn : Type 0 → Type 0 → Type 0 → Type 0
ShipsKeepOwn State Message Packet = (messages : Packet → List Message) (world : World State Message Packet) (me dest size : ℕ) (packet : Packet)
    → messages packet ≡ take size ((world.cores me).buffers dest)
    → OwnAreIn messages world → OwnAreIn messages (shipped size packet world me dest)

abbrev pub TakesKeepOwn : Type 0 → Type 0 → Type 0 → Type 0
TakesKeepOwn State Message Packet = (messages : Packet → List Message) (world : World State Message Packet) (me source : ℕ) (packets : List Packet)
    → world.transit source me ≡ packets → OwnAreIn messages world → OwnAreIn messages (taken messages world me source packets)

-- Where a late message is taken up from a channel in order, no early one is in flight on it any more.
abbrev pub NoneIsBehind : Type 0 → Type 0 → Type 0 → Type 0
NoneIsBehind State Message Packet = (messages : Packet → List Message) (early late : Message → ℕ) (count : ℕ) (world : World State Message Packet)
    (me : ℕ) (core : Core State Message) (letter : Letter Message) → Without world me core (letter ∷ [])
    → InOrder early late (channel messages world letter.from me) → 0 < late letter.message
    → Everywhere messages (λ from to message. from ≡ letter.from → to ≡ me → early message ≡ 0) count (put_core world me core)
