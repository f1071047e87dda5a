-- The laws of messages in flight, and of what parts see.
use Rattle.std.specs.Prelude.{◌≡◌, ℕ, ◌+◌, ◌<◌, List, length, take, map, Option, Some}
use Rattle.gr_net.specs.Messages.{Letter, Outcome}
use Rattle.gr_net.specs.Sums.{weigh, Each}
use Rattle.gr_net.specs.Worlds.{Core, World, Joining, acted, put_core, shipped, taken, Without}
use Rattle.gr_net.specs.Flights.{flight, AddsUp}
use Rattle.gr_net.specs.Views.{see_outcome, see_core, see_packet, see, IsSeenToJoin}

-- An outcome at a core: what was taken up is in flight no more, and what is sent is.
abbrev pub OutcomesFlow : Type 0 → Type 0 → Type 0 → Type 0 → Type 0
OutcomesFlow State Message Packet Mark = (messages : Packet → List Message) (join : Joining Message) (weight : ℕ → ℕ → Message → ℕ)
    → ((me dest : ℕ) → AddsUp join (weight me dest))
    → (count : ℕ) (world : World State Message Packet) (me : ℕ) → me < count → (core : Core State Message) (got : List (Letter Message)) → Without world me core got
    → (outcome : Outcome State Message Mark) → Each (λ send. send.to < count) outcome.sends
    → flight messages weight count (put_core world me (acted join me core (Some outcome))) + weigh (λ letter. weight letter.from me letter.message) got
    ≡ flight messages weight count world + weigh (λ send. weight me send.to send.message) outcome.sends

-- Shipping and taking leave what is in flight.
abbrev pub ShipsKeepFlight : Type 0 → Type 0 → Type 0 → Type 0
ShipsKeepFlight State Message Packet = (messages : Packet → List Message) (weight : ℕ → ℕ → Message → ℕ) (count : ℕ) (world : World State Message Packet) (me dest : ℕ)
    → me < count → dest < count → (size : ℕ) (packet : Packet) → messages packet ≡ take size ((world.cores me).buffers dest)
    → flight messages weight count (shipped size packet world me dest) ≡ flight messages weight count world

abbrev pub TakesKeepFlight : Type 0 → Type 0 → Type 0 → Type 0
TakesKeepFlight State Message Packet = (messages : Packet → List Message) (weight : ℕ → ℕ → Message → ℕ) (count : ℕ) (world : World State Message Packet) (me from : ℕ)
    → me < count → from < count → (packets : List Packet) → world.transit from me ≡ packets
    → flight messages weight count (taken messages world me from packets) ≡ flight messages weight count world

-- An event, as a part sees it, is the part's own event.
abbrev pub OutcomesAreSeen : Type 0 → Type 0 → Type 0 → Type 0 → Type 0 → Type 0 → Type 0
OutcomesAreSeen State Part Message Seen Packet Mark = (messages : Packet → List Message) (of : State → Part) (pick : Message → Option Seen) (join : Joining Message) (join_seen : Joining Seen)
    → IsSeenToJoin join join_seen pick → (world : World State Message Packet) (me : ℕ) (core : Core State Message) (outcome : Outcome State Message Mark)
    → see messages of pick (put_core world me (acted join me core (Some outcome)))
    ≡ put_core (see messages of pick world) me (acted {Mark = Mark} join_seen me (see_core of pick core) (Some (see_outcome of pick outcome)))

-- A ship is seen as one of the messages that are picked, and a take as one.
abbrev pub ShipsAreSeen : Type 0 → Type 0 → Type 0 → Type 0 → Type 0 → Type 0
ShipsAreSeen State Part Message Seen Packet = (messages : Packet → List Message) (of : State → Part) (pick : Message → Option Seen) (world : World State Message Packet) (me dest size : ℕ) (packet : Packet)
    → messages packet ≡ take size ((world.cores me).buffers dest)
    → see messages of pick (shipped size packet world me dest) ≡ shipped (length (see_packet messages pick packet)) (see_packet messages pick packet) (see messages of pick world) me dest

abbrev pub TakesAreSeen : Type 0 → Type 0 → Type 0 → Type 0 → Type 0 → Type 0
TakesAreSeen State Part Message Seen Packet = (messages : Packet → List Message) (of : State → Part) (pick : Message → Option Seen) (world : World State Message Packet) (me from : ℕ) (packets : List Packet)
    → see messages of pick (taken messages world me from packets) ≡ taken (λ (seen : List Seen). seen) (see messages of pick world) me from (map (see_packet messages pick) packets)
