-- The messages from one core to another, in the order in which they were sent; and when some of them come before others.
use Rattle.std.specs.Prelude.{◌≡◌, ◌⊎◌, ℕ, ◌<◌, ◌==◌, if◌then◌else◌, List, [], ◌∷◌, ◌++◌}
use Rattle.gr_net.specs.Messages.{Letter, Send}
use Rattle.gr_net.specs.Sums.{weigh}
use Rattle.gr_net.specs.Worlds.{World, Joining}

-- The messages of letters that come from a core.
abbrev pub came : {Message : Type 0} → ℕ → List (Letter Message) → List Message
came from [] = []
came from (letter ∷ letters) = if letter.from == from then letter.message ∷ came from letters else came from letters

-- What is sent to a core.
abbrev pub went : {Message : Type 0} → ℕ → List (Send Message) → List Message
went to [] = []
went to (send ∷ sends) = if send.to == to then send.message ∷ went to sends else went to sends

-- The messages of some packets.
abbrev pub unpacked : {Message Packet : Type 0} → (Packet → List Message) → List Packet → List Message
unpacked messages [] = []
unpacked messages (packet ∷ packets) = messages packet ++ unpacked messages packets

-- The messages in flight from one core to another, the oldest first.
abbrev pub channel : {State Message Packet : Type 0} → (Packet → List Message) → World State Message Packet → ℕ → ℕ → List Message
channel messages world from to = came from (world.cores to).inbox ++ (unpacked messages (world.transit from to) ++ (world.cores from).buffers to)

-- No early message stands behind a late one; these are the messages that weigh something.
abbrev pub InOrder : {Message : Type 0} → (Message → ℕ) → (Message → ℕ) → List Message → Type 0
InOrder early late [] = Unit
InOrder early late (message ∷ more) = (0 < late message → weigh early more ≡ 0) × InOrder early late more

-- What a core sends to itself is at once in its inbox.
abbrev pub OwnAreIn : {State Message Packet : Type 0} → (Packet → List Message) → World State Message Packet → Type 0
OwnAreIn messages world = (core : ℕ) → ((world.cores core).buffers core ≡ []) × (unpacked messages (world.transit core core) ≡ [])

-- A message that joins a buffer stands in order behind those that were there.
abbrev pub KeepsOrder : {Message : Type 0} → Joining Message → (Message → ℕ) → (Message → ℕ) → Type 0
KeepsOrder {Message} join early late =
    (xs : List Message) (x : Message) → InOrder early late xs → (weigh late xs ≡ 0) ⊎ (early x ≡ 0) → InOrder early late (join xs x)
