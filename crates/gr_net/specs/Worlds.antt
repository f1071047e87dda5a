-- Cores that send each other messages, and what sending, shipping and taking does to them. How a message joins a buffer and which messages a packet has
-- are parameters.
use Rattle.std.specs.Prelude.{◌≡◌, ℕ, ◌==◌, if◌then◌else◌, List, [], ◌∷◌, ◌++◌, drop, Option, Some, None}
use Rattle.gr_view.specs.Places.{put}
use Rattle.gr_net.specs.Messages.{Letter, Send, Outcome}

-- A core: its state, the messages that have come to it, and for each other core those that haven't been shipped.
pub record Core (State Message : Type 0) : Type 0 where
  pub body : State
  pub inbox : List (Letter Message)
  pub buffers : ℕ → List Message

-- The cores by number, and the packets that are under way from one to another, the oldest first.
pub record World (State Message Packet : Type 0) : Type 0 where
  pub cores : ℕ → Core State Message
  pub transit : ℕ → ℕ → List Packet

-- How a message joins the messages of a buffer.
abbrev pub Joining : Type 0 → Type 0
Joining Message = List Message → Message → List Message

abbrev pub with_body : {State Message : Type 0} → Core State Message → State → Core State Message
with_body core body = record { body = body; inbox = core.inbox; buffers = core.buffers }

abbrev pub with_inbox : {State Message : Type 0} → Core State Message → List (Letter Message) → Core State Message
with_inbox core inbox = record { body = core.body; inbox = inbox; buffers = core.buffers }

abbrev pub with_buffer : {State Message : Type 0} → Core State Message → ℕ → List Message → Core State Message
with_buffer core dest messages = record { body = core.body; inbox = core.inbox; buffers = put core.buffers dest messages }

-- Messages of one core as letters.
abbrev pub letters : {Message : Type 0} → ℕ → List Message → List (Letter Message)
letters from [] = []
letters from (message ∷ messages) = record { from = from; message = message } ∷ letters from messages

-- The core of this number after it has sent a message: to itself, last into its inbox; to another core, into the buffer.
abbrev pub sent : {State Message : Type 0} → Joining Message → ℕ → Core State Message → Send Message → Core State Message
sent join me core send =
    if send.to == me
    then with_inbox core (core.inbox ++ record { from = me; message = send.message } ∷ [])
    else with_buffer core send.to (join (core.buffers send.to) send.message)

abbrev pub sent_all : {State Message : Type 0} → Joining Message → ℕ → Core State Message → List (Send Message) → Core State Message
sent_all join me core [] = core
sent_all join me core (send ∷ sends) = sent_all join me (sent join me core send) sends

-- The core after an outcome, if there is one.
abbrev pub acted : {State Message Mark : Type 0} → Joining Message → ℕ → Core State Message → Option (Outcome State Message Mark) → Core State Message
acted join me core None = core
acted join me core (Some outcome) = sent_all join me (with_body core outcome.body) outcome.sends

-- The world with another core in the place of one.
abbrev pub put_core : {State Message Packet : Type 0} → World State Message Packet → ℕ → Core State Message → World State Message Packet
put_core world me core = record { cores = put world.cores me core; transit = world.transit }

-- A core ships a packet with the first messages for another, so many.
abbrev pub shipped : {State Message Packet : Type 0} → ℕ → Packet → World State Message Packet → ℕ → ℕ → World State Message Packet
shipped count packet world me dest = record {
  cores = put world.cores me (with_buffer (world.cores me) dest (drop count ((world.cores me).buffers dest)));
  transit = put world.transit me (put (world.transit me) dest (world.transit me dest ++ packet ∷ []));
}

-- A core takes the first of the packets from another; with none nothing changes.
abbrev pub taken : {State Message Packet : Type 0} → (Packet → List Message) → World State Message Packet → ℕ → ℕ → List Packet → World State Message Packet
taken messages world me from [] = world
taken messages world me from (packet ∷ packets) = record {
  cores = put world.cores me (with_inbox (world.cores me) ((world.cores me).inbox ++ letters from (messages packet)));
  transit = put world.transit from (put (world.transit from) me packets);
}

-- The core is that of this number without these first letters.
pub record Without {State Message Packet : Type 0} (world : World State Message Packet) (me : ℕ) (core : Core State Message) (got : List (Letter Message)) : Type 0 where
  pub body : core.body ≡ (world.cores me).body
  pub inbox : (world.cores me).inbox ≡ got ++ core.inbox
  pub buffers : core.buffers ≡ (world.cores me).buffers
