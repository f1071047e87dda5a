-- What a part sees of a world: something of each state, and some of the messages.
use Rattle.std.specs.Prelude.{◌≡◌, ℕ, List, [], ◌∷◌, map, Option, Some, None}
use Rattle.gr_net.specs.Messages.{Letter, Send, Outcome}
use Rattle.gr_net.specs.Worlds.{Core, World, Joining}

abbrev pub keep : {X : Type 0} → Option X → List X → List X
keep None xs = xs
keep (Some x) xs = x ∷ xs

-- What is picked of some messages.
abbrev pub picked : {Message Seen : Type 0} → (Message → Option Seen) → List Message → List Seen
picked pick [] = []
picked pick (message ∷ messages) = keep (pick message) (picked pick messages)

abbrev pub letter_of : {Seen : Type 0} → ℕ → Option Seen → Option (Letter Seen)
letter_of from None = None
letter_of from (Some message) = Some (record { from = from; message = message })

abbrev pub send_of : {Seen : Type 0} → ℕ → Option Seen → Option (Send Seen)
send_of to None = None
send_of to (Some message) = Some (record { to = to; message = message })

-- What is picked of letters, and of messages that are sent.
abbrev pub see_letters : {Message Seen : Type 0} → (Message → Option Seen) → List (Letter Message) → List (Letter Seen)
see_letters pick [] = []
see_letters pick (letter ∷ letters) = keep (letter_of letter.from (pick letter.message)) (see_letters pick letters)

abbrev pub see_sends : {Message Seen : Type 0} → (Message → Option Seen) → List (Send Message) → List (Send Seen)
see_sends pick [] = []
see_sends pick (send ∷ sends) = keep (send_of send.to (pick send.message)) (see_sends pick sends)

-- What is seen of a core, of an outcome and of a world. A packet is seen as the messages that are picked of it.
abbrev pub see_core : {State Part Message Seen : Type 0} → (State → Part) → (Message → Option Seen) → Core State Message → Core Part Seen
see_core of pick core = record { body = of core.body; inbox = see_letters pick core.inbox; buffers = λ dest. picked pick (core.buffers dest) }

abbrev pub see_outcome : {State Part Message Seen Mark Other : Type 0} → (State → Part) → (Message → Option Seen) → Outcome State Message Mark → Outcome Part Seen Other
see_outcome of pick outcome = record { body = of outcome.body; sends = see_sends pick outcome.sends; marks = [] }

abbrev pub see_packet : {Message Seen Packet : Type 0} → (Packet → List Message) → (Message → Option Seen) → Packet → List Seen
see_packet messages pick packet = picked pick (messages packet)

abbrev pub see : {State Part Message Seen Packet : Type 0} → (Packet → List Message) → (State → Part) → (Message → Option Seen) → World State Message Packet → World Part Seen (List Seen)
see messages of pick world = record {
  cores = λ me. see_core of pick (world.cores me);
  transit = λ me dest. map (see_packet messages pick) (world.transit me dest);
}

-- A buffer with one more message, if there is one.
abbrev pub joined_by : {Seen : Type 0} → Joining Seen → List Seen → Option Seen → List Seen
joined_by join seen None = seen
joined_by join seen (Some message) = join seen message

-- What joins a buffer is seen to join what is seen of it.
abbrev pub IsSeenToJoin : {Message Seen : Type 0} → Joining Message → Joining Seen → (Message → Option Seen) → Type 0
IsSeenToJoin {Message} join join_seen pick = (xs : List Message) (x : Message) → picked pick (join xs x) ≡ joined_by join_seen (picked pick xs) (pick x)
