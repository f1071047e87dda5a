-- The mail of a core by the numbers of the other cores: what was sent and received, and what is known of each ring.
use Rattle.std.specs.Prelude.{◌≡◌, ◌≢◌, ◌+◌, ◌<◌, ◌≤◌, ◌++◌, ℕ, List, None, length, vec_len}
use Rattle.rtrb.specs.Ring.{IsPair, SameConsumer, SameProducer}
use Rattle.gr_msg.specs.declared.packet.Packet.{Packet}
use Rattle.gr_view.specs.Places.{at_place, put}
use mathlib.Core.List.{IsPrefix}
use Rattle.gr_mail.specs.declared.mail.Mail.{Mail}
use Rattle.gr_mail.specs.declared.mail.TheConstants.{RING_PACKETS}
use Rattle.gr_mail.specs.Ends.{AreBoth, free_on, known_on, received_on, sent_on}

-- The core whose mail it is.
abbrev pub owner : Mail → ℕ
owner mail = mail.owner

-- The number of cores.
abbrev pub cores : Mail → ℕ
cores mail = vec_len mail.outs

-- Another core of the same mailboxes.
abbrev pub IsOther : Mail → ℕ → Type 0
IsOther mail core = (core < cores mail) × (core ≢ owner mail)

-- What was sent to each core, the oldest packet first.
abbrev pub sent_to : Mail → ℕ → List Packet
sent_to mail core = sent_on (at_place None mail.outs.items core)

-- How many slots of the ring to each core are known to be free.
abbrev pub free_to : Mail → ℕ → ℕ
free_to mail core = free_on (at_place None mail.outs.items core)

-- What was received from each core, the oldest packet first.
abbrev pub received_from : Mail → ℕ → List Packet
received_from mail core = received_on (at_place None mail.ins.items core)

-- The packets that are known to be in the ring from each core, the next one first.
abbrev pub known_from : Mail → ℕ → List Packet
known_from mail core = known_on (at_place None mail.ins.items core)

-- Nothing was sent, and as many slots are known to be free.
abbrev pub SameSent : Mail → Mail → Type 0
SameSent before after = (sent_to after ≡ sent_to before) × (free_to after ≡ free_to before)

-- Nothing was received, and the same packets are known.
abbrev pub SameReceived : Mail → Mail → Type 0
SameReceived before after = (received_from after ≡ received_from before) × (known_from after ≡ known_from before)

-- The mail of the same core, whose ends are those of the same rings.
pub record SameRings (before after : Mail) : Type 0 where
  pub owner : owner after ≡ owner before
  pub cores : cores after ≡ cores before
  pub outs : (core : ℕ) → AreBoth SameProducer (at_place None before.outs.items core) (at_place None after.outs.items core)
  pub ins : (core : ℕ) → AreBoth SameConsumer (at_place None before.ins.items core) (at_place None after.ins.items core)

-- The first has the sending end of a ring, and the second has its receiving end.
abbrev pub RingFrom : Mail → Mail → Type 0
RingFrom one other = AreBoth IsPair (at_place None one.outs.items (owner other)) (at_place None other.ins.items (owner one))

-- Two cores of the same mailboxes, with a ring each way.
pub record AreJoined (one other : Mail) : Type 0 where
  pub differ : owner one ≢ owner other
  pub cores : cores one ≡ cores other
  pub there : RingFrom one other
  pub back : RingFrom other one

-- Nothing was sent or received, and no packet or free slot that was known is forgotten. Nothing has changed but what is known of the rings between this core and that one.
pub record LookedAt (core : ℕ) (before after : Mail) : Type 0 where
  pub rings : SameRings before after
  pub sent : sent_to after ≡ sent_to before
  pub received : received_from after ≡ received_from before
  pub free : free_to after ≡ put (free_to before) core (free_to after core)
  pub known : known_from after ≡ put (known_from before) core (known_from after core)
  pub no_fewer : free_to before core ≤ free_to after core
  pub still : IsPrefix (known_from before core) (known_from after core)

-- On the ring from one core to another, what was received and what is known are together what was sent, and each slot that holds no packet is known to be free.
pub record HaveMet (one other : Mail) : Type 0 where
  pub known : received_from other (owner one) ++ known_from other (owner one) ≡ sent_to one (owner other)
  pub free : RING_PACKETS ≤ free_to one (owner other) + length (known_from other (owner one))
