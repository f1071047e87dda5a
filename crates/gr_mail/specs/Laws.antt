-- The laws of mails: rings give packets in the order in which they were sent, and stay the rings of their two cores.
use Rattle.std.specs.Prelude.{◌≡◌, ◌++◌, ◌∷◌, [], ℕ}
use mathlib.Core.List.{IsPrefix}
use Rattle.gr_msg.specs.declared.packet.Packet.{Packet}
use Rattle.gr_mail.specs.declared.mail.Mail.{Mail}
use Rattle.gr_mail.specs.Rings.{AreJoined, HaveMet, SameRings, known_from, owner, received_from, sent_to}

-- Once two cores have met, what one of them has received from the other is the first of what was sent to it.
abbrev pub ReceivedIsSent : Type 0
ReceivedIsSent = (one other : Mail) → HaveMet one other → IsPrefix (received_from other (owner one)) (sent_to one (owner other))

-- A packet that is taken comes before those that are known after it, so what was received and what is known only grow together.
abbrev pub KnownIsReceived : Type 0
KnownIsReceived = (before after : Mail) (from : ℕ) (packet : Packet) → received_from after from ≡ received_from before from ++ packet ∷ []
    → IsPrefix (known_from before from) (packet ∷ known_from after from)
    → IsPrefix (received_from before from ++ known_from before from) (received_from after from ++ known_from after from)

-- Two cores of the same mailboxes are that after all calls.
abbrev pub JoinedStay : Type 0
JoinedStay = (one other later another : Mail) → SameRings one later → SameRings other another → AreJoined one other → AreJoined later another
