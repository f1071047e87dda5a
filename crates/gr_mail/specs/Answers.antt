-- What it says that a packet was taken by a ring, or came back.
use Rattle.std.specs.Prelude.{List, [], ◌∷◌, ◌++◌}
use Rattle.gr_msg.specs.declared.packet.Packet.{Packet}
use Rattle.gr_mail.specs.declared.mail.Sent.{Sent}
use Rattle.gr_mail.specs.declared.mail.Sent.TheVariants.{Back, Taken}

-- The packet was taken.
abbrev pub IsTaken : Sent → Type 0
IsTaken Taken = Unit {0}
IsTaken (Back packet) = ⊥

-- If a packet came back, this is true of it.
abbrev pub IsBack : Sent → (Packet → Type 0) → Type 0
IsBack Taken P = Unit {0}
IsBack (Back packet) P = P packet

-- What was sent: these packets, and then the one that was taken.
abbrev pub after_sending : Sent → Packet → List Packet → List Packet
after_sending Taken packet packets = packets ++ packet ∷ []
after_sending (Back returned) packet packets = packets
