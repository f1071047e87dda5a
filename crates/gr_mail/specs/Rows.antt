-- Worked rows: what was sent after a packet was taken, and after one came back.
use Rattle.std.specs.Prelude.{◌≡◌, ◌∷◌, [], refl}
use Rattle.gr_msg.specs.declared.packet.Packet.{Packet}
use Rattle.gr_mail.specs.declared.mail.Sent.TheVariants.{Back, Taken}
use Rattle.gr_mail.specs.Answers.{after_sending}

first : Packet
first = record { clock = 5; messages = [] }

second : Packet
second = record { clock = 9; messages = [] }

taken : after_sending Taken second (first ∷ []) ≡ (first ∷ second ∷ [])
unfolding first second
taken = refl

came_back : after_sending (Back second) second (first ∷ []) ≡ (first ∷ [])
came_back = refl
