-- What is seen at one end of a ring. Where a core has no end there is nothing.
use Rattle.std.specs.Prelude.{ℕ, List, [], Option, Some, None}
use Rattle.std.specs.declared.alloc.Global.{Global}
use Rattle.rtrb.specs.Ring.{known_free, known_items, received, sent}
use Rattle.rtrb.specs.declared.AnyItems.{AnyItems}
use Rattle.rtrb.specs.declared.consumer.Consumer.{Consumer}
use Rattle.rtrb.specs.declared.producer.Producer.{Producer}
use Rattle.gr_msg.specs.declared.packet.Packet.{Packet}

-- The end of a ring at which packets are sent.
abbrev pub SendingEnd : Type 0
SendingEnd = Producer Packet Global AnyItems

-- The end of a ring at which packets are received.
abbrev pub ReceivingEnd : Type 0
ReceivingEnd = Consumer Packet Global AnyItems

-- What was sent, the oldest packet first.
abbrev pub sent_on : Option SendingEnd → List Packet
sent_on None = []
sent_on (Some end) = sent end

-- How many slots of the ring are known to be free.
abbrev pub free_on : Option SendingEnd → ℕ
free_on None = 0
free_on (Some end) = known_free end

-- What was received, the oldest packet first.
abbrev pub received_on : Option ReceivingEnd → List Packet
received_on None = []
received_on (Some end) = received end

-- The packets that are known to be in the ring, the next one first.
abbrev pub known_on : Option ReceivingEnd → List Packet
known_on None = []
known_on (Some end) = known_items end

-- Both are there and are so related, or neither is there.
abbrev pub AreBoth : {X Y : Type 0} → (X → Y → Type 0) → Option X → Option Y → Type 0
AreBoth R None None = Unit {0}
AreBoth R None (Some other) = ⊥
AreBoth R (Some one) None = ⊥
AreBoth R (Some one) (Some other) = R one other
