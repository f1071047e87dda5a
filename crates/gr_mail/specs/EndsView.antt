-- The ends of rings that a core has, and the rings that are made.
use Rattle.std.specs.Prelude.{◌≡◌, ◌≢◌, ◌<◌, ℕ, List, [], Option, Some, None, IsSome}
use Rattle.rtrb.specs.Ring.{IsPair, known_free, known_items, producer_capacity, received, sent}
use Rattle.gr_view.specs.Places.{at_place}
use Rattle.gr_mail.specs.declared.mail.TheConstants.{RING_PACKETS}
use Rattle.gr_mail.specs.Ends.{AreBoth, ReceivingEnd, SendingEnd}

-- One end for each other core, and none for the core itself.
pub record AreEnds {X : Type 0} (cores owner : ℕ) (ends : List (Option X)) : Type 0 where
  pub there : (core : ℕ) → core < cores → core ≢ owner → IsSome (at_place None ends core)
  pub own : at_place None ends owner ≡ None

-- Each ring has as much room.
abbrev pub HaveRoom : List (Option SendingEnd) → Type 0
HaveRoom ends = (core : ℕ) (end : SendingEnd) → at_place None ends core ≡ Some end → producer_capacity end ≡ RING_PACKETS

-- The two ends of a ring on which nothing was sent.
pub record IsFresh (sender : SendingEnd) (receiver : ReceivingEnd) : Type 0 where
  pub pair : IsPair sender receiver
  pub sent : sent sender ≡ []
  pub room : producer_capacity sender ≡ RING_PACKETS
  pub free : known_free sender ≡ RING_PACKETS
  pub received : received receiver ≡ []
  pub known : known_items receiver ≡ []

-- The ends of a fresh ring from one core to another, and none from a core to itself.
pub record IsBetween (from to : ℕ) (sender : Option SendingEnd) (receiver : Option ReceivingEnd) : Type 0 where
  pub own : from ≡ to → (sender ≡ None) × (receiver ≡ None)
  pub there : from ≢ to → IsSome sender
  pub ring : AreBoth IsFresh sender receiver
