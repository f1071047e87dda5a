-- The mails of all cores when they are made.
use Rattle.std.specs.Prelude.{◌≡◌, ◌≢◌, ◌<◌, ℕ, List, [], length, slice_index_or}
use Rattle.gr_mail.specs.declared.mail.Mail.{Mail}
use Rattle.gr_mail.specs.declared.mail.TheConstants.{RING_PACKETS}
use Rattle.gr_mail.specs.Rings.{AreJoined, IsOther, cores, free_to, known_from, owner, received_from, sent_to}

-- Nothing was sent or received, nothing is in a ring, and all slots are known to be free.
pub record IsNew (mail : Mail) : Type 0 where
  pub sent : sent_to mail ≡ (λ core. [])
  pub free : (core : ℕ) → IsOther mail core → free_to mail core ≡ RING_PACKETS
  pub received : received_from mail ≡ (λ core. [])
  pub known : known_from mail ≡ (λ core. [])

-- The new mails of so many cores, in their order, each two of them with a ring each way.
pub record AreMailboxes (count : ℕ) (mails : List Mail) : Type 0 where
  pub len : length mails ≡ count
  pub owner : (core : ℕ) (default : Mail) → core < count → owner (slice_index_or mails core default) ≡ core
  pub cores : (core : ℕ) (default : Mail) → core < count → cores (slice_index_or mails core default) ≡ count
  pub new : (core : ℕ) (default : Mail) → core < count → IsNew (slice_index_or mails core default)
  pub joined : (one other : ℕ) (default : Mail) → one < count → other < count → one ≢ other
      → AreJoined (slice_index_or mails one default) (slice_index_or mails other default)
