-- The mail of a core: as it begins, where it lets an event wait, and what an event leaves of it.
use Rattle.std.specs.Prelude.{◌≡◌, ◌++◌, ℕ, Bool, true, false, []}
use mathlib.Core.List.{IsPrefix}
use Rattle.gr_machine.specs.declared.setup.Setup.{Setup}
use Rattle.gr_mail.specs.declared.mail.Mail.{Mail}
use Rattle.gr_mail.specs.Boxes.{IsNew}
use Rattle.gr_mail.specs.Rings.{cores, free_to, known_from, owner, received_from}
use Rattle.gr_machine.specs.declared.event.Event.{Event}
use Rattle.gr_machine.specs.declared.event.Event.TheVariants as event

-- The mail of a core of this number, over which nothing was sent.
pub record IsUnused (setup : Setup) (me : ℕ) (mail : Mail) : Type 0 where
  pub owner : owner mail ≡ me
  pub cores : cores mail ≡ setup.cores
  pub new : IsNew mail

-- No packet that a Take could take is known, or no room for one that a Ship could ship. No other event waits.
abbrev pub HasToWait : Mail → Event → Type 0
HasToWait mail (event.Take from) = known_from mail from ≡ []
HasToWait mail (event.Ship dest) = free_to mail dest ≡ 0
HasToWait mail _ = ⊥

-- An event that wasn't made had to wait.
abbrev pub WaitsUnless : Bool → Mail → Event → Type 0
WaitsUnless true mail what = Unit {0}
WaitsUnless false mail what = HasToWait mail what

-- What was received from each core and what is known to be under way from there only grow together.
abbrev pub NoneForgotten : Mail → Mail → Type 0
NoneForgotten before after = (core : ℕ) → IsPrefix (received_from before core ++ known_from before core) (received_from after core ++ known_from after core)

-- Where nothing was made the same packets and as many free slots are known.
abbrev pub SameKnownUnless : Bool → Mail → Mail → Type 0
SameKnownUnless true before after = Unit {0}
SameKnownUnless false before after = (known_from after ≡ known_from before) × (free_to after ≡ free_to before)
