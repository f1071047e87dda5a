-- Outcomes that leave several entries, and outcomes one after another; and that each message comes from a core.
use Rattle.std.specs.Prelude.{◌≡◌, ℕ, ◌<◌, List, map, Option, Some}
use Rattle.gr_lang.specs.declared.action.Entry.{Entry}
use Rattle.gr_lang.specs.States.{State}
use Rattle.gr_lang.specs.Histories.{after}
use Rattle.gr_net.specs.Sums.{Each}
use Rattle.gr_net.specs.Flights.{Everywhere}
use Rattle.gr_machine.specs.declared.mark.Mark.{Mark}
use Rattle.gr_machine.specs.declared.mark.Mark.TheVariants as mark
use Rattle.gr_machine.specs.States.{Letter}
use Rattle.gr_machine.specs.Outcomes.{Outcome}
use Rattle.gr_machine.specs.Nets.{messages_in}
use Rattle.gr_stands.specs.Worlds.{Given, World}
use Rattle.gr_stands_calls.specs.Acting.{Keeps}

-- Entries as marks.
abbrev pub marks_of : List Entry → List Mark
marks_of = map mark.Entry

-- What is made acts; it sends to cores that there are, and its marks are entries that lead to the plain state for which the world stands then.
pub record ActsWithEntries (given : Given) (world : World) (state : State) (me : ℕ) (got : List Letter) (made : Option Outcome) : Type 0 where
  pub outcome : Outcome
  pub acts : made ≡ Some outcome
  pub sends : Each (λ send. send.to < given.setup.cores) outcome.sends
  pub entries : List Entry
  pub marks : outcome.marks ≡ marks_of entries
  pub next : State
  pub leads : after given.program given.setup.cores given.setup.steps state entries ≡ Some next
  pub keeps : Keeps given world me got outcome next

-- Each message in flight comes from a core that there is.
abbrev pub SendersStand : Given → World → Type 0
SendersStand given world = Everywhere messages_in (λ from to message. from < given.setup.cores) given.setup.cores world
