-- While no element of a vector is in flight, no message of one is, whatever it would have to fit.
use Rattle.std.proofs.Common.{◌≡◌, ℕ, zero, ◌<◌, List, refl, ◌∙◌, Option}
use Rattle.gr_msg.specs.declared.message.Msg.{Msg}
use Rattle.gr_net.specs.Sums.{weigh, Each}
use Rattle.gr_net.specs.Flights.{Everywhere}
use Rattle.gr_net.proofs.Spreads.{weigh_none, Each-map}
use Rattle.gr_net.proofs.Flights.{every_with, every_zero, flight_none}
use Rattle.gr_machine.specs.Nets.{messages_in}
use Rattle.gr_stands.specs.Worlds.{Given, World, Weight, in_flight}
use Rattle.gr_elements_orders.specs.Orders.{channel}
use Rattle.gr_elements_orders.proofs.Lists.{every_on}
use Rattle.gr_elements.specs.Weights.{elements, putting, getting, carrying, is_get}
use Rattle.gr_elements.specs.Elements.{ElementFits}
use Rattle.gr_elements.specs.ElementActs.{IsOfNoElement}
use Rattle.gr_elements.proofs.Weights.{no_element, get_off, fits_off}

module _ (given : Given) (w : World) (number : ℕ) (none : in_flight (elements number) given.setup.cores w ≡ 0) where
  abbrev n : ℕ
  n = given.setup.cores

  abbrev Zero : ℕ → ℕ → Msg → Type 0
  Zero from to m = elements number from to m ≡ 0

  zeros : Everywhere messages_in Zero n w
  zeros = every_zero messages_in (elements number) n w none

  -- So each weight of elements is nothing.
  pub nothing_flies : (h : Weight) → ((from to : ℕ) (m : Msg) → IsOfNoElement number m → h from to m ≡ 0) → in_flight h n w ≡ 0
  nothing_flies h off = flight_none messages_in h n w
      (every_with messages_in Zero Zero (λ from to m. h from to m ≡ 0) n w (λ from to m z q. off from to m (no_element number from to m z)) zeros zeros)

  pub all_fit : (turns : ℕ → ℕ) (held : ℕ → Option ℕ) → Everywhere messages_in (ElementFits given number turns held) n w
  all_fit turns held = every_with messages_in Zero Zero (ElementFits given number turns held) n w (λ from to m z q. fits_off given number turns held from to m (no_element number from to m z)) zeros zeros

  pub no_get_before : (me to : ℕ) → me < n → to < n → weigh (is_get number) (channel messages_in w me to) ≡ 0
  no_get_before me to here there = weigh_none (is_get number) (channel messages_in w me to)
      (Each-map (Zero me to) (λ m. is_get number m ≡ 0) (λ m z. get_off number m (no_element number me to m z)) (channel messages_in w me to) (every_on messages_in Zero n w me to here there zeros))
