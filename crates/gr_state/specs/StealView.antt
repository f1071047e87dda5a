-- What a `Steals` keeps, as the cores that are asked and those that wait.
use Rattle.std.specs.Prelude.{ℕ, Bool, false, List}
use Rattle.gr_view.specs.Places.{at_place}
use Rattle.gr_machine.specs.States.{Steals}

-- Whether each core is asked, in the order of the cores, and the cores that wait.
pub record StealsData : Type 0 where
  pub asked : List Bool
  pub waiting : List ℕ

abbrev pub steals_in : StealsData → Steals
steals_in kept = record { asked = at_place false kept.asked; waiting = kept.waiting }
