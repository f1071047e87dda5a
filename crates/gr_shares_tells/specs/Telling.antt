-- What the part of work tells.
use Rattle.std.specs.Prelude.{◌≡◌, ℕ, true, Some}
use Rattle.gr_lang.specs.States.{State}
use Rattle.gr_msg.specs.declared.message.Msg.TheVariants as msg
use Rattle.gr_msg.specs.declared.message.Unit.{Unit as WorkUnit}
use Rattle.gr_machine.specs.Runs.{first_unit}
use Rattle.gr_stands.specs.Worlds.{Given, World, bodies}
use Rattle.gr_stands_calls.specs.Acting.{IsFirstLetter}
use Rattle.gr_stands_events.specs.Laws.{WaitersAreCores}
use Rattle.gr_stands_units.specs.Indices.{UnitTells}

-- At the start of a step of a core: the unit that comes next may be taken up; a unit that comes was asked for; and only cores that there are wait for units.
pub record WorkTells (given : Given) (world : World) (state : State) (me : ℕ) : Type 0 where
  pub units : (work : WorkUnit) → first_unit (bodies world me) ≡ Some work → UnitTells given state work
  pub gifts : (from : ℕ) (work : WorkUnit) → IsFirstLetter given world me from (msg.StealGive work) → (bodies world me).steals.asked from ≡ true
  pub waiters : (core : ℕ) → WaitersAreCores given (bodies world core)
