-- The laws of tasks that stand alone.
use Rattle.std.specs.Prelude.{◌≡◌, ℕ, ◌<◌, List, Some}
use Rattle.gr_lang.specs.declared.action.WaitingCall.{WaitingCall}
use Rattle.gr_lang.specs.States.{State}
use Rattle.gr_net.specs.Sums.{Each}
use Rattle.gr_net.specs.Flights.{Everywhere}
use Rattle.gr_machine.specs.States.{Suspended}
use Rattle.gr_machine.specs.Nets.{messages_in}
use Rattle.gr_stands.specs.Worlds.{Given, World, bodies}
use Rattle.gr_stands.specs.Calls.{CallsStand}
use Rattle.gr_stands_wakes.specs.Alone.{StandsAlone, AreInSlots, StandAlone, IsInNoSlot, CarriesNoSlot}

-- The task of a slot stands there alone.
abbrev pub TasksStandAlone : Type 0
TasksStandAlone =
    (given : Given) (world : World) (state : State) (core slot : ℕ) (task : Suspended)
    → CallsStand given world state → (bodies world core).tasks.slots slot ≡ Some task → StandsAlone given world state core slot task.id

-- Two slots with tasks of one name are one slot.
abbrev pub SlotsOfOneNameAreOne : Type 0
SlotsOfOneNameAreOne =
    (given : Given) (world : World) (state : State) (core slot one number : ℕ) (task same : Suspended)
    → CallsStand given world state → (bodies world core).tasks.slots slot ≡ Some task → (bodies world one).tasks.slots number ≡ Some same
    → same.id ≡ task.id → (one ≡ core) × (number ≡ slot)

-- No unit, at a core or in a message, is the task of a slot.
abbrev pub UnitsAreInNoSlot : Type 0
UnitsAreInNoSlot =
    (given : Given) (world : World) (state : State) → CallsStand given world state
    → ((core : ℕ) → core < given.setup.cores → Each (IsInNoSlot world) (bodies world core).work.private × Each (IsInNoSlot world) (bodies world core).work.public)
    × Everywhere messages_in (λ from to message. CarriesNoSlot world message) given.setup.cores world

-- The tasks of some calls in slots of a core stand there alone.
abbrev pub CallersStandAlone : Type 0
CallersStandAlone =
    (given : Given) (world : World) (state : State) (core : ℕ) (calls : List WaitingCall)
    → CallsStand given world state → AreInSlots (bodies world core) calls → StandAlone given world core calls
