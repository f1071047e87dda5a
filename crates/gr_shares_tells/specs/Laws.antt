-- The laws of what the part of work tells.
use Rattle.std.specs.Prelude.{◌≡◌, ℕ, ◌+◌, ◌<◌, ◌≤◌, true, List, [], ◌∷◌, Some}
use Rattle.gr_lang.specs.States.{State}
use Rattle.gr_msg.specs.declared.message.Msg.TheVariants as msg
use Rattle.gr_msg.specs.declared.message.Unit.{Unit as WorkUnit}
use Rattle.gr_machine.specs.Outcomes.{to}
use Rattle.gr_machine.specs.Runs.{first_unit, without_unit, is_sound, taken_up, run_unit, slots_of, slots_for}
use Rattle.gr_machine.specs.ScopeServes.{waits_here}
use Rattle.gr_machine.specs.Events.{gives}
use Rattle.gr_stands.specs.Worlds.{Given, machine_in, World, bodies, in_flight}
use Rattle.gr_stands.specs.Calls.{times}
use Rattle.gr_stands.specs.Stands.{Stands}
use Rattle.gr_scopes.specs.Trees.{Names}
use Rattle.gr_scopes_finished.specs.Counted.{IndicesTell}
use Rattle.gr_shares.specs.Loops.{Loops, loops_of}
use Rattle.gr_shares.specs.Shares.{is_question, SharesHold, SharesStand}
use Rattle.gr_shares_ranges.specs.Ranges.{RangesStand}
use Rattle.gr_shares_tells.specs.Telling.{WorkTells}

abbrev pub WorkTellsSteps : Type 0
WorkTellsSteps =
    (given : Given) (names : Names) (world : World) (state : State) (me : ℕ)
    → SharesHold given names world (loops_of state) → me < given.setup.cores → WorkTells given world state me

-- Each index not begun of a loop is in a chunk of the loop's scope. So none is left where no core counts one.
abbrev pub WorkTellsScopes : Type 0
WorkTellsScopes =
    (given : Given) (names : Names) (world : World) (state : State)
    → SharesHold given names world (loops_of state) → RangesStand state → IndicesTell given names world state

-- The unit that comes next is one that may be taken up. So it is never dropped.
abbrev pub UnitsAreSound : Type 0
UnitsAreSound =
    (given : Given) (names : Names) (world : World) (state : State) (me slot : ℕ) (work : WorkUnit)
    → Stands given world state → SharesHold given names world (loops_of state) → me < given.setup.cores → first_unit (bodies world me) ≡ Some work
    → (is_sound (machine_in given) work ≡ true)
    × (run_unit (machine_in given) me (without_unit (bodies world me)) slot (first_unit (bodies world me))
    ≡ Some (taken_up (machine_in given) me (without_unit (bodies world me)) slot work))

-- It gets one slot for a task that starts, and none where it is split.
abbrev pub UnitsTakeTheirSlots : Type 0
UnitsTakeTheirSlots =
    (given : Given) (names : Names) (world : World) (state : State) (me : ℕ) (work : WorkUnit)
    → Stands given world state → SharesHold given names world (loops_of state) → me < given.setup.cores → first_unit (bodies world me) ≡ Some work
    → slots_for (machine_in given) (first_unit (bodies world me)) ≡ slots_of work

-- The questions of one core to another that are in flight, with those that wait there and the answers in flight.
abbrev pub QuestionsAreSingle : Type 0
QuestionsAreSingle =
    (given : Given) (names : Names) (world : World) (loops : Loops) (asker victim : ℕ) → SharesHold given names world loops
    → in_flight (is_question asker victim) given.setup.cores world + times asker (bodies world victim).steals.waiting ≤ 1

-- A question that is served while the core has units that others may take is answered in the same event, with the first of them.
abbrev pub UnitsAreGivenAtOnce : Type 0
UnitsAreGivenAtOnce =
    (given : Given) (names : Names) (world : World) (loops : Loops) (me from : ℕ) (first : WorkUnit) (more : List WorkUnit)
    → SharesStand given names world loops → (bodies world me).work.public ≡ first ∷ more
    → ((gives (waits_here (bodies world me) from).body).sends ≡ to from (msg.StealGive first))
    × ((gives (waits_here (bodies world me) from).body).body.steals.waiting ≡ [])
