-- The laws of where words are, whatever happens.
use Rattle.std.specs.Prelude.{ℕ, List, [], Option, None}
use Rattle.gr_vector.specs.declared.ends.Ends.{Ends}
use Rattle.gr_net.specs.Flights.{Everywhere}
use Rattle.gr_view.specs.Places.{put}
use Rattle.gr_machine.specs.States.{Letter}
use Rattle.gr_machine.specs.Outcomes.{Outcome}
use Rattle.gr_machine.specs.GlobalRuns.{opening_world}
use Rattle.gr_machine.specs.Nets.{world_in, messages_in}
use Rattle.gr_stands.specs.Worlds.{Given, machine_in, World, bodies, Acts, Moves}
use Rattle.gr_lines_turns.specs.Tokens.{turn_at}
use Rattle.gr_elements_orders.specs.Orders.{OwnAreIn}
use Rattle.gr_elements.specs.Elements.{ElementFits, ElementsStand}
use Rattle.gr_elements.specs.ElementActs.{ElementsAct, LeavesElements}

-- An outcome that does what is asked of it keeps the elements of a vector. Where another core has the turn, or other words are held, messages of elements that
-- are in flight must fit that.
abbrev pub ElementsAreKept : Type 0
ElementsAreKept =
    (given : Given) (world after : World) (number me : ℕ) (got : List Letter) (outcome : Outcome)
    (ends : Ends) (words : List ℕ) (held : ℕ → Option ℕ) (next : Ends) (more : List ℕ) (now : ℕ → Option ℕ)
    → Acts given.setup.cores world after me got outcome → OwnAreIn messages_in world → ElementsAct given world number me got outcome held next more now
    → (Everywhere messages_in (ElementFits given number (turn_at number (bodies world)) held) given.setup.cores world
    → Everywhere messages_in (ElementFits given number (turn_at number (put (bodies world) me outcome.body)) now) given.setup.cores world)
    → ElementsStand given world number ends words held → ElementsStand given after number next more now

-- So does an outcome that leaves them.
abbrev pub OthersKeepElements : Type 0
OthersKeepElements =
    (given : Given) (world after : World) (number me : ℕ) (got : List Letter) (outcome : Outcome) (ends : Ends) (words : List ℕ) (held : ℕ → Option ℕ)
    → Acts given.setup.cores world after me got outcome → OwnAreIn messages_in world → LeavesElements number (bodies world me) got outcome
    → ElementsStand given world number ends words held → ElementsStand given after number ends words held

-- A Ship and a Take keep all.
abbrev pub MovesKeepElements : Type 0
MovesKeepElements =
    (given : Given) (world after : World) (number : ℕ) (ends : Ends) (words : List ℕ) (held : ℕ → Option ℕ)
    → Moves given.setup.cores world after → ElementsStand given world number ends words held → ElementsStand given after number ends words held

-- What a core sends to itself is at once in its inbox, whatever happens.
abbrev pub OutcomesKeepOwn : Type 0
OutcomesKeepOwn =
    (given : Given) (world after : World) (me : ℕ) (got : List Letter) (outcome : Outcome)
    → Acts given.setup.cores world after me got outcome → OwnAreIn messages_in world → OwnAreIn messages_in after

abbrev pub MovesKeepOwn : Type 0
MovesKeepOwn = (given : Given) (world after : World) → Moves given.setup.cores world after → OwnAreIn messages_in world → OwnAreIn messages_in after

-- Before the first step no vector has words.
abbrev pub OpeningsHaveElements : Type 0
OpeningsHaveElements =
    (given : Given) (slot number : ℕ) → ElementsStand given (world_in (opening_world (machine_in given) slot)) number (record { head = 0; tail = 0 }) [] (λ position. None)

abbrev pub OpeningsHaveOwn : Type 0
OpeningsHaveOwn = (given : Given) (slot : ℕ) → OwnAreIn messages_in (world_in (opening_world (machine_in given) slot))
