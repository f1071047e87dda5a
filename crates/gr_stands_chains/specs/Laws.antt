-- The laws of outcomes one after another in one event, and of the senders of messages.
use Rattle.std.specs.Prelude.{◌≡◌, ℕ, ◌<◌, List, [], Option, Some}
use Rattle.gr_lang.specs.States.{State}
use Rattle.gr_msg.specs.declared.message.Msg.{Msg}
use Rattle.gr_view.specs.Places.{put}
use Rattle.gr_net.specs.Worlds.{Without}
use Rattle.gr_machine.specs.States.{Letter}
use Rattle.gr_machine.specs.Outcomes.{Outcome, followed}
use Rattle.gr_machine.specs.GlobalRuns.{opening_world}
use Rattle.gr_machine.specs.Nets.{world_in}
use Rattle.gr_stands.specs.Worlds.{Given, machine_in, Core, World, bodies, Acts, Moves}
use Rattle.gr_stands.specs.Memory.{SameMemory}
use Rattle.gr_stands.specs.Stands.{Stands}
use Rattle.gr_stands_calls.specs.Acting.{IsFirstLetter, Keeps, ActsQuietly, ActsWithEntry}
use Rattle.gr_stands_chains.specs.Chains.{ActsWithEntries, SendersStand}

-- An outcome keeps the parts; and so does another one in each world that stands after it, which has its body at the core. Then both do, one after the other.
abbrev pub OutcomesFollowOn : Type 0
OutcomesFollowOn =
    (given : Given) (world : World) (me : ℕ) (got : List Letter) (first second : Outcome) (middle after : State)
    → Keeps given world me got first middle
    → ((between : World) → bodies between ≡ put (bodies world) me first.body → Stands given between middle → Keeps given between me [] second after)
    → Keeps given world me got (followed first second) after

-- What acts with no mark, or with one entry, acts with entries.
abbrev pub QuietOutcomesAct : Type 0
QuietOutcomesAct =
    (given : Given) (world : World) (state : State) (me : ℕ) (got : List Letter) (made : Option Outcome)
    → ActsQuietly given world state me got made → ActsWithEntries given world state me got made

abbrev pub EntriesAct : Type 0
EntriesAct =
    (given : Given) (world : World) (state : State) (me : ℕ) (got : List Letter) (made : Option Outcome)
    → ActsWithEntry given world state me got made → ActsWithEntries given world state me got made

-- Where an outcome acts with entries, and in each world after it another one does, both act with the entries of both.
abbrev pub ActionsFollow : Type 0
ActionsFollow =
    (given : Given) (world : World) (state : State) (me : ℕ) (got : List Letter) (core : Core) (first second : Outcome)
    → me < given.setup.cores → Without world me core got
    → (row : ActsWithEntries given world state me got (Some first))
    → ((between : World) → bodies between ≡ put (bodies world) me first.body → Stands given between row.next → ActsWithEntries given between row.next me [] (Some second))
    → ActsWithEntries given world state me got (Some (followed first second))

-- A world that stands for a state stands for each with the same tasks and the same memory.
abbrev pub SameTasksStand : Type 0
SameTasksStand =
    (given : Given) (world : World) (state other : State) → other.tasks ≡ state.tasks → SameMemory state.objects other.objects
    → Stands given world state → Stands given world other

-- Senders: there is no message at the start; an outcome at a core, a Ship and a Take keep them cores, and so the first letter of a core comes from one.
abbrev pub SendersOpen : Type 0
SendersOpen = (given : Given) (slot : ℕ) → SendersStand given (world_in (opening_world (machine_in given) slot))

abbrev pub SendersStay : Type 0
SendersStay =
    (given : Given) (before after : World) (me : ℕ) (got : List Letter) (outcome : Outcome)
    → Acts given.setup.cores before after me got outcome → SendersStand given before → SendersStand given after

abbrev pub SendersMove : Type 0
SendersMove = (given : Given) (before after : World) → Moves given.setup.cores before after → SendersStand given before → SendersStand given after

abbrev pub FirstsHaveSenders : Type 0
FirstsHaveSenders =
    (given : Given) (world : World) (me from : ℕ) (message : Msg) → SendersStand given world → IsFirstLetter given world me from message → from < given.setup.cores
