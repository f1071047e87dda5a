-- The laws of what leaves the work of a core, and what is left of each loop.
use Rattle.std.specs.Prelude.{◌≡◌, ℕ, List, [], ◌∷◌, Some}
use Rattle.std.specs.FinMap as fin
use Rattle.gr_lang.specs.declared.action.Action.{Action}
use Rattle.gr_lang.specs.declared.action.Action.TheVariants as action
use Rattle.gr_lang.specs.declared.action.Entry.TheVariants as entry
use Rattle.gr_lang.specs.declared.action.TaskId.{TaskId}
use Rattle.gr_lang.specs.States.{Task, State}
use Rattle.gr_lang.specs.Histories as lang
use Rattle.gr_msg.specs.declared.message.Msg.{Msg}
use Rattle.gr_net.specs.Sums.{Each}
use Rattle.gr_machine.specs.declared.mark.Mark.{Mark}
use Rattle.gr_machine.specs.Machines.{Machine}
use Rattle.gr_machine.specs.States.{Suspended, Body}
use Rattle.gr_machine.specs.Runs.{acts}
use Rattle.gr_machine.specs.Serves.{serves, settles}
use Rattle.gr_machine.specs.Closes.{closes}
use Rattle.gr_machine.specs.Histories.{Sent}
use Rattle.gr_stands.specs.Worlds.{Given}
use Rattle.gr_stands_outcomes.specs.Inner.{outcome_of}
use Rattle.gr_stands_outcomes.specs.Marks.{entries_from}
use Rattle.gr_scopes.specs.Trees.{Names, NamesGrow}
use Rattle.gr_shares.specs.Loops.{LoopsStand, loops_of}
use Rattle.gr_shares_loops.specs.Changes.{ScopesAreThere}
use Rattle.gr_shares_units.specs.Leaving.{IsOfNoShare, LeavesLeft}
use Rattle.gr_shares_rows.specs.Rows.{IsNoLoop, MarksNoIndex, LeavesWork}

-- Run: a ready task acts, and opens no loop.
abbrev pub ActionsLeaveWork : Type 0
ActionsLeaveWork =
    (machine : Machine) (me : ℕ) (body : Body) (slot : ℕ) (task : Suspended) (what : Action)
    → IsNoLoop what → LeavesWork body.work body.steals (acts machine me body slot task what)

-- Serve: a message that carries no chunk, and is no question or answer to one.
abbrev pub MessagesLeaveWork : Type 0
MessagesLeaveWork =
    (machine : Machine) (me from : ℕ) (body : Body) (message : Msg)
    → IsOfNoShare message → LeavesWork body.work body.steals (outcome_of body (serves machine me body from message))

-- Serve: the end of a turn, after any message.
abbrev pub TurnEndsLeaveWork : Type 0
TurnEndsLeaveWork = (machine : Machine) (body : Body) (message : Msg) → LeavesWork body.work body.steals (outcome_of body (settles machine body message))

abbrev pub ClosesLeaveWork : Type 0
ClosesLeaveWork = (machine : Machine) (body : Body) (object : ℕ) → LeavesWork body.work body.steals (closes machine body object)

-- The entries of marks by which no loop is opened and no index begins.
abbrev pub MarksLeaveLoops : Type 0
MarksLeaveLoops =
    (given : Given) (sent : Sent) (names more : Names) (before after : State) (me : ℕ) (marks : List Mark)
    → LoopsStand (loops_of before) → NamesGrow names more → Each MarksNoIndex marks
    → lang.after given.program given.setup.cores given.setup.steps before (entries_from sent me marks) ≡ Some after
    → LeavesLeft names more (loops_of before) (loops_of after)

-- A loop that is opened and passed at once, as one over nothing is.
abbrev pub EmptyLoopsLeaveLoops : Type 0
EmptyLoopsLeaveLoops =
    (given : Given) (names more : Names) (before after : State) (id : TaskId) (task : Task) (lo hi grain target : ℕ) (args : List ℕ)
    → LoopsStand (loops_of before) → NamesGrow names more → ScopesAreThere before
    → fin.get before.tasks id ≡ Some task → task.action ≡ action.Loop lo hi grain target args
    → lang.after given.program given.setup.cores given.setup.steps before (entry.Loop id lo hi grain target args ∷ entry.Pass id ∷ []) ≡ Some after
    → LeavesLeft names more (loops_of before) (loops_of after)
