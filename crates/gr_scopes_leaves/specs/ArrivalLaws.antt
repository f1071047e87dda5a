-- The law of tasks that arrive at the end of a finish: they wait there, or pass at once.
use Rattle.std.specs.Prelude.{◌≡◌, ◌⊎◌, ℕ, List, []}
use Rattle.gr_lang.specs.declared.action.Action.TheVariants as action
use Rattle.gr_lang.specs.declared.action.Entry.TheVariants as entry
use Rattle.gr_lang.specs.States.{State}
use Rattle.gr_machine.specs.States.{Suspended}
use Rattle.gr_machine.specs.Outcomes.{Outcome, marked}
use Rattle.gr_machine.specs.Runs.{acts, without_ready}
use Rattle.gr_stands.specs.Worlds.{Given, machine_in, World, bodies}
use Rattle.gr_scopes.specs.Trees.{Holder, Names, tree_of, with_passed}
use Rattle.gr_scopes_opens.specs.Keeping.{KeepsScopes, StandsWith, IsNext}

-- The first ready task of a core arrives at the end of its innermost finish.
pub record IsArriving (given : Given) (names : Names) (world : World) (state : State) (me slot : ℕ) (more : List ℕ) (task : Suspended) (holder : Holder) : Type 0 where
  pub stands : StandsWith given names world state
  pub next : IsNext given world state me slot more task holder
  pub action : task.action ≡ action.Arrive

-- The task waits there, and leaves no mark; or it passes the scope in the same event, and leaves one.
abbrev pub Arrives : Given → Names → World → State → ℕ → Suspended → Holder → Outcome → Type 0
Arrives given names world state me task holder outcome =
    ((outcome.marks ≡ []) × KeepsScopes given world me [] outcome names (tree_of state))
    ⊎ ((outcome.marks ≡ marked (entry.Pass task.id)) × KeepsScopes given world me [] outcome names (with_passed (tree_of state) task.id holder))

abbrev pub ArrivalsKeepScopes : Type 0
ArrivalsKeepScopes =
    (given : Given) (names : Names) (world : World) (state : State) (me slot : ℕ) (more : List ℕ) (task : Suspended) (holder : Holder)
    → IsArriving given names world state me slot more task holder
    → Arrives given names world state me task holder (acts (machine_in given) me (without_ready (bodies world me)) slot task task.action)
