-- How many scopes a task has open: the ends of finishes that are left for it to do, and the loop at which it waits.
use Rattle.std.specs.Prelude.{◌≡◌, ◌⊎◌, ℕ, ◌+◌, List, [], ◌∷◌, length}
use Rattle.gr_syntax.specs.declared.syntax.Program.{Program}
use Rattle.gr_lang.specs.declared.action.Action.{Action}
use Rattle.gr_lang.specs.declared.action.Action.TheVariants as action
use Rattle.gr_lang.specs.Next.{Todo, run, arrive, Running, acts, look}
use Rattle.gr_machine.specs.declared.waits.Waits.{Waits}
use Rattle.gr_machine.specs.declared.waits.Waits.TheVariants as wait
use Rattle.gr_machine.specs.States.{Suspended}

-- The ends of finishes among what is left to do.
abbrev pub arrivals : List Todo → ℕ
arrivals [] = 0
arrivals (run statement ∷ more) = arrivals more
arrivals (arrive ∷ more) = arrivals more + 1

-- 1 for a task that waits at its loop.
abbrev pub one_for_loop : Action → ℕ
one_for_loop (action.Loop lo hi grain target args) = 1
one_for_loop _ = 0

abbrev pub at_loop : Waits → Action → ℕ
at_loop (wait.Scope scope) due = one_for_loop due
at_loop _ due = 0

abbrev pub IsTrap : Action → Type 0
IsTrap (action.Trap kind) = Unit
IsTrap _ = ⊥

-- The action stands first in what is left to do, or it is a trap.
abbrev pub StandsFirst : Program → Running → Action → Type 0
StandsFirst program running due = (look program running ≡ acts due) ⊎ IsTrap due

-- The task's action stands first, and the task has so many scopes open.
pub record HasDepth (program : Program) (task : Suspended) : Type 0 where
  pub first : StandsFirst program task.running task.action
  pub depth : length task.opened ≡ arrivals task.running.todo + at_loop task.waits task.action
