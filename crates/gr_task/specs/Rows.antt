-- Worked rows of suspended tasks.
use Rattle.std.specs.Prelude.{◌≡◌, true, false, [], ◌∷◌, Some, None, codes}
use Rattle.gr_syntax.specs.declared.syntax.Place.{Place}
use Rattle.gr_lang.specs.Next.{arrive}
use Rattle.gr_code.specs.declared.terms.Targets.TheVariants as targets
use Rattle.gr_code.specs.Points.{Lowered}
use Rattle.gr_task.specs.States.{Task, state_of, waits}

abbrev pub place : Place
place = record { line = 1; column = 1 }

-- Code with the end of a body, and before it the end of a `finish`; the task has the locals `a` and `b`.
abbrev pub code : Lowered
code = record {
  program = record { items = []; end = place };
  points = record { names = codes "a" ∷ codes "b" ∷ []; todo = [] } ∷ record { names = codes "a" ∷ codes "b" ∷ []; todo = arrive ∷ [] } ∷ [];
}

abbrev pub task : Task
task = record { at = 1; words = 5 ∷ 6 ∷ []; onward = None }

abbrev pub AtArrive : Type 0
AtArrive = state_of code task ≡ record { todo = arrive ∷ []; locals = (codes "a", 5) ∷ (codes "b", 6) ∷ [] }

-- Behind the last point nothing is left.
abbrev pub PastPoints : Type 0
PastPoints = state_of code (record task { at = 2 }) ≡ record { todo = []; locals = [] }

abbrev pub GoesOn : Type 0
GoesOn = waits task ≡ false

abbrev pub Waits : Type 0
Waits = waits (record task { onward = Some (record { next = 0; targets = targets.Empty }) }) ≡ true
