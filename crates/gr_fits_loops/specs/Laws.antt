-- The laws of loops in states that are reached.
use Rattle.std.specs.Prelude.{◌≡◌, ℕ, false, nat_lt, List, ◌∷◌, length, Some}
use Rattle.std.specs.FinMap as fin
use Rattle.std.specs.FinSet as set
use Rattle.gr_lang.specs.declared.action.Action.TheVariants as action
use Rattle.gr_lang.specs.declared.action.TaskId.{TaskId}
use Rattle.gr_lang.specs.States.{going, at_loop, Task, State, left}
use Rattle.gr_lang.specs.Steps.{open_scope}
use Rattle.gr_stands.specs.Worlds.{Given}
use Rattle.gr_fits.specs.Reached.{IsReached, RunsAccepted}
use Rattle.gr_fits_loops.specs.Ranges.{RangesFit}

-- The range of each loop fits.
abbrev pub ReachedRangesFit : Type 0
ReachedRangesFit = (given : Given) (state : State) → RunsAccepted given → IsReached given state → RangesFit given state

-- No two tasks have the same innermost scope.
abbrev pub InnermostScopesAreApart : Type 0
InnermostScopesAreApart =
    (given : Given) (state : State) (one other : TaskId) (first second : Task) (scope : ℕ) (outer more : List ℕ) → IsReached given state
    → fin.get state.tasks one ≡ Some first → fin.get state.tasks other ≡ Some second → first.opened ≡ scope ∷ outer → second.opened ≡ scope ∷ more → one ≡ other

-- Where a task comes to a loop over nothing, no work is left under the scope that it opens.
abbrev pub LoopsOverNothingLeaveNone : Type 0
LoopsOverNothingLeaveNone =
    (given : Given) (state : State) (id : TaskId) (plain : Task) (lo hi grain target : ℕ) (args : List ℕ) → IsReached given state
    → fin.get state.tasks id ≡ Some plain → plain.mode ≡ going → plain.action ≡ action.Loop lo hi grain target args → nat_lt lo hi ≡ false
    → left (open_scope state id plain (record plain { mode = at_loop }) (Some (record { lo = lo; hi = hi; target = target; args = args; begun = set.empty }))) (length state.scopes) ≡ false
