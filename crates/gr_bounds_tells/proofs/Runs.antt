-- Bounds stand at the end of each run.
use Rattle.std.proofs.Common.{◌≡◌, ℕ, suc, ◌+◌, List, [], ◌∷◌, ◌++◌, length, refl, ap, ◌∙◌, subst, arith}
use Rattle.std.specs.Prelude.{Option, Some, None}
use Rattle.std.specs.Option.{option_and_then}
use Rattle.gr_merge.specs.GlobalRuns.{goes_at, fold_global}
use Rattle.gr_machine.specs.Steppers.{kind_of, stepper}
use Rattle.gr_machine.specs.GlobalRuns as runs
use Rattle.gr_machine.specs.GlobalRuns.{Step, opening_world}
use Rattle.gr_machine.specs.Nets.{world_in}
use Rattle.gr_machine.proofs.Clocks.{some_same}
use Rattle.gr_stands.specs.Worlds.{Given, machine_in}
use Rattle.gr_stands_histories.specs.Running.{AllSlotsFit}
use Rattle.gr_bounds_stands.specs.Standing.{BoundsStand, LoopsTell}
use Rattle.gr_bounds_stands.proofs.Standing.{openings_have, steps_keep}
use Rattle.gr_bounds_stands.proofs.Telling.{few_steps}
use Rattle.gr_bounds_tells.specs.Laws as laws
use Rattle.gr_bounds_tells.proofs.Guards.{guards_open}

module _ (given : Given) where
  -- Loops tell at each world on the way from this one.
  abbrev TellOn : runs.World → List Step → Type 0
  TellOn world steps = (first later : List Step) (between : runs.World) → steps ≡ first ++ later → fold_global (stepper (machine_in given)) world first ≡ Some between
      → LoopsTell given (world_in between)

  abbrev Bounded : List Step → runs.World → Type 0
  Bounded steps end = (k : ℕ) (world : runs.World) → fold_global (stepper (machine_in given)) world steps ≡ Some end → TellOn world steps
      → BoundsStand given (world_in world) k → BoundsStand given (world_in end) (k + length steps)

  plus_one : (a b : ℕ) → (a + 1) + b ≡ a + suc b
  plus_one a b = omega arith

  zero_plus : (k : ℕ) → 0 + k ≡ k
  zero_plus k = omega arith

  plus_zero : (k : ℕ) → k ≡ k + 0
  plus_zero k = omega arith

  rest_bounded : (step : Step) (steps : List Step) (k : ℕ) (world end : runs.World) (next : Option runs.World) → Bounded steps end
      → goes_at (stepper (machine_in given)) (kind_of step.1.event) step.0 world step.1 ≡ next
      → option_and_then (λ (after : runs.World). fold_global (stepper (machine_in given)) after steps) next ≡ Some end
      → TellOn world (step ∷ steps) → BoundsStand given (world_in world) k → BoundsStand given (world_in end) (k + length (step ∷ steps))
  rest_bounded step steps k world end None rest e h told old = absurd (cc)
  rest_bounded step steps k world end (Some after) rest e h told old =
      subst (λ (j : ℕ). BoundsStand given (world_in end) j) (plus_one k (length steps)) (rest (k + 1) after h
      (λ first later between is f. told (step ∷ first) later between (ap (λ (xs : List Step). step ∷ xs) is)
      (ap (option_and_then (λ (w : runs.World). fold_global (stepper (machine_in given)) w first)) e ∙ f))
      (steps_keep given world after step.0 step.1 k e (told [] (step ∷ steps) world refl refl) old))

  all_bounded : (steps : List Step) (end : runs.World) → Bounded steps end
  all_bounded [] end k world h told old =
      subst (λ (w : runs.World). BoundsStand given (world_in w) (k + 0)) (some_same h) (subst (λ (j : ℕ). BoundsStand given (world_in world) j) (plus_zero k) old)
  all_bounded (step ∷ steps) end k world h told old =
      rest_bounded step steps k world end (goes_at (stepper (machine_in given)) (kind_of step.1.event) step.0 world step.1) (all_bounded steps end) refl h told old

  first_fit : (first later steps : List Step) → steps ≡ first ++ later → AllSlotsFit given steps → AllSlotsFit given first
  first_fit first later steps is fit = of_joined first later (subst (AllSlotsFit given) is fit)
    where
      of_joined : (xs ys : List Step) → AllSlotsFit given (xs ++ ys) → AllSlotsFit given xs
      of_joined [] ys f = tt
      of_joined (x ∷ xs) ys f = (f.0, of_joined xs ys f.1)

pub runs_have : laws.RunsHaveBounds
runs_have given slot steps end fit told run = subst (λ (j : ℕ). BoundsStand given (world_in end) j) (zero_plus given (length steps))
    (all_bounded given steps end 0 (opening_world (machine_in given) slot) run
    (λ first later between is goes. told first between (first_fit given first later steps is fit) goes) (openings_have given slot))

pub runs_drop_nothing : laws.RunsDropNothing
runs_drop_nothing given slot steps end some few fit told run =
    guards_open given (world_in end) (length steps) some (few_steps given slot steps end few run) (runs_have given slot steps end fit told run)
