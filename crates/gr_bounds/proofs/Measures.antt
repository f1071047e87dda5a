-- What is shared out after a run, and what a measure comes to.
use Rattle.std.proofs.Common.{◌≡◌, ◌≤◌, ◌<◌, ℕ, zero, suc, ◌+◌, List, length, subst, arith}
use Rattle.std.specs.Prelude.{Some}
use Rattle.gr_net.specs.Sums.{total}
use Rattle.gr_net.proofs.Spreads.{total_one}
use Rattle.gr_machine.specs.Machines.{Machine}
use Rattle.gr_machine.specs.States.{Body}
use Rattle.gr_machine.specs.GlobalRuns.{Step, global_run, opening_world}
use Rattle.gr_machine.specs.GlobalRuns as runs
use Rattle.gr_machine.specs.Nets.{world_in}
use Rattle.gr_stands.specs.Worlds.{World, Weight, bodies, in_flight}
use Rattle.gr_bounds.specs.Shares.{Shared, GrowsByOne}
use Rattle.gr_bounds.specs.Outcomes.{Rules, NoneKnown}
use Rattle.gr_bounds.specs.Laws as laws
use Rattle.gr_bounds.specs.Laws.{HoldsAtMost}
use Rattle.gr_bounds.proofs.Steps.{run_keeps}
use Rattle.gr_bounds.proofs.Shares.{step_grows}
use Rattle.gr_bounds.proofs.Opening.{nothing_flies}

module _ (AtMost : ℕ → Body → ℕ → Type 0) (weight : Weight) (machine : Machine) (Known : ℕ → Body → Type 0) (rules : Rules AtMost weight machine Known)
    (known : (core : ℕ) (body : Body) → Known core body) (slot : ℕ) (steps : List Step) (end : runs.World) (run : global_run machine slot steps ≡ Some end) where
  pub shared_after : (most : ℕ) → Shared AtMost weight machine.setup.cores most (world_in (opening_world machine slot))
      → Shared AtMost weight machine.setup.cores (most + length steps) (world_in end)
  shared_after most start = run_keeps machine (λ (k : ℕ) (world : runs.World). Shared AtMost weight machine.setup.cores k (world_in world))
      (λ before after me entry k h old. step_grows AtMost weight machine Known rules before after me entry k (λ core l. known core (bodies (world_in before) core)) h old) slot steps most end run start

total_less : (n : ℕ) (f g : ℕ → ℕ) → ((i : ℕ) → i < n → f i ≤ g i) → total n f ≤ total n g
total_less zero f g l = omega arith
total_less (suc n) f g l = omega (arith, total_less n f g (λ i b. l i (omega (arith, b))), l n (omega arith))

pub measures_grow : laws.MeasuresGrow
measures_grow held weight machine rules slot steps end run =
    let start : World = world_in (opening_world machine slot) in
    let s = shared_after (HoldsAtMost held) weight machine NoneKnown rules (λ core body. tt) slot steps end run (total machine.setup.cores (λ core. held core (bodies start core)))
    (record { shares = λ core. held core (bodies start core); each = λ core l. omega arith; all = omega (arith, nothing_flies machine slot weight machine.setup.cores) }) in
    omega (arith, s.all, total_less machine.setup.cores (λ core. held core (bodies (world_in end) core)) s.shares s.each)

-- A share, with what is in flight, is at most all.
pub share_few : (AtMost : ℕ → Body → ℕ → Type 0) (weight : Weight) (n most core : ℕ) (world : World) → core < n → (s : Shared AtMost weight n most world)
    → s.shares core + in_flight weight n world ≤ most
share_few AtMost weight n most core world l s = omega (arith, s.all, total_one s.shares n core l)

-- What grows by one with each step is at most the number of steps and one.
module _ (AtMost : ℕ → Body → ℕ → Type 0) (weight : Weight) (grow : GrowsByOne AtMost weight) (machine : Machine) (slot : ℕ) (steps : List Step) (end : runs.World)
    (run : global_run machine slot steps ≡ Some end) where
  one_last : (k : ℕ) → 1 + k ≡ k + 1
  one_last k = omega arith

  pub grown : Shared AtMost weight machine.setup.cores (length steps + 1) (world_in end)
  grown = subst (λ (k : ℕ). Shared AtMost weight machine.setup.cores k (world_in end)) (one_last (length steps))
      (run_keeps machine (λ (k : ℕ) (world : runs.World). Shared AtMost weight machine.setup.cores k (world_in world)) (λ before after me entry k h old. grow.steps machine before after me entry k h old)
      slot steps 1 end run (grow.opens machine slot))
