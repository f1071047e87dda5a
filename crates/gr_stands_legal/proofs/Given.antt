-- What a run is given is such as the law of histories asks.
use Rattle.std.proofs.Common.{◌≤◌, ◌<◌, ◌+◌, ◌*◌, ◌^◌, ℕ, List, [], ◌∷◌, arith}
use Rattle.std.proofs.lemmas.Nat.{mul-le}
use Rattle.gr_net.specs.Sums.{weigh, Each}
use Rattle.gr_machine.specs.GlobalRuns.{Step}
use Rattle.gr_stands_opening.specs.Laws.{ProgramsAreSound}
use Rattle.gr_stands_legal.specs.Slots.{slots_in, above_slots}
use Rattle.gr_stands_legal.specs.Laws as laws

pub setups_sound : ProgramsAreSound → laws.SetupsAreSound
setups_sound sound given setup = sound given (omega (arith, setup.core)) (omega (arith, setup.word))

product_below : (cores events : ℕ) → cores ≤ 16 → events ≤ 2 ^ 40 → cores * events + 1 < 2 ^ 63
product_below cores events few short = omega (arith, mul-le cores events 16 (2 ^ 40) few short)

pub few_steps : laws.SetupsHaveFewSteps
few_steps given setup = product_below given.setup.cores given.setup.events setup.cores setup.events

pub programs_accepted : laws.RunnableProgramsAreAccepted
programs_accepted given runnable = record { accepted = runnable.accepted; heap = runnable.heap }

-- The items of a list are below what is above the sum.
each_below : (slots : List ℕ) (limit : ℕ) → weigh (λ (slot : ℕ). slot) slots < limit → Each (λ slot. slot < limit) slots
each_below [] limit less = tt
each_below (slot ∷ slots) limit less = (omega (arith, less), each_below slots limit (omega (arith, less)))

all_below : (steps : List Step) (limit : ℕ) → weigh slots_in steps < limit → Each (λ (step : Step). Each (λ slot. slot < limit) step.1.slots) steps
all_below [] limit less = tt
all_below (step ∷ steps) limit less = (each_below step.1.slots limit (omega (arith, less)), all_below steps limit (omega (arith, less)))

pub slots_fit : laws.SlotsOfRunsFit
slots_fit setup program slot steps = (omega (arith), all_below steps (above_slots slot steps) (omega (arith)))

pub fronts_fit : laws.SlotsOfFrontsFit
fronts_fit given [] rest fit = tt
fronts_fit given (step ∷ front) rest fit = (fit.0, fronts_fit given front rest fit.1)
