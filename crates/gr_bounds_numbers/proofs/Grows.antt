-- A share of a core's numbers grows by one at most with each step.
use Rattle.std.proofs.Common.{ℕ}
use Rattle.gr_machine.specs.Machines.{Machine}
use Rattle.gr_machine.specs.States.{Body}
use Rattle.gr_machine.specs.Openings.{opening_body, first_tasks, first_scopes, no_tasks, no_scopes}
use Rattle.gr_stands.specs.Worlds.{Weight}
use Rattle.gr_bounds.specs.Shares.{GrowsByOne}
use Rattle.gr_bounds.specs.Outcomes.{NoneKnown}
use Rattle.gr_bounds.proofs.Shares.{step_grows}
use Rattle.gr_bounds.proofs.Opening.{opens_at_one}
use Rattle.gr_bounds_numbers.proofs.Plain.{Numbers, numbers}
use Rattle.gr_bounds_numbers.proofs.Rows.{rules_of}
use Rattle.gr_bounds_numbers.proofs.Counting.{CountRules, number_rules}

module _ (F : ℕ → Numbers → ℕ → Type 0) (weight : Weight) where
  abbrev pub OfNumbers : ℕ → Body → ℕ → Type 0
  OfNumbers me body x = F me (numbers body) x

  pub grows : ((machine : Machine) → CountRules F weight machine NoneKnown) → ((machine : Machine) (slot : ℕ) → F 0 (numbers (opening_body machine 0 (first_tasks machine slot) first_scopes)) 1)
      → ((machine : Machine) (me : ℕ) → F me (numbers (opening_body machine me no_tasks no_scopes)) 0) → GrowsByOne OfNumbers weight
  grows rules main others = record {
    opens = λ machine slot. opens_at_one machine slot OfNumbers weight machine.setup.cores (main machine slot) (others machine);
    steps = λ machine before after me entry most h old.
        step_grows OfNumbers weight machine NoneKnown (rules_of OfNumbers weight machine NoneKnown (number_rules F weight machine NoneKnown (rules machine))) before after me entry most (λ core l. tt) h old;
  }
