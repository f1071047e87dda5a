use Rattle.gr_clocks.proofs.Ticks.{clocks_count, stamps_count, steps_few}
use Rattle.gr_clocks.proofs.laws.clocks_count_steps.Goals as goal

pub returns-clause-clocks : goal.returns-clause-clocks
returns-clause-clocks g c = λ machine time cores limit steps end run core. clocks_count machine time cores limit steps end run core

pub returns-clause-stamps : goal.returns-clause-stamps
returns-clause-stamps g c = λ machine time cores limit steps end run origin dest. stamps_count machine time cores limit steps end run origin dest

pub returns-clause-steps : goal.returns-clause-steps
returns-clause-steps g c = λ machine time cores limit steps end run. steps_few machine time cores limit steps end run
