use Rattle.gr_stands_passes.proofs.Passes.{passes_act, spawns_are_trapped, programs_end}
use Rattle.gr_stands_passes.proofs.laws.scopes_are_passed.Goals as goal

pub returns-clause-passes : goal.returns-clause-passes
returns-clause-passes c = passes_act

pub returns-clause-traps : goal.returns-clause-traps
returns-clause-traps c = spawns_are_trapped

pub returns-clause-over : goal.returns-clause-over
returns-clause-over c = programs_end
