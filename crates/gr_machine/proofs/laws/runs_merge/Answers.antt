use Rattle.gr_machine.proofs.Clocks.{entries_tick}
use Rattle.gr_machine.proofs.Merging.{unused_run, runs_merge}
use Rattle.gr_machine.proofs.laws.runs_merge.Goals as goal

pub returns-clause-clocked : goal.returns-clause-clocked
returns-clause-clocked c = entries_tick

pub returns-clause-unused : goal.returns-clause-unused
returns-clause-unused c = unused_run

pub returns-clause-merged : goal.returns-clause-merged
returns-clause-merged c = runs_merge
