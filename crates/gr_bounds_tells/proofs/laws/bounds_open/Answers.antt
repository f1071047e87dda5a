use Rattle.gr_bounds_tells.proofs.Guards as guards
use Rattle.gr_bounds_tells.proofs.Runs as runs
use Rattle.gr_bounds_tells.proofs.laws.bounds_open.Goals as goal

pub returns-clause-grants : goal.returns-clause-grants
returns-clause-grants c = guards.grants_told

pub returns-clause-guards : goal.returns-clause-guards
returns-clause-guards c = guards.guards_open

pub returns-clause-runs : goal.returns-clause-runs
returns-clause-runs c = runs.runs_have

pub returns-clause-drops : goal.returns-clause-drops
returns-clause-drops c = runs.runs_drop_nothing
