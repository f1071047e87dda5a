use Rattle.gr_stands_runs.proofs.Calls as calls
use Rattle.gr_stands_runs.proofs.laws.calls_run.Goals as goal

pub returns : goal.returns
returns c = calls.calls_run
