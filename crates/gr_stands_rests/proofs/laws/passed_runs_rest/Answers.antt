use Rattle.gr_stands_rests.proofs.Passed.{passed_rest}
use Rattle.gr_stands_rests.proofs.laws.passed_runs_rest.Goals as goal

pub returns : goal.returns
returns c = passed_rest c.work_is_done.ensures.passed
