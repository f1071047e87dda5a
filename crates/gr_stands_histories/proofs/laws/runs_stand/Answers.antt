use Rattle.gr_stands_histories.proofs.Running as running
use Rattle.gr_stands_histories.proofs.laws.runs_stand.Goals as goal

pub returns-clause-opening : goal.returns-clause-opening
returns-clause-opening c = running.openings_stand_among_cores

pub returns-clause-steps : goal.returns-clause-steps
returns-clause-steps c = running.steps_lead_on

pub returns-clause-runs : goal.returns-clause-runs
returns-clause-runs c = running.runs_stand
