use Rattle.gr_stands_legal.proofs.Legal as legal
use Rattle.gr_stands_legal.proofs.laws.runs_are_legal.Goals as goal

pub returns-clause-given : goal.returns-clause-given
returns-clause-given c = legal.given_hold c.programs_are_sound.ensures c.runs_are_histories.ensures.runs

pub returns-clause-runs : goal.returns-clause-runs
returns-clause-runs c = legal.runs_hold (returns-clause-given c)

pub returns-clause-fronts : goal.returns-clause-fronts
returns-clause-fronts c = legal.fronts_hold (returns-clause-given c)

pub returns-clause-histories : goal.returns-clause-histories
returns-clause-histories c = legal.histories_hold (returns-clause-runs c)

pub returns-clause-legal : goal.returns-clause-legal
returns-clause-legal c = legal.histories_legal (returns-clause-histories c)
