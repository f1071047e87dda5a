use Rattle.gr_elements_lines.proofs.Words.{runs_keep, serves_keep, closes_keep, settles_keep}
use Rattle.gr_elements_lines.proofs.laws.pieces_keep_words.Goals as goal

pub returns-clause-runs : goal.returns-clause-runs
returns-clause-runs c = runs_keep

pub returns-clause-serves : goal.returns-clause-serves
returns-clause-serves c = serves_keep

pub returns-clause-closes : goal.returns-clause-closes
returns-clause-closes c = closes_keep

pub returns-clause-ends : goal.returns-clause-ends
returns-clause-ends c = settles_keep
