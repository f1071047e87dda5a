use Rattle.gr_valid.proofs.Ends.{fronts_legal, over_last, complete_untrapped}
use Rattle.gr_valid.proofs.laws.histories_end.Goals as goal

pub returns-clause-fronts : goal.returns-clause-fronts
returns-clause-fronts c = fronts_legal

pub returns-clause-over : goal.returns-clause-over
returns-clause-over c = over_last

pub returns-clause-untrapped : goal.returns-clause-untrapped
returns-clause-untrapped c = complete_untrapped
