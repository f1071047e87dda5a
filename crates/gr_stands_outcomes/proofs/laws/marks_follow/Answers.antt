use Rattle.gr_stands_outcomes.proofs.Marks.{batches_go_off, entries_come, histories_go_on, entries_lead_on, entries_come_apart}
use Rattle.gr_stands_outcomes.proofs.laws.marks_follow.Goals as goal

pub returns-clause-batches : goal.returns-clause-batches
returns-clause-batches c = batches_go_off

pub returns-clause-entries : goal.returns-clause-entries
returns-clause-entries c = entries_come

pub returns-clause-histories : goal.returns-clause-histories
returns-clause-histories c = histories_go_on

pub returns-clause-on : goal.returns-clause-on
returns-clause-on c = entries_lead_on

pub returns-clause-apart : goal.returns-clause-apart
returns-clause-apart c = entries_come_apart
