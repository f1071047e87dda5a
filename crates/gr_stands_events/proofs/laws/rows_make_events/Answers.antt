use Rattle.gr_stands_events.proofs.Rows.{entries_stand_on, quiet_events_stand}
use Rattle.gr_stands_events.proofs.laws.rows_make_events.Goals as goal

pub returns-clause-entries : goal.returns-clause-entries
returns-clause-entries c = entries_stand_on

pub returns-clause-quiet : goal.returns-clause-quiet
returns-clause-quiet c = quiet_events_stand
