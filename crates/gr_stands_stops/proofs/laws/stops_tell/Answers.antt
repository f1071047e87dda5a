use Rattle.gr_stands_stops.proofs.Telling as telling
use Rattle.gr_stands_stops.proofs.laws.stops_tell.Goals as goal

pub returns-clause-follow : goal.returns-clause-follow
returns-clause-follow c = telling.stops_follow_marks

pub returns-clause-tell : goal.returns-clause-tell
returns-clause-tell c = telling.stops_tell_in_runs
