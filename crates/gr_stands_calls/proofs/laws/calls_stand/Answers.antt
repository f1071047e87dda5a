use Rattle.gr_stands_calls.proofs.Asked.{calls_are_asked, replies_are_taken}
use Rattle.gr_stands_calls.proofs.Made.{requests_are_made}
use Rattle.gr_stands_calls.proofs.laws.calls_stand.Goals as goal

pub returns-clause-asked : goal.returns-clause-asked
returns-clause-asked c = calls_are_asked

pub returns-clause-made : goal.returns-clause-made
returns-clause-made c = requests_are_made

pub returns-clause-taken : goal.returns-clause-taken
returns-clause-taken c = replies_are_taken
