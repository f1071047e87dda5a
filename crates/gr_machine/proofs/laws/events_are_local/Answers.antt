use Rattle.gr_machine.proofs.Runs.{runs_leave_words, serves_open_nothing}
use Rattle.gr_machine.proofs.laws.events_are_local.Goals as goal

pub returns-clause-words : goal.returns-clause-words
returns-clause-words c = runs_leave_words

pub returns-clause-scopes : goal.returns-clause-scopes
returns-clause-scopes c = serves_open_nothing
