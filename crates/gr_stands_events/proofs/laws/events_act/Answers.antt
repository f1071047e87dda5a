use Rattle.gr_stands_events.proofs.Events.{tasks_run, units_run, messages_serve}
use Rattle.gr_stands_events.proofs.laws.events_act.Goals as goal

pub returns-clause-tasks : goal.returns-clause-tasks
returns-clause-tasks c = tasks_run

pub returns-clause-units : goal.returns-clause-units
returns-clause-units c = units_run

pub returns-clause-messages : goal.returns-clause-messages
returns-clause-messages c = messages_serve
