use Rattle.gr_machine.proofs.EventRows as rows
use Rattle.gr_machine.proofs.event_rows.enabled_rows.Goals as goal

pub returns-clause-remote : goal.returns-clause-remote
returns-clause-remote c = rows.remote_enabled

pub returns-clause-batch : goal.returns-clause-batch
returns-clause-batch c = rows.batch_enabled

pub returns-clause-calls : goal.returns-clause-calls
returns-clause-calls c = rows.calls_fill

pub returns-clause-messages : goal.returns-clause-messages
returns-clause-messages c = rows.messages_fill

pub returns-clause-none : goal.returns-clause-none
returns-clause-none c = rows.nothing_more
