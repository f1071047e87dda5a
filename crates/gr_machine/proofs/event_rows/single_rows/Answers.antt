use Rattle.gr_machine.proofs.EventRows as rows
use Rattle.gr_machine.proofs.RequestRows as rows2
use Rattle.gr_machine.proofs.event_rows.single_rows.Goals as goal

pub returns-clause-words : goal.returns-clause-words
returns-clause-words c = rows2.words_called

pub returns-clause-blocks : goal.returns-clause-blocks
returns-clause-blocks c = rows2.blocks_made

pub returns-clause-messages : goal.returns-clause-messages
returns-clause-messages c = rows.strays_find_nothing

pub returns-clause-gone : goal.returns-clause-gone
returns-clause-gone c = rows.stray_is_gone

pub returns-clause-scope : goal.returns-clause-scope
returns-clause-scope c = rows.full_scope

pub returns-clause-units : goal.returns-clause-units
returns-clause-units c = rows.units_dropped

pub returns-clause-actions : goal.returns-clause-actions
returns-clause-actions c = rows.actions_dropped
