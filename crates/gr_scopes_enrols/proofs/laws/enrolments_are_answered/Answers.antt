use Rattle.gr_scopes_enrols.proofs.Acked.{acks_find_slots, acks_keep_scopes}
use Rattle.gr_scopes_enrols.proofs.laws.enrolments_are_answered.Goals as goal

pub returns-clause-finds : goal.returns-clause-finds
returns-clause-finds c = acks_find_slots

pub returns-clause-keeps : goal.returns-clause-keeps
returns-clause-keeps c = acks_keep_scopes
