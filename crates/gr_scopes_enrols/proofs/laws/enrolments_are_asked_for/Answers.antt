use Rattle.gr_scopes_enrols.proofs.Asked.{enrols_find_masters, enrols_keep_scopes}
use Rattle.gr_scopes_enrols.proofs.laws.enrolments_are_asked_for.Goals as goal

pub returns-clause-finds : goal.returns-clause-finds
returns-clause-finds c = enrols_find_masters

pub returns-clause-keeps : goal.returns-clause-keeps
returns-clause-keeps c = enrols_keep_scopes
