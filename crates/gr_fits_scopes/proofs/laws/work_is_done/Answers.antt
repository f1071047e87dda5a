use Rattle.gr_fits_scopes.proofs.Done as done
use Rattle.gr_fits_scopes.proofs.laws.work_is_done.Goals as goal

pub returns-clause-scopes : goal.returns-clause-scopes
returns-clause-scopes c = done.scopes_done

pub returns-clause-finishes : goal.returns-clause-finishes
returns-clause-finishes c = done.finishes_done

pub returns-clause-roots : goal.returns-clause-roots
returns-clause-roots c = done.roots_done

pub returns-clause-ended : goal.returns-clause-ended
returns-clause-ended c = done.all_ended

pub returns-clause-passed : goal.returns-clause-passed
returns-clause-passed c = done.passed_done
