use Rattle.gr_format.proofs.Once.{taken_is_spelled, spelled_once}
use Rattle.gr_format.proofs.laws.values_are_spelled_once.Goals as goal

pub returns-clause-taken : goal.returns-clause-taken
returns-clause-taken g c = taken_is_spelled

pub returns-clause-once : goal.returns-clause-once
returns-clause-once g c = spelled_once
