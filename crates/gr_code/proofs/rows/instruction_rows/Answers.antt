use Rattle.std.proofs.Common.{refl}
use Rattle.gr_code.proofs.Worked.{ends}
use Rattle.gr_code.proofs.rows.instruction_rows.Goals as goal

pub returns-clause-grain : goal.returns-clause-grain
returns-clause-grain c = refl

pub returns-clause-ends : goal.returns-clause-ends
returns-clause-ends c = ends

pub returns-clause-body : goal.returns-clause-body
returns-clause-body c = refl

pub returns-clause-stays : goal.returns-clause-stays
returns-clause-stays c = refl
