use Rattle.gr_code.proofs.Worked.{shapes, heap}
use Rattle.gr_code.proofs.rows.shape_rows.Goals as goal

pub returns-clause-objects : goal.returns-clause-objects
returns-clause-objects c = shapes

pub returns-clause-heap : goal.returns-clause-heap
returns-clause-heap c = heap
