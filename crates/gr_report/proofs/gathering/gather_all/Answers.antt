use Rattle.std.proofs.Common.{arith}
use Rattle.gr_report.proofs.Gathers.{gathered_all}
use Rattle.gr_report.proofs.gathering.gather_all.Goals as goal

pub returns : goal.returns
returns c = gathered_all c.args.cores.now c.args.shapes.now c.loop-object.contents c.loop-object.object (omega arith) c.loop-object.invariant
