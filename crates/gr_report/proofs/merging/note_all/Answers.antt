use Rattle.std.proofs.Common.{arith}
use Rattle.gr_report.proofs.Merges.{noted_all, noted_more}
use Rattle.gr_report.proofs.merging.note_all.Goals as goal

pub loop-key-preserved : goal.loop-key-preserved
loop-key-preserved c = λ at. noted_more c.args.pairs.now c.loop-key.key-index _ _ _ _ at (omega arith) (c.in_ok-note.ensures at) (c.loop-key.invariant at)

pub returns : goal.returns
returns c = λ at. noted_all c.args.pairs.now c.loop-key.key-index _ _ at (omega arith) (c.loop-key.invariant at)
