use Rattle.gr_msg.specs.FieldWords.{work_fields, loop_fields}
use Rattle.gr_msg.proofs.Spelling.{then_put}
use Rattle.gr_msg.proofs.writing.put_chunk.Goals as goal

pub returns : goal.returns
returns c = then_put _ _ _ (work_fields 2 c.args.target c.args.args.now c.args.scope c.args.origin) (loop_fields c.args.owner c.args.range.0 c.args.range.1 c.args.range.2) c.put_loop.result c.in_ok-put_work.ensures c.put_loop.ensures
