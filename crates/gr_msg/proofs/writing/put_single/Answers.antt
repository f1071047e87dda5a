use Rattle.gr_msg.specs.FieldWords.{work_fields, task_fields}
use Rattle.gr_msg.proofs.Spelling.{then_put}
use Rattle.gr_msg.proofs.writing.put_single.Goals as goal

pub returns : goal.returns
returns c = then_put _ _ _ (work_fields 1 c.args.target c.args.args.now c.args.scope c.args.origin) (task_fields c.args.id) c.put.result c.in_ok-put_work.ensures c.put.ensures
