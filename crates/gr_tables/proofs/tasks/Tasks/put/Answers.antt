use Rattle.std.proofs.Common.{◌∙◌, ap}
use Rattle.std.specs.FinMap as fin
use Rattle.gr_lang.proofs.TaskIds.{put_id}
use Rattle.gr_tables.proofs.tasks.Tasks.put.Goals as goal

pub returns : goal.returns
returns c = put_id c.self.inside.rows.entries c.insert.new.self.entries c.args.id c.args.row c.in_ok-insert.ensures.updates.0 ∙ ap (λ m. fin.insert m c.args.id c.args.row) c.self.view_is
