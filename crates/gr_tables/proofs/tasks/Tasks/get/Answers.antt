use Rattle.std.proofs.Common.{◌∙◌, sym, ap}
use Rattle.std.specs.FinMap as fin
use Rattle.gr_lang.proofs.TaskIds.{get_id}
use Rattle.gr_tables.proofs.tasks.Tasks.get.Goals as goal

pub returns : goal.returns
returns c = c.get.ensures.value ∙ sym (get_id c.self.inside.rows.entries c.args.id) ∙ ap (λ m. fin.get m c.args.id) c.self.view_is
