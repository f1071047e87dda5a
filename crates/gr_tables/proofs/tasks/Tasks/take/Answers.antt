use Rattle.std.proofs.Common.{◌∙◌, sym, ap}
use Rattle.std.specs.FinMap as fin
use Rattle.gr_lang.proofs.TaskIds.{get_id, take_id}
use Rattle.gr_tables.proofs.tasks.Tasks.take.Goals as goal

pub returns-clause-value : goal.returns-clause-value
returns-clause-value c = c.remove.ensures.value ∙ sym (get_id c.self.inside.rows.entries c.args.id) ∙ ap (λ m. fin.get m c.args.id) c.self.view_is

pub returns-clause-rest : goal.returns-clause-rest
returns-clause-rest c = take_id c.self.inside.rows.entries c.remove.new.self.entries c.args.id c.remove.ensures.updates.0 ∙ ap (λ m. fin.remove m c.args.id) c.self.view_is
