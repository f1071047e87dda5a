use Rattle.std.proofs.Common.{◌∙◌, sym, ap, length}
use Rattle.std.specs.FinMap as fin
use Rattle.gr_lang.proofs.TaskIds.{entries_id}
use Rattle.gr_tables.proofs.tasks.Tasks.len.Goals as goal

pub returns : goal.returns
returns c =
    c.row_count.ensures.value
    ∙ sym (fin.len-entries (fin.from_entries c.self.inside.rows.entries) ∙ ap length (entries_id _ c.row_count.ensures.ordered))
    ∙ ap fin.len c.self.view_is
