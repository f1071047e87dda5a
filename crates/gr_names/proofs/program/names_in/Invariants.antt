use Rattle.std.proofs.Common.{◌≡◌, ◌++◌, drop}
use Rattle.gr_syntax.specs.Items.{object_names}
use Rattle.gr_names.specs.Numbered.{task_names}
use Rattle.gr_names.proofs.program.names_in.Given as goal

abbrev pub invariant-loop-item : goal.invariant-loop-item
invariant-loop-item l = record {
  objects : l.objects ++ object_names (drop l.item-index l.items) ≡ object_names l.items;
  tasks : l.tasks ++ task_names (drop l.item-index l.items) ≡ task_names l.items;
}
