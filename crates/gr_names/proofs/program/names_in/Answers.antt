use Rattle.std.proofs.Common.{arith, drop, ◌+◌, [], ◌∷◌}
use Rattle.std.proofs.lemmas.List.{append_assoc}
use Rattle.gr_syntax.specs.Items.{object_names}
use Rattle.gr_names.specs.Numbered.{task_names}
use Rattle.gr_names.proofs.Walks.{objects-next, tasks-next}
use Rattle.gr_names.proofs.program.names_in.Goals as goal

pub loop-item-preserved : goal.loop-item-preserved
loop-item-preserved c = record {
  objects = cc (
    objects-next c.args.items.now c.loop-item.item-index c.item-item.result (omega arith),
    append_assoc c.loop-item.objects (object_names (c.item-item.result ∷ [])) (object_names (drop (c.loop-item.item-index + 1) c.args.items.now)),
    c.in_ok-add.ensures.objects,
    c.item-item.is,
    c.loop-item.invariant.objects,
  );
  tasks = cc (
    tasks-next c.args.items.now c.loop-item.item-index c.item-item.result (omega arith),
    append_assoc c.loop-item.tasks (task_names (c.item-item.result ∷ [])) (task_names (drop (c.loop-item.item-index + 1) c.args.items.now)),
    c.in_ok-add.ensures.tasks,
    c.item-item.is,
    c.loop-item.invariant.tasks,
  );
}
