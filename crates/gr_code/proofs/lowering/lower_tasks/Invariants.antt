use Rattle.std.proofs.Common.{◌≡◌, ◌++◌, drop, map, List}
use Rattle.gr_syntax.specs.Items.{tasks_of}
use Rattle.gr_code.specs.Points.{Point}
use Rattle.gr_code.specs.Instructions.{Begins}
use Rattle.gr_code.specs.EmitWords.{AllAgree, known_in, known_of}
use Rattle.gr_code.proofs.lowering.lower_tasks.Given as goal

abbrev pub invariant-loop-item : goal.invariant-loop-item
invariant-loop-item l = record {
  agree : AllAgree l.program l.points;
  tasks : (all : List Point) → Begins l.points.points all → map (known_in all) l.tasks.items ++ map known_of (tasks_of (drop l.item-index l.items)) ≡ map known_of (tasks_of l.items);
}
