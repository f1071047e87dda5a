use Rattle.std.proofs.Common.{◌≡◌, ◌++◌, drop, map}
use Rattle.gr_lang.specs.Openings.{objects_from}
use Rattle.gr_code.specs.Shapes.{shape_of}
use Rattle.gr_code.proofs.shapes.shapes_in.Given as goal

abbrev pub invariant-loop-item : goal.invariant-loop-item
invariant-loop-item l = l.shapes ++ map shape_of (objects_from l.from (drop l.item-index l.items)) ≡ map shape_of (objects_from 0 l.items)
