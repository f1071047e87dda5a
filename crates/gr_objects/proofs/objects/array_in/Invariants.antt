use Rattle.std.proofs.Common.{◌≡◌, drop}
use Rattle.gr_objects.specs.ShapeWords.{array_by}
use Rattle.gr_objects.proofs.objects.array_in.Given as goal

abbrev pub invariant-loop-object : goal.invariant-loop-object
invariant-loop-object l = array_by l.object l.at (drop l.object l.shapes) ≡ array_by 0 l.at l.shapes
