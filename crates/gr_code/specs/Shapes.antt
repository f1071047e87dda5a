-- The shapes of the objects with which a run opens.
use Rattle.std.specs.Prelude.{List, map}
use Rattle.gr_syntax.specs.declared.syntax.Program.{Program}
use Rattle.gr_lang.specs.Objects.{Object, array, keys, pairs, line, Heap}
use Rattle.gr_lang.specs.Openings.{opening}
use Rattle.gr_code.specs.declared.shapes.Shape.{Shape}
use Rattle.gr_code.specs.declared.shapes.Shape.TheVariants as shape

-- An array has its words from its first address on; of other objects there is only their kind.
abbrev pub shape_of : Object → Shape
shape_of (array from count) = shape.Words from count
shape_of (keys held) = shape.Set
shape_of (pairs held) = shape.Map
shape_of (line words) = shape.Vector

-- The shapes of the objects, in their order.
abbrev pub shapes_of : Program → List Shape
shapes_of program = map shape_of (opening program).things

-- The heap has its words from its first address on, and none where a program has no heap.
abbrev pub heap_shape : Heap → Shape
heap_shape heap = shape.Words heap.from heap.count
