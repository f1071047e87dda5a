-- What code keeps, and which places and addresses a shape has.
use Rattle.std.specs.Prelude.{◌≡◌, ◌+◌, ◌&&◌, ℕ, Bool, false, nat_le, nat_lt, codes, Option, Some}
use Rattle.gr_syntax.specs.Items.{tasks_of}
use Rattle.gr_lang.specs.Openings.{array_words, heap_of, target_of}
use Rattle.gr_code.specs.declared.shapes.Shape.{Shape}
use Rattle.gr_code.specs.declared.shapes.Shape.TheVariants as shape
use Rattle.gr_code.specs.declared.code.Code.TheInside.{Inside}
use Rattle.gr_code.specs.EmitWords.{AllAgree, AreEntries}
use Rattle.gr_code.specs.Shapes.{shapes_of, heap_shape}
use Rattle.gr_code.specs.OpeningWords.{all_words}

-- Whether the shape is that of an array with this place.
abbrev pub reaches : Option Shape → ℕ → Bool
reaches (Some (shape.Words from words)) place = nat_lt place words
reaches _ place = false

-- Whether the address is that of a word of this shape.
abbrev pub is_in : Shape → ℕ → Bool
is_in (shape.Words from words) at = nat_le from at && nat_lt at (from + words)
is_in _ at = false

-- The code is that of its program.
pub record IsCode (c : Inside) : Type 0 where
  pub agree : AllAgree c.program.now c.points
  pub tasks : AreEntries c.points.points c.tasks.items (tasks_of c.program.now.items)
  pub shapes : c.shapes ≡ shapes_of c.program.now
  pub words : all_words c.arrays.items ≡ array_words c.program.now.items c.program.now.items
  pub heap : c.heap ≡ heap_shape (heap_of c.program.now)
  pub main : c.main ≡ target_of c.program.now (codes "main")
