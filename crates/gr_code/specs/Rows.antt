-- Worked rows of terms, targets, instructions and shapes.
use Rattle.std.specs.Prelude.{◌≡◌, ℕ, ◌-◌, ◌^◌, List, [], ◌∷◌, Some, None, codes}
use Rattle.gr_syntax.specs.declared.syntax.BinOp.TheVariants as sign
use Rattle.gr_syntax.specs.declared.syntax.Item.TheVariants as item
use Rattle.gr_syntax.specs.declared.syntax.Name.{Name}
use Rattle.gr_syntax.specs.declared.syntax.Number.{Number}
use Rattle.gr_syntax.specs.declared.syntax.Place.{Place}
use Rattle.gr_syntax.specs.declared.syntax.Program.{Program}
use Rattle.gr_lang.specs.declared.action.Action.TheVariants as action
use Rattle.gr_lang.specs.Next.{pure, arrive}
use Rattle.gr_lang.specs.Openings.{heap_of}
use Rattle.gr_code.specs.declared.terms.Term.TheVariants as term
use Rattle.gr_code.specs.declared.instructions.Instruction.{Instruction}
use Rattle.gr_code.specs.declared.instructions.Instruction.TheVariants as i
use Rattle.gr_code.specs.declared.shapes.Shape.TheVariants as shape
use Rattle.gr_code.specs.Terms.{number, term_value, targets_in, put_reply}
use Rattle.gr_code.specs.Points.{Point, state_at}
use Rattle.gr_code.specs.Instructions.{chosen, does, looped, next_of}
use Rattle.gr_code.specs.Shapes.{shapes_of, heap_shape}

abbrev pub at : Place
at = record { line = 1; column = 1 }

abbrev pub name : List ℕ → Name
name text = record { text = text; at = at }

abbrev pub count : ℕ → Number
count n = record { value = n; at = at }

abbrev pub locals : List (List ℕ)
locals = codes "a" ∷ codes "b" ∷ []

-- The second of two locals has number 1, and a name that is none of them number 2.
abbrev pub SecondIsOne : Type 0
SecondIsOne = number locals (codes "b") ≡ 1

abbrev pub NoneIsTwo : Type 0
NoneIsTwo = number locals (codes "c") ≡ 2

-- `b, b` takes 1 and 2: the second word is left in `b`.
abbrev pub SecondIsLeft : Type 0
SecondIsLeft = put_reply (targets_in locals (name (codes "b") ∷ name (codes "b") ∷ [])) (record { first = 1; second = 2 }) (7 ∷ 8 ∷ []) ≡ 7 ∷ 2 ∷ []

-- `b - a` where `a` is 5 and `b` is 3, and a division by `b` where that is 0.
abbrev pub DifferenceWraps : Type 0
DifferenceWraps = term_value (5 ∷ 3 ∷ []) (term.Two sign.Sub (term.Local 1) (term.Local 0)) ≡ Some (2 ^ 64 - 2)

abbrev pub ZeroDivides : Type 0
ZeroDivides = term_value (5 ∷ 0 ∷ []) (term.Two sign.Div (term.Local 0) (term.Local 1)) ≡ None

-- A loop from 0 to 9 of task 1 with grain 0, which counts as 1, and the argument 4.
abbrev pub GrainIsOne : Type 0
GrainIsOne = looped 1 (0 ∷ 9 ∷ 0 ∷ 4 ∷ []) ≡ action.Loop 0 9 1 1 (4 ∷ [])

-- A loop at point 2 on `a`, whose body begins at 3 and which leads on to 1.
abbrev pub loop : Instruction
loop = i.Branch (term.Local 0) 3 1 1

abbrev pub points : List Point
points = record { names = locals; todo = [] } ∷ record { names = locals; todo = arrive ∷ [] } ∷ []

abbrev pub program : Program
program = record { items = item.Array (name (codes "x")) (count 3) ∷ item.Set (name (codes "s")) ∷ item.Heap (count 4) ∷ item.Array (name (codes "y")) (count 2) ∷ []; end = at }

-- Where `a` is 0 its pure step leads behind the loop, and else to the body.
abbrev pub LoopEnds : Type 0
LoopEnds = does program points loop (0 ∷ 6 ∷ []) ≡ pure (Some (state_at (record { names = locals; todo = arrive ∷ [] }) (0 ∷ 6 ∷ [])))

abbrev pub LoopGoesOn : Type 0
LoopGoesOn = chosen 2 loop 5 ≡ 3

-- The end of a body leads to itself.
abbrev pub EndStays : Type 0
EndStays = next_of 4 i.End ≡ 4

-- array x[3]; set s; heap 4; array y[2];
abbrev pub ShapesAreThree : Type 0
ShapesAreThree = shapes_of program ≡ shape.Words 0 3 ∷ shape.Set ∷ shape.Words 3 2 ∷ []

-- The heap lies behind the arrays.
abbrev pub HeapIsLast : Type 0
HeapIsLast = heap_shape (heap_of program) ≡ shape.Words 5 4
