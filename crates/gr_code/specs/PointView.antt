-- What the instructions and origins of a program's points stand for.
use Rattle.std.specs.Prelude.{List, [], ◌∷◌, ◌++◌, fold}
use Rattle.gr_syntax.specs.Items.{texts}
use Rattle.gr_lang.specs.Next.{Todo, run, arrive, lets_of}
use Rattle.gr_code.specs.declared.points.Origin.{Origin}
use Rattle.gr_code.specs.declared.points.Origin.TheVariants as origin
use Rattle.gr_code.specs.declared.instructions.Instruction.{Instruction}
use Rattle.gr_code.specs.Points.{Point, point_at}

-- Instructions with their points.
pub record Laid : Type 0 where
  pub instructions : List Instruction
  pub points : List Point

-- A point that leads to an earlier one.
abbrev pub before : Point → Todo → Point
before next todo = record { names = next.names; todo = todo ∷ next.todo }

-- The point of an origin: each leads to an earlier one.
abbrev pub point_of : Origin → List Point → Point
point_of (origin.End params body) points = record { names = texts params.now ++ lets_of body.now; todo = [] }
point_of (origin.Arrive next) points = before (point_at points next) arrive
point_of (origin.Run stmt next) points = before (point_at points next) (run stmt.now)

abbrev pub and_then : List Point → Origin → List Point
and_then points o = points ++ point_of o points ∷ []

abbrev pub points_of : List Origin → List Point
points_of = fold and_then []
