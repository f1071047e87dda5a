-- The laws of what calls that wait on vectors tell: the premises of events in the parts of words and of calls.
use Rattle.std.specs.Prelude.{◌≡◌, ℕ, None}
use Rattle.gr_batch.specs.Batches.{batches_of}
use Rattle.gr_net.specs.Sums.{Each}
use Rattle.gr_stands.specs.Worlds.{Given, World, bodies}
use Rattle.gr_stands_changes.specs.Quiet.{TurnsAreOfCores}
use Rattle.gr_stands_closes.specs.Closing.{AreHeld, CloseTells}
use Rattle.gr_stands_runs.specs.Telling.{VectorsStand}
use Rattle.gr_lines.specs.Waiting.{LinesStand}

-- Each core has each vector.
abbrev pub VectorsTell : Type 0
VectorsTell = (given : Given) (world : World) → LinesStand given world → VectorsStand given world

-- The cores that asked for a turn are cores that there are.
abbrev pub AskersTell : Type 0
AskersTell = (given : Given) (world : World) → LinesStand given world → TurnsAreOfCores given world

-- What goes off on an object is calls that wait for that, where the part of batches says so of batches.
abbrev pub GroupsTell : Type 0
GroupsTell =
    (given : Given) (world : World) (me object : ℕ) → LinesStand given world
    → ((bodies world me).vectors.vectors object ≡ None → Each (λ batch. AreHeld (bodies world me) object batch.calls) (batches_of ((bodies world me).batches.combiners object)))
    → CloseTells world me object
