-- The laws of calls that wait on vectors, whatever happens.
use Rattle.std.specs.Prelude.{◌≡◌, ℕ, List, Option}
use Rattle.gr_view.specs.Places.{put}
use Rattle.gr_machine.specs.States.{Letter, Suspended, Body}
use Rattle.gr_machine.specs.Outcomes.{Outcome}
use Rattle.gr_machine.specs.GlobalRuns.{opening_world}
use Rattle.gr_machine.specs.Nets.{world_in}
use Rattle.gr_stands.specs.Worlds.{Given, machine_in, World, Acts, Moves}
use Rattle.gr_lines.specs.Waiting.{HasLines, LinesStand}
use Rattle.gr_lines.specs.Leaving.{IsOffLines, LeavesLines}

-- An outcome after which its core has its lines keeps the part.
abbrev pub LinesAreKept : Type 0
LinesAreKept =
    (given : Given) (world next : World) (me : ℕ) (got : List Letter) (outcome : Outcome)
    → Acts given.setup.cores world next me got outcome → HasLines given me outcome.body → LinesStand given world → LinesStand given next

-- A Ship and a Take keep it.
abbrev pub MovesKeepLines : Type 0
MovesKeepLines = (given : Given) (world next : World) → Moves given.setup.cores world next → LinesStand given world → LinesStand given next

-- Before the first step the machine has it.
abbrev pub OpeningsHaveLines : Type 0
OpeningsHaveLines = (given : Given) (slot : ℕ) → LinesStand given (world_in (opening_world (machine_in given) slot))

-- Then the core has its lines as before.
abbrev pub LinesStay : Type 0
LinesStay = (given : Given) (me : ℕ) (before after : Body) → LeavesLines given before after → HasLines given me before → HasLines given me after

-- So it is where one slot has another task, and neither waits on a vector.
abbrev pub OtherSlotsChange : Type 0
OtherSlotsChange =
    (given : Given) (before after : Body) (slot : ℕ) (held : Option Suspended)
    → after.vectors ≡ before.vectors → after.tasks.slots ≡ put before.tasks.slots slot held
    → IsOffLines given (before.tasks.slots slot) → IsOffLines given held → LeavesLines given before after
