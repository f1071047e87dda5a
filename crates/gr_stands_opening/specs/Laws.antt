-- The laws of the machine before its first step, whatever the program.
use Rattle.std.specs.Prelude.{ℕ, ◌<◌}
use Rattle.gr_lang.specs.States.{opening_state}
use Rattle.gr_machine.specs.GlobalRuns.{opening_world}
use Rattle.gr_machine.specs.Nets.{world_in}
use Rattle.gr_stands.specs.Worlds.{Given, machine_in}
use Rattle.gr_stands.specs.Stands.{IsSound, Stands}

-- Whatever the program: where there is a core, and a block has words, each place of an object has an address of its own.
abbrev pub ProgramsAreSound : Type 0
ProgramsAreSound = (given : Given) → 0 < given.setup.cores → 0 < given.setup.block → IsSound given

-- Before the first step the machine stands for the opening state, in whatever slot main is.
abbrev pub OpeningsStand : Type 0
OpeningsStand =
    (given : Given) (slot : ℕ) → IsSound given → slot < given.slots
    → Stands given (world_in (opening_world (machine_in given) slot)) (opening_state given.program given.setup.steps)
