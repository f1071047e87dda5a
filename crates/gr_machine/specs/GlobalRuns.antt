-- Global runs: the cores, with the packets that are under way between each two, step by step; and when a run is over.
use Rattle.std.specs.Prelude.{ℕ, zero, suc, not, Bool, false, ◌||◌, nat_lt, List, Option}
use Rattle.gr_merge.specs.GlobalRuns as merging
use Rattle.gr_merge.specs.GlobalRuns.{opening, fold_global}
use Rattle.gr_machine.specs.declared.journal.Stamped.{Stamped}
use Rattle.gr_machine.specs.declared.journal.StampedMark.{StampedMark}
use Rattle.gr_machine.specs.Machines.{Machine}
use Rattle.gr_machine.specs.States.{Core}
use Rattle.gr_machine.specs.Events.{Packet}
use Rattle.gr_machine.specs.Steppers.{CountedCore, unused_core, stepper}

-- A core and an entry of its journal.
abbrev pub Step : Type 0
Step = ℕ × Stamped

-- The cores by number, the packets that the first core has shipped to the second and that hasn't taken, and the marks with their cores.
abbrev pub World : Type 0
World = merging.World CountedCore Packet StampedMark

-- Before the first step, where main is in this slot of core 0.
abbrev pub opening_world : Machine → ℕ → World
opening_world machine slot = opening (unused_core machine slot)

-- A global run: some steps from the start, one after another. Nothing where one of them can't be made.
abbrev pub global_run : Machine → ℕ → List Step → Option World
global_run machine slot steps = fold_global (stepper machine) (opening_world machine slot) steps

-- A run is over where the root scope is passed, a task is trapped, or a clock has come to its limit, at one of the first cores, so many.
abbrev pub is_done : Machine → Core → Bool
is_done machine core = core.body.stops.passed || core.body.stops.trapped || not (nat_lt core.clock machine.setup.events)

abbrev pub is_over : Machine → World → ℕ → Bool
is_over machine world zero = false
is_over machine world (suc core) = is_done machine (world.states core).core || is_over machine world core
