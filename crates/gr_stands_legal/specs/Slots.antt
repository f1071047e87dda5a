-- What a run of a setup and a program is given: a number above all slots that its steps name, which is chosen when they are known.
use Rattle.std.specs.Prelude.{ℕ, ◌+◌, List}
use Rattle.gr_syntax.specs.declared.syntax.Program.{Program}
use Rattle.gr_net.specs.Sums.{weigh}
use Rattle.gr_machine.specs.declared.setup.Setup.{Setup}
use Rattle.gr_machine.specs.GlobalRuns.{Step}
use Rattle.gr_stands.specs.Worlds.{Given}

-- The sum of the slots that the new tasks of a step take.
abbrev pub slots_in : Step → ℕ
slots_in step = weigh (λ slot. slot) step.1.slots

-- One above the slot of main and the sum of all slots of these steps: each of them is below.
abbrev pub above_slots : ℕ → List Step → ℕ
above_slots slot steps = slot + weigh slots_in steps + 1

-- The program, the setup, and that number.
abbrev pub given_for : Setup → Program → ℕ → List Step → Given
given_for setup program slot steps = record { program = program; setup = setup; slots = above_slots slot steps }
