-- The laws of the runs of a setup and a program.
use Rattle.std.specs.Prelude.{◌≡◌, ℕ, ◌<◌, true, List, ◌++◌, Some}
use Rattle.gr_syntax.specs.declared.syntax.Program.{Program}
use Rattle.gr_lang.specs.declared.action.Entry.{Entry}
use Rattle.gr_lang.specs.Histories.{legal}
use Rattle.gr_machine.specs.declared.setup.Setup.{Setup}
use Rattle.gr_machine.specs.Machines.{machine_of}
use Rattle.gr_machine.specs.Histories.{history}
use Rattle.gr_machine.specs.GlobalRuns as runs
use Rattle.gr_machine.specs.GlobalRuns.{Step, global_run}
use Rattle.gr_posts.specs.Posts.{IsSetup}
use Rattle.gr_stands.specs.Worlds.{Given, machine_in}
use Rattle.gr_stands.specs.Stands.{IsSound}
use Rattle.gr_stands_histories.specs.Running.{AllSlotsFit}
use Rattle.gr_fits.specs.Reached.{RunsAccepted}
use Rattle.gr_bounds_stands.specs.Telling.{HasFewSteps}
use Rattle.gr_runnable.specs.Runnable.{IsRunnable}
use Rattle.gr_stands_legal.specs.Slots.{given_for}
use Rattle.gr_stands_legal.specs.Holding.{EndHolds, HistoryHolds}

-- What is given where the setup is one and the program can be run, whatever the number of slots: each place of an object has an address of its own; the cores' clocks
-- allow fewer than 2^63 steps; and the program is accepted, with one heap.
abbrev pub SetupsAreSound : Type 0
SetupsAreSound = (given : Given) → IsSetup given.setup → IsSound given

abbrev pub SetupsHaveFewSteps : Type 0
SetupsHaveFewSteps = (given : Given) → IsSetup given.setup → HasFewSteps given

abbrev pub RunnableProgramsAreAccepted : Type 0
RunnableProgramsAreAccepted = (given : Given) → IsRunnable given.program → RunsAccepted given

-- The slot of main and those of all steps are below the number that is chosen for them.
abbrev pub SlotsOfRunsFit : Type 0
SlotsOfRunsFit =
    (setup : Setup) (program : Program) (slot : ℕ) (steps : List Step)
    → (slot < (given_for setup program slot steps).slots) × AllSlotsFit (given_for setup program slot steps) steps

-- Where all slots of some steps are below a number, so are those of each front of them.
abbrev pub SlotsOfFrontsFit : Type 0
SlotsOfFrontsFit = (given : Given) (front rest : List Step) → AllSlotsFit given (front ++ rest) → AllSlotsFit given front

-- Each run whose slots are below the number that is given: its history is legal, and the machine stands for the plain memory after it, with all parts.
abbrev pub GivenRunsHold : Type 0
GivenRunsHold =
    (given : Given) → IsSetup given.setup → IsRunnable given.program
    → (slot : ℕ) (steps : List Step) (world : runs.World) → slot < given.slots → AllSlotsFit given steps
    → global_run (machine_in given) slot steps ≡ Some world → EndHolds given world

-- Each run, with the number that is chosen for it; and each front of a run's steps, with the number that is chosen for all of them.
abbrev pub RunsHold : Type 0
RunsHold =
    (setup : Setup) (program : Program) → IsSetup setup → IsRunnable program
    → (slot : ℕ) (steps : List Step) (world : runs.World) → global_run (machine_of setup program) slot steps ≡ Some world
    → EndHolds (given_for setup program slot steps) world

abbrev pub FrontsHold : Type 0
FrontsHold =
    (setup : Setup) (program : Program) → IsSetup setup → IsRunnable program
    → (slot : ℕ) (front rest : List Step) (world : runs.World) → global_run (machine_of setup program) slot front ≡ Some world
    → EndHolds (given_for setup program slot (front ++ rest)) world

-- A history of a run is that of the marks at its end, where all that holds of runs holds.
abbrev pub HistoriesHold : Type 0
HistoriesHold =
    (setup : Setup) (program : Program) → IsSetup setup → IsRunnable program
    → (slot : ℕ) (steps : List Step) (entries : List Entry) → history (machine_of setup program) slot steps ≡ Some entries
    → HistoryHolds setup program slot steps entries

-- So it is one that the plain memory allows.
abbrev pub HistoriesAreLegal : Type 0
HistoriesAreLegal =
    (setup : Setup) (program : Program) → IsSetup setup → IsRunnable program
    → (slot : ℕ) (steps : List Step) (entries : List Entry) → history (machine_of setup program) slot steps ≡ Some entries
    → legal program setup.cores setup.steps entries ≡ true
