-- What a machine is given: the numbers of its setup, and what it takes of a program.
use Rattle.std.specs.Prelude.{ℕ, ◌%◌, ◌==◌, Bool, false, nat_lt, List, length, map, slice_get, Option, codes}
use Rattle.std.specs.Option.{option_map_or}
use Rattle.gr_syntax.specs.declared.syntax.Program.{Program}
use Rattle.gr_syntax.specs.Items.{TaskText, tasks_of}
use Rattle.gr_lang.specs.declared.action.Reply.{Reply}
use Rattle.gr_lang.specs.Objects.{Object, Objects}
use Rattle.gr_lang.specs.Openings.{opening, target_of}
use Rattle.gr_lang.specs.Next.{Running, Stands, next, start, go_on}
use Rattle.gr_addr.specs.Dealing.{home_of, place_of}
use Rattle.gr_machine.specs.declared.setup.Setup.{Setup}

-- What the machine takes of a program: how its tasks start and how they go on after a reply, each up to its next action; the number of main; the number of
-- parameters of each task; and the opening objects.
pub record Code : Type 0 where
  pub start : ℕ → List ℕ → Stands
  pub go_on : Running → Reply → Stands
  pub main : ℕ
  pub params : List ℕ
  pub objects : Objects

-- The code of a program, with this limit of pure steps.
abbrev pub code_of : Program → ℕ → Code
code_of program limit = record {
  start = λ target words. next program limit (start program target words);
  go_on = λ running reply. next program limit (go_on running reply);
  main = target_of program (codes "main");
  params = map (λ (task : TaskText). length task.params) (tasks_of program.items);
  objects = opening program;
}

pub record Machine : Type 0 where
  pub setup : Setup
  pub code : Code

-- The machine of a program.
abbrev pub machine_of : Setup → Program → Machine
machine_of setup program = record { setup = setup; code = code_of program setup.steps }

-- Whether there is a core of this number.
abbrev pub is_core : Machine → ℕ → Bool
is_core machine core = nat_lt core machine.setup.cores

-- The core at which the word of an address lies, and its place there.
abbrev pub home : Machine → ℕ → ℕ
home machine at = home_of machine.setup.cores machine.setup.block at

abbrev pub place : Machine → ℕ → ℕ
place machine at = place_of machine.setup.cores machine.setup.block at

-- The core that keeps the master of a vector, or what stands under a key.
abbrev pub numbered_home : Machine → ℕ → ℕ
numbered_home machine number = number % machine.setup.cores

-- What the object of this number is at the start, which says of which kind it is. The heap has no place among the others.
abbrev pub thing : Machine → ℕ → Option Object
thing machine object = slice_get machine.code.objects.things object

-- Whether there is a task of this number with so many parameters.
abbrev pub has_task : Machine → ℕ → ℕ → Bool
has_task machine target count = option_map_or (λ params. params == count) (slice_get machine.code.params target) false
