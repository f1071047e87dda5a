-- When a world stands for a plain state. Of the seven parts those of words and of calls are there.
use Rattle.std.specs.Prelude.{◌≡◌, ℕ, ◌<◌, List, length, Some}
use Rattle.gr_lang.specs.Objects.{Objects, address}
use Rattle.gr_lang.specs.States.{State}
use Rattle.gr_machine.specs.Machines.{Machine}
use Rattle.gr_machine.specs.Requests.{named_at}
use Rattle.gr_stands.specs.Worlds.{Given, machine_in, World, bodies}
use Rattle.gr_stands.specs.Memory.{WordsStand}
use Rattle.gr_stands.specs.Calls.{CallsStand}

-- There is a core and a block has words; and each place of an object has an address of its own, which is that of a word and by which the place is named.
pub record IsSound (given : Given) : Type 0 where
  pub cores : 0 < given.setup.cores
  pub block : 0 < given.setup.block
  pub named : (object place at : ℕ) → address (machine_in given).code.objects object place ≡ Some at → named_at (machine_in given) at ≡ (object, place)
  pub inside : (object place at : ℕ) → address (machine_in given).code.objects object place ≡ Some at → at < length (machine_in given).code.objects.words

pub record Stands (given : Given) (world : World) (state : State) : Type 0 where
  pub words : WordsStand (machine_in given) (bodies world) state.objects
  pub calls : CallsStand given world state
