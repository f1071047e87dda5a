-- The laws of calls that go off and come back.
use Rattle.std.specs.Prelude.{◌≡◌, ℕ, ◌<◌, List, [], ◌∷◌, Option, Some}
use Rattle.gr_lang.specs.States.{State}
use Rattle.gr_msg.specs.declared.message.Msg.TheVariants as msg
use Rattle.gr_machine.specs.Outcomes.{Outcome}
use Rattle.gr_machine.specs.Closes.{closes}
use Rattle.gr_machine.specs.Serves.{serves}
use Rattle.gr_stands.specs.Worlds.{Given, machine_in, World, bodies}
use Rattle.gr_stands.specs.Stands.{IsSound, Stands}
use Rattle.gr_stands_calls.specs.Acting.{letter, IsFirstLetter, ActsQuietly}
use Rattle.gr_stands_closes.specs.Closing.{ActsInside, CloseTells, BatchTells}

-- Close: the calls that wait on an object go off, as batches or as a group.
abbrev pub CallsGoOff : Type 0
CallsGoOff =
    (given : Given) (world : World) (state : State) (me object : ℕ)
    → IsSound given → Stands given world state → me < given.setup.cores → CloseTells world me object
    → ActsInside given world state me [] (closes (machine_in given) (bodies world me) object)

-- Serve: the calls of a batch get their replies, and their tasks go on as in the plain state.
abbrev pub BatchesComeBack : Type 0
BatchesComeBack =
    (given : Given) (world : World) (state : State) (me from batch : ℕ) (before : Option ℕ) (outcome : Outcome)
    → Stands given world state → IsFirstLetter given world me from (msg.BatchReply batch before) → BatchTells given world state me batch before
    → serves (machine_in given) me (bodies world me) from (msg.BatchReply batch before) ≡ Some outcome
    → ActsQuietly given world state me (letter from (msg.BatchReply batch before) ∷ []) (Some outcome)
