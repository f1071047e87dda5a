-- The law of a Close and the part of batches.
use Rattle.std.specs.Prelude.{◌≡◌, ℕ, ◌<◌, [], Some}
use Rattle.gr_lang.specs.States.{State}
use Rattle.gr_vector.specs.Groups.{group_of}
use Rattle.gr_machine.specs.States.{Vector}
use Rattle.gr_machine.specs.Histories.{Sent}
use Rattle.gr_machine.specs.Closes.{closes}
use Rattle.gr_stands.specs.Worlds.{Given, machine_in, World, bodies}
use Rattle.gr_stands.specs.Stands.{IsSound, Stands}
use Rattle.gr_stands_closes.specs.Closing.{AreHeld}
use Rattle.gr_batches.specs.Batches.{BatchesStand}
use Rattle.gr_batches_takes.specs.Taking.{KeepsBatches}

-- Close: the calls that wait on an object go off. That those of a vector's group wait for that is a fact of the part of turns.
abbrev pub ClosesKeepBatches : Type 0
ClosesKeepBatches =
    (given : Given) (sent : Sent) (world : World) (state : State) (me object : ℕ)
    → IsSound given → Stands given world state → BatchesStand given sent world state → me < given.setup.cores
    → ((vector : Vector) → (bodies world me).vectors.vectors object ≡ Some vector → AreHeld (bodies world me) object (group_of vector.combiner))
    → KeepsBatches given sent world me [] (closes (machine_in given) (bodies world me) object) state
