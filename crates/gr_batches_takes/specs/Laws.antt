-- The law of batches that take effect.
use Rattle.std.specs.Prelude.{ℕ, [], ◌∷◌}
use Rattle.gr_lang.specs.declared.action.Effect.{Effect}
use Rattle.gr_lang.specs.States.{State}
use Rattle.gr_msg.specs.declared.message.Msg.TheVariants as msg
use Rattle.gr_machine.specs.Serves.{serves}
use Rattle.gr_machine.specs.Histories.{Sent}
use Rattle.gr_stands.specs.Worlds.{Given, machine_in, World, bodies}
use Rattle.gr_stands.specs.Stands.{IsSound, Stands}
use Rattle.gr_stands_calls.specs.Acting.{letter, IsFirstLetter}
use Rattle.gr_batches.specs.Batches.{BatchesStand}
use Rattle.gr_batches_takes.specs.Taking.{HeapIsApart, TakesEffect}

-- Serve: a batch takes effect at the home of its key or word, as its calls would there one after another.
abbrev pub BatchesTakeEffect : Type 0
BatchesTakeEffect =
    (given : Given) (sent : Sent) (world : World) (state : State) (me from object key : ℕ) (what : Effect) (batch : ℕ)
    → IsSound given → HeapIsApart given → Stands given world state → BatchesStand given sent world state
    → IsFirstLetter given world me from (msg.Batch object key what batch)
    → TakesEffect given sent world state me (letter from (msg.Batch object key what batch) ∷ [])
    (serves (machine_in given) me (bodies world me) from (msg.Batch object key what batch))
