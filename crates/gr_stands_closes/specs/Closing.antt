-- What calls that go off and come back need of the part of batches; and outcomes of which no mark is an entry.
use Rattle.std.specs.Prelude.{◌≡◌, ℕ, ◌<◌, List, Some, None, Option}
use Rattle.gr_lang.specs.declared.action.WaitingCall.{WaitingCall}
use Rattle.gr_lang.specs.States.{State}
use Rattle.gr_batch.specs.Batches.{batches_of}
use Rattle.gr_batch.specs.Folding.{wakes_of}
use Rattle.gr_vector.specs.Groups.{group_of}
use Rattle.gr_net.specs.Sums.{Each}
use Rattle.gr_machine.specs.declared.mark.Mark.{Mark}
use Rattle.gr_machine.specs.declared.mark.Mark.TheVariants as mark
use Rattle.gr_machine.specs.declared.waits.Waits.TheVariants as wait
use Rattle.gr_machine.specs.States.{Letter, Suspended, Vector, Body}
use Rattle.gr_machine.specs.Outcomes.{Outcome}
use Rattle.gr_stands.specs.Worlds.{Given, machine_in, World, bodies}
use Rattle.gr_stands_calls.specs.Acting.{Keeps}
use Rattle.gr_stands_series.specs.Lists.{AllMayGoOn}

-- A mark that is no entry of the history.
abbrev pub IsNoEntry : Mark → Type 0
IsNoEntry (mark.Entry what) = ⊥
IsNoEntry _ = Unit

-- The outcome sends to cores that there are, no mark of it is an entry, and the world stands for the same plain state after it.
pub record ActsInside (given : Given) (world : World) (state : State) (me : ℕ) (got : List Letter) (outcome : Outcome) : Type 0 where
  pub sends : Each (λ send. send.to < given.setup.cores) outcome.sends
  pub marks : Each IsNoEntry outcome.marks
  pub keeps : Keeps given world me got outcome state

-- The task in the slot of each of these calls waits for the calls on this object to go off.
abbrev pub AreHeld : Body → ℕ → List WaitingCall → Type 0
AreHeld body object calls = Each (λ call. (task : Suspended) → body.tasks.slots call.slot ≡ Some task → task.waits ≡ wait.Close object) calls

-- Facts of the parts of batches and of turns: what goes off on an object is calls that wait for that.
pub record CloseTells (world : World) (me object : ℕ) : Type 0 where
  pub batches : (bodies world me).vectors.vectors object ≡ None → Each (λ batch. AreHeld (bodies world me) object batch.calls) (batches_of ((bodies world me).batches.combiners object))
  pub group : (vector : Vector) → (bodies world me).vectors.vectors object ≡ Some vector → AreHeld (bodies world me) object (group_of vector.combiner)

-- A fact of the part of batches: the plain state has the task of each call of a batch that comes back after its call, with the reply that it gets.
abbrev pub BatchTells : Given → World → State → ℕ → ℕ → Option ℕ → Type 0
BatchTells given world state me batch before =
    (calls : List WaitingCall) → (bodies world me).batches.flying batch ≡ Some calls → AllMayGoOn (machine_in given) state (bodies world me) (wakes_of calls before)
