-- What calls that wait on vectors tell.
use Rattle.std.proofs.Common.{◌≡◌, ℕ, sym, ◌∙◌, ap, Some}
use Rattle.gr_lang.specs.declared.action.WaitingCall.{WaitingCall}
use Rattle.gr_vector.specs.Groups.{group_of}
use Rattle.gr_net.proofs.Spreads.{Each-map}
use Rattle.gr_machine.specs.declared.waits.Waits.TheVariants as wait
use Rattle.gr_machine.specs.States.{Suspended, Vector, Body}
use Rattle.gr_stands.specs.Worlds.{Given, bodies}
use Rattle.gr_stands_closes.specs.Closing.{AreHeld}
use Rattle.gr_lines.specs.Lines.{tasks_on}
use Rattle.gr_lines.specs.Waiting.{IsWaiting, HasLines}
use Rattle.gr_lines_tells.specs.Laws as laws
use Rattle.gr_lines_calls.proofs.Counts.{some_same, on_some, group_each}
use Rattle.gr_lines_calls.proofs.Changes.{calls_there}

pub vectors_tell : laws.VectorsTell
vectors_tell given world lines core object here is = (lines core).vectors object ∙ is

pub askers_tell : laws.AskersTell
askers_tell given world lines core vector turns there = (lines core).askers vector turns there

held_call : (body : Body) (object : ℕ) (call : WaitingCall) → IsWaiting (tasks_on object body) object (wait.Close object) call
    → (task : Suspended) → body.tasks.slots call.slot ≡ Some task → task.waits ≡ wait.Close object
held_call body object call w task there =
    ap (λ (x : Suspended). x.waits) (some_same task w.task (sym there ∙ (on_some object (body.tasks.slots call.slot) w.task w.there).0)) ∙ w.waits

-- The calls of the combiner wait for that, and so do those of the group.
held_group : (given : Given) (me object : ℕ) (body : Body) (vector : Vector) → HasLines given me body → body.vectors.vectors object ≡ Some vector → AreHeld body object (group_of vector.combiner)
held_group given me object body vector old there =
    group_each (λ call. (task : Suspended) → body.tasks.slots call.slot ≡ Some task → task.waits ≡ wait.Close object) vector.combiner
    (Each-map (IsWaiting (tasks_on object body) object (wait.Close object)) (λ call. (task : Suspended) → body.tasks.slots call.slot ≡ Some task → task.waits ≡ wait.Close object)
    (held_call body object) vector.combiner (calls_there given me object body vector old there).combined)

pub groups_tell : laws.GroupsTell
groups_tell given world me object lines off = record {
  batches = off;
  group = λ vector there. held_group given me object (bodies world me) vector (lines me) there;
}
