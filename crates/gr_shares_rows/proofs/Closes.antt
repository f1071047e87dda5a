-- A Close: calls go off, and no unit with them.
use Rattle.std.proofs.Common.{ℕ, List, [], ◌∷◌, ◌++◌, ◌∙◌, refl, Option, Some, None}
use Rattle.gr_lang.specs.declared.action.WaitingCall.{WaitingCall}
use Rattle.gr_batch.specs.Batches.{batches_of, rest_of}
use Rattle.gr_batch.specs.declared.combiner.Batch.{Batch}
use Rattle.gr_vector.specs.Groups.{group_of}
use Rattle.gr_machine.specs.declared.waits.Waits.{Waits}
use Rattle.gr_machine.specs.declared.waits.Waits.TheVariants as wait
use Rattle.gr_machine.specs.Machines.{Machine}
use Rattle.gr_machine.specs.States.{Suspended, Vector, Body}
use Rattle.gr_machine.specs.Outcomes.{Outcome, quietly, followed}
use Rattle.gr_machine.specs.Slots.{rewaiting_task, rewaiting}
use Rattle.gr_machine.specs.TurnServes.{with_vector}
use Rattle.gr_machine.specs.Closes.{batch_sent, batches_sent, with_combiner, closes_as, closes}
use Rattle.gr_shares_rows.specs.Rows.{LeavesWork}
use Rattle.gr_shares_rows.specs.Laws as laws
use Rattle.gr_shares_rows.proofs.Common.{Same, simply, nothing, then_leaves}

one_waits : (body : Body) (slot : ℕ) (reason : Waits) (o : Option Suspended) → Same (rewaiting_task body slot reason o) body
one_waits body slot reason None = record { work = refl; steals = refl }
one_waits body slot reason (Some task) = record { work = refl; steals = refl }

all_wait : (reason : Waits) (calls : List WaitingCall) (body : Body) → Same (rewaiting body reason calls) body
all_wait reason [] body = record { work = refl; steals = refl }
all_wait reason (call ∷ calls) body =
    let a = one_waits body call.slot reason (body.tasks.slots call.slot) in
    let b = all_wait reason calls (rewaiting_task body call.slot reason (body.tasks.slots call.slot)) in
    record { work = b.work ∙ a.work; steals = b.steals ∙ a.steals }

one_goes : (machine : Machine) (body : Body) (object : ℕ) (batch : Batch) → LeavesWork body.work body.steals (batch_sent machine body object batch)
one_goes machine body object batch =
    let r = all_wait (wait.Batch body.batches.next) batch.calls body in
    simply body.work body.steals (batch_sent machine body object batch) r.work r.steals (tt, tt) (tt, tt)

module _ (machine : Machine) (object : ℕ) (start : Body) where
  all_go : (batches : List Batch) (e : Outcome) → LeavesWork start.work start.steals e → LeavesWork start.work start.steals (batches_sent machine object e batches)
  all_go [] e f = f
  all_go (batch ∷ batches) e f =
      all_go batches (followed e (batch_sent machine e.body object batch))
      (then_leaves start.work start.steals e (batch_sent machine e.body object batch) f (one_goes machine e.body object batch))

closes_so : (machine : Machine) (body : Body) (object : ℕ) (vector : Option Vector) → LeavesWork body.work body.steals (closes_as machine body object vector)
closes_so machine body object None =
    let held = body.batches.combiners object in
    all_go machine object body (batches_of held) (quietly (with_combiner body object (rest_of held))) (nothing (with_combiner body object (rest_of held)))
closes_so machine body object (Some vector) =
    let group = group_of vector.combiner in
    let r = all_wait (wait.Turn object) group (with_vector body object (record vector { combiner = []; groups = vector.groups ++ group ∷ [] })) in
    simply body.work body.steals (closes_as machine body object (Some vector)) r.work r.steals (tt, tt) tt

pub closes_leave_work : laws.ClosesLeaveWork
closes_leave_work machine body object = closes_so machine body object (body.vectors.vectors object)

-- ---- it leaves all units, single tasks as well

all_same : (machine : Machine) (object : ℕ) (batches : List Batch) (e : Outcome) → Same (batches_sent machine object e batches).body e.body
all_same machine object [] e = record { work = refl; steals = refl }
all_same machine object (batch ∷ batches) e =
    let a = all_wait (wait.Batch e.body.batches.next) batch.calls e.body in
    let b = all_same machine object batches (followed e (batch_sent machine e.body object batch)) in
    record { work = b.work ∙ a.work; steals = b.steals ∙ a.steals }

same_so : (machine : Machine) (body : Body) (object : ℕ) (vector : Option Vector) → Same (closes_as machine body object vector).body body
same_so machine body object None =
    let held = body.batches.combiners object in
    let r = all_same machine object (batches_of held) (quietly (with_combiner body object (rest_of held))) in
    record { work = r.work; steals = r.steals }
same_so machine body object (Some vector) =
    let group = group_of vector.combiner in
    let r = all_wait (wait.Turn object) group (with_vector body object (record vector { combiner = []; groups = vector.groups ++ group ∷ [] })) in
    record { work = r.work; steals = r.steals }

pub closes_same : (machine : Machine) (body : Body) (object : ℕ) → Same (closes machine body object).body body
closes_same machine body object = same_so machine body object (body.vectors.vectors object)
