-- Outcomes whose entries are those of tasks in no batch.
use Rattle.std.proofs.Common.{◌≡◌, ℕ, false, List, [], ◌∷◌, Some, subst}
use Rattle.std.specs.FinMap as fin
use Rattle.gr_lang.specs.declared.action.Entry.{Entry}
use Rattle.gr_lang.specs.declared.action.Entry.TheVariants as entry
use Rattle.gr_lang.specs.declared.action.TaskId.{TaskId}
use Rattle.gr_lang.specs.Histories.{after}
use Rattle.gr_lang.specs.States.{Task, State}
use Rattle.gr_lang.specs.Steps.{step}
use Rattle.gr_net.specs.Sums.{Each}
use Rattle.gr_valid.proofs.Inverts.{by_found}
use Rattle.gr_machine.specs.declared.mark.Mark.{Mark}
use Rattle.gr_machine.specs.declared.mark.Mark.TheVariants as mark
use Rattle.gr_machine.specs.Histories.{Sent}
use Rattle.gr_machine.specs.Slots.{same_id}
use Rattle.gr_stands.specs.Worlds.{Given, World}
use Rattle.gr_stands.specs.CallActs.{IsOther}
use Rattle.gr_stands_outcomes.specs.Marks.{entries_from}
use Rattle.gr_batches_events.specs.Leaving.{IsNoClose, AreInNoBatch}
use Rattle.gr_batches_events.proofs.Frame.{batches_stay}
use Rattle.gr_batches_leaves.specs.Leaves.{IsOf, IsMarkOf, IsInNoBatch}
use Rattle.gr_batches_leaves.specs.Laws as laws
use Rattle.gr_batches_leaves.proofs.Steps.{step_keeps}

-- The tasks of entries.
abbrev with_task : Entry → List TaskId → List TaskId
with_task (entry.Call id op reply) ids = id ∷ ids
with_task (entry.Spawn id way target args kid) ids = id ∷ ids
with_task (entry.Finish id) ids = id ∷ ids
with_task (entry.Loop id lo hi grain target args) ids = id ∷ ids
with_task (entry.Begin owner index kid) ids = ids
with_task (entry.Pass id) ids = id ∷ ids
with_task (entry.End id) ids = id ∷ ids
with_task (entry.Trap id kind) ids = id ∷ ids
with_task entry.Over ids = ids

abbrev tasks_of : List Mark → List TaskId
tasks_of [] = []
tasks_of (mark.Entry what ∷ marks) = with_task what (tasks_of marks)
tasks_of (_ ∷ marks) = tasks_of marks

-- A task that is none of those.
other_first : (q : TaskId) (what : Entry) (ids : List TaskId) → IsOther (with_task what ids) q → IsOf (λ id. same_id q id ≡ false) what
other_first q (entry.Call id op reply) ids o = o.0
other_first q (entry.Spawn id way target args kid) ids o = o.0
other_first q (entry.Finish id) ids o = o.0
other_first q (entry.Loop id lo hi grain target args) ids o = o.0
other_first q (entry.Begin owner index kid) ids o = tt
other_first q (entry.Pass id) ids o = o.0
other_first q (entry.End id) ids o = o.0
other_first q (entry.Trap id kind) ids o = o.0
other_first q entry.Over ids o = tt

other_rest : (q : TaskId) (what : Entry) (ids : List TaskId) → IsOther (with_task what ids) q → IsOther ids q
other_rest q (entry.Call id op reply) ids o = o.1
other_rest q (entry.Spawn id way target args kid) ids o = o.1
other_rest q (entry.Finish id) ids o = o.1
other_rest q (entry.Loop id lo hi grain target args) ids o = o.1
other_rest q (entry.Begin owner index kid) ids o = o
other_rest q (entry.Pass id) ids o = o.1
other_rest q (entry.End id) ids o = o.1
other_rest q (entry.Trap id kind) ids o = o.1
other_rest q entry.Over ids o = o

both : (w : World) (id : TaskId) (ids : List TaskId) → IsInNoBatch w id → AreInNoBatch w ids → AreInNoBatch w (id ∷ ids)
both w id ids f g core slot u at one = ((f core slot u at one).0, g core slot u at one)

in_none : (w : World) (what : Entry) (ids : List TaskId) → IsOf (IsInNoBatch w) what → AreInNoBatch w ids → AreInNoBatch w (with_task what ids)
in_none w (entry.Call id op reply) ids f g = both w id ids f g
in_none w (entry.Spawn id way target args kid) ids f g = both w id ids f g
in_none w (entry.Finish id) ids f g = both w id ids f g
in_none w (entry.Loop id lo hi grain target args) ids f g = both w id ids f g
in_none w (entry.Begin owner index kid) ids f g = g
in_none w (entry.Pass id) ids f g = both w id ids f g
in_none w (entry.End id) ids f g = both w id ids f g
in_none w (entry.Trap id kind) ids f g = both w id ids f g
in_none w entry.Over ids f g = g

all_in_none : (w : World) (marks : List Mark) → Each (IsMarkOf (IsInNoBatch w)) marks → AreInNoBatch w (tasks_of marks)
all_in_none w [] f = λ core slot u at one. tt
all_in_none w (mark.Entry what ∷ marks) f = in_none w what (tasks_of marks) f.0 (all_in_none w marks f.1)
all_in_none w (mark.Closed batch calls ∷ marks) f = absurd f.0
all_in_none w (mark.Applied origin batch before ∷ marks) f = absurd f.0

-- No batch goes off.
none_closes : (w : World) (marks : List Mark) → Each (IsMarkOf (IsInNoBatch w)) marks → Each IsNoClose marks
none_closes w [] f = tt
none_closes w (mark.Entry what ∷ marks) f = (tt, none_closes w marks f.1)
none_closes w (mark.Closed batch calls ∷ marks) f = absurd f.0
none_closes w (mark.Applied origin batch before ∷ marks) f = absurd f.0

module _ (given : Given) (sent : Sent) (w : World) (me : ℕ) (q : TaskId) (x : Task) where
  entries_keep : (marks : List Mark) (S N : State) → Each (IsMarkOf (IsInNoBatch w)) marks → IsOther (tasks_of marks) q
      → after given.program given.setup.cores given.setup.steps S (entries_from sent me marks) ≡ Some N → fin.get S.tasks q ≡ Some x → fin.get N.tasks q ≡ Some x
  entries_keep [] S N f o leads h = let same : S ≡ N = cc in subst (λ (V : State). fin.get V.tasks q ≡ Some x) same h
  entries_keep (mark.Entry what ∷ marks) S N f o leads h =
      let m = by_found (step given.program given.setup.cores given.setup.steps S what)
      (λ (V : State). after given.program given.setup.cores given.setup.steps V (entries_from sent me marks)) N leads in
      entries_keep marks m.0 N f.1 (other_rest q what (tasks_of marks) o) m.2
      (step_keeps given.program given.setup.cores given.setup.steps q x S m.0 what (other_first q what (tasks_of marks) o) h m.1)
  entries_keep (mark.Closed batch calls ∷ marks) S N f o leads h = absurd f.0
  entries_keep (mark.Applied origin batch before ∷ marks) S N f o leads h = absurd f.0

pub entries_leave_batches : laws.EntriesLeaveBatches
entries_leave_batches given sent w S N me got e l letters leads old = batches_stay given sent w me got e S N (tasks_of e.marks) (record {
  calls = l.calls;
  letters = letters;
  sends = l.sends;
  marks = none_closes w e.marks l.marks;
  kept = λ id x o h. entries_keep given sent w me id x e.marks S N l.marks o leads h;
  others = all_in_none w e.marks l.marks;
}) old
