-- Outcomes that leave the work of a core, one after another, and those that change nothing of it.
use Rattle.std.proofs.Common.{◌≡◌, ℕ, List, [], ◌∷◌, ◌++◌, ◌∙◌, ap, refl, Option, Some, None}
use Rattle.gr_lang.specs.declared.action.TaskId.{TaskId}
use Rattle.gr_msg.specs.declared.message.ScopeId.{ScopeId}
use Rattle.gr_msg.specs.declared.message.Unit.{Unit as WorkUnit}
use Rattle.gr_msg.specs.declared.message.Unit.TheVariants as unit
use Rattle.gr_batch.specs.declared.wakes.Woken.{Woken}
use Rattle.gr_work.specs.Queues.{Queues}
use Rattle.gr_net.specs.Sums.{Each}
use Rattle.gr_net.proofs.Spreads.{Each-append}
use Rattle.gr_machine.specs.Machines.{Machine}
use Rattle.gr_machine.specs.States.{Suspended, Steals, Body}
use Rattle.gr_machine.specs.Outcomes.{Outcome, Send, quietly, followed}
use Rattle.gr_machine.specs.Slots.{resumed, resumed_task, resumed_all}
use Rattle.gr_shares_units.specs.Leaving.{IsOfNoShare, with_chunk, chunks_in}
use Rattle.gr_shares_rows.specs.Rows.{MarksNoIndex, LeavesWork}

-- ---- outcomes

-- Units and questions are as they were.
pub simply : (work : Queues) (steals : Steals) (e : Outcome) → e.body.work ≡ work → e.body.steals ≡ steals → Each (λ (s : Send). IsOfNoShare s.message) e.sends → Each MarksNoIndex e.marks
    → LeavesWork work steals e
simply work steals e same asked sends marks = record {
  private = ap (λ (q : Queues). chunks_in q.private) same;
  public = ap (λ (q : Queues). chunks_in q.public) same;
  steals = asked;
  sends = sends;
  marks = marks;
}

-- Nothing is done.
pub nothing : (body : Body) → LeavesWork body.work body.steals (quietly body)
nothing body = simply body.work body.steals (quietly body) refl refl tt tt

pub then_leaves : (work : Queues) (steals : Steals) (e f : Outcome) → LeavesWork work steals e → LeavesWork e.body.work e.body.steals f → LeavesWork work steals (followed e f)
then_leaves work steals e f a b = record {
  private = b.private ∙ a.private;
  public = b.public ∙ a.public;
  steals = b.steals ∙ a.steals;
  sends = Each-append (λ (s : Send). IsOfNoShare s.message) e.sends f.sends a.sends b.sends;
  marks = Each-append MarksNoIndex e.marks f.marks a.marks b.marks;
}

-- ---- a single task that comes last

pub with_single : (us : List WorkUnit) (target : ℕ) (args : List ℕ) (scope : ScopeId) (origin : ℕ) (id : TaskId) → chunks_in (us ++ unit.Single target args scope origin id ∷ []) ≡ chunks_in us
with_single [] target args scope origin id = refl
with_single (u ∷ us) target args scope origin id = ap (with_chunk u) (with_single us target args scope origin id)

-- ---- tasks that go on

-- The units and the questions are the same.
pub record Same (a b : Body) : Type 0 where
  pub work : a.work ≡ b.work
  pub steals : a.steals ≡ b.steals

pub one_resumed : (machine : Machine) (body : Body) (slot : ℕ) (answer : _) (o : Option Suspended) → Same (resumed_task machine body slot answer o) body
one_resumed machine body slot answer None = record { work = refl; steals = refl }
one_resumed machine body slot answer (Some task) = record { work = refl; steals = refl }

pub all_resumed : (machine : Machine) (wakes : List Woken) (body : Body) → Same (resumed_all machine body wakes) body
all_resumed machine [] body = record { work = refl; steals = refl }
all_resumed machine (wake ∷ wakes) body =
    let a = one_resumed machine body wake.slot wake.reply (body.tasks.slots wake.slot) in
    let b = all_resumed machine wakes (resumed machine body wake.slot wake.reply) in
    record { work = b.work ∙ a.work; steals = b.steals ∙ a.steals }
