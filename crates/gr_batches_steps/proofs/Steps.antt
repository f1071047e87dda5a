-- Each piece of a step keeps the part of batches.
use Rattle.std.proofs.Common.{◌≡◌, ℕ, Bool, true, false, if◌then◌else◌, List, [], ◌∷◌, sym, ◌∙◌, ap, subst, refl, Option, Some, None}
use Rattle.gr_lang.specs.declared.action.Action.{Action}
use Rattle.gr_lang.specs.declared.action.Action.TheVariants as action
use Rattle.gr_lang.specs.declared.action.Effect.{Effect}
use Rattle.gr_lang.specs.declared.action.Op.{Op}
use Rattle.gr_lang.specs.declared.action.TaskId.{TaskId}
use Rattle.gr_lang.specs.declared.action.WaitingCall.{WaitingCall}
use Rattle.gr_lang.specs.Histories.{after}
use Rattle.gr_lang.specs.States.{State}
use Rattle.gr_msg.specs.declared.message.Msg.{Msg}
use Rattle.gr_msg.specs.declared.message.Msg.TheVariants as msg
use Rattle.gr_msg.specs.declared.message.Unit.{Unit as WorkUnit}
use Rattle.gr_msg.specs.declared.message.Unit.TheVariants as unit
use Rattle.gr_batch.specs.Batches.{batches_of, rest_of}
use Rattle.gr_batch.specs.Folding.{wakes_of}
use Rattle.gr_batch.specs.declared.combiner.Batch.{Batch}
use Rattle.gr_net.specs.Sums.{Each}
use Rattle.gr_net.proofs.Spreads.{Each-append}
use Rattle.gr_machine.specs.declared.mark.Mark.{Mark}
use Rattle.gr_machine.specs.declared.waits.Waits.TheVariants as wait
use Rattle.gr_machine.specs.Machines.{Machine}
use Rattle.gr_machine.specs.States.{Letter, Suspended, Vector, Body}
use Rattle.gr_machine.specs.Outcomes.{Send, Outcome, quietly, followed}
use Rattle.gr_machine.specs.Histories.{Sent}
use Rattle.gr_machine.specs.Calls.{called}
use Rattle.gr_machine.specs.Runs.{acts, without_ready, without_unit, starts, splits, begins}
use Rattle.gr_machine.specs.Slots.{resumed_all}
use Rattle.gr_machine.specs.BatchServes.{can_wake, without_batch, batch_replied}
use Rattle.gr_machine.specs.Serves.{serves}
use Rattle.gr_machine.specs.Closes.{batch_sent, batches_sent, with_combiner, closes_as, closes}
use Rattle.gr_machine.specs.Events.{gifts, gives, asks, slot_of}
use Rattle.gr_stands.specs.Worlds.{Given, machine_in, World, bodies}
use Rattle.gr_stands.specs.Calls.{MessageFits, RequestFits}
use Rattle.gr_stands.specs.CallActs.{in_batch}
use Rattle.gr_stands.specs.Stands.{IsSound, Stands}
use Rattle.gr_stands_calls.specs.Acting.{IsFirst, letter, IsFirstLetter}
use Rattle.gr_stands_calls.proofs.Common.{first_goes}
use Rattle.gr_stands_calls.proofs.Slots.{some_same}
use Rattle.gr_stands_outcomes.specs.Inner.{outcome_of}
use Rattle.gr_stands_outcomes.specs.Marks.{entries_from}
use Rattle.gr_stands_steps.specs.Telling.{message_outcome}
use Rattle.gr_stands_steps.proofs.Marks.{IsClosed, closed_entries}
use Rattle.gr_stands_made.specs.Pieces.{Starts, RunStarts, ran_at, ended_at}
use Rattle.gr_stands_made.specs.Rows.{RunRows}
use Rattle.gr_stands_made.proofs.Rows.{rows_are_found}
use Rattle.gr_batches.specs.Batches.{BatchesStand}
use Rattle.gr_batches.specs.Keys.{IsOn}
use Rattle.gr_batches.specs.Staying.{IsFree, CallsStay}
use Rattle.gr_batches.proofs.Kept.{batches_moved}
use Rattle.gr_batches_takes.specs.Taking.{HeapIsApart, KeepsBatches, TakesEffect}
use Rattle.gr_batches_takes.proofs.Takes.{batches_take_effect}
use Rattle.gr_batches_events.specs.Leaving.{IsNoMail}
use Rattle.gr_batches_events.proofs.Frame.{batched_tasks_are_others}
use Rattle.gr_batches_events.proofs.Joins.{calls_join}
use Rattle.gr_batches_events.proofs.Comes.{batch_replies_keep_batches}
use Rattle.gr_batches_closes.proofs.Goes.{closes_keep_batches}
use Rattle.gr_batches_leaves.specs.Leaves.{IsInNoBatch, LeavesCalls}
use Rattle.gr_batches_leaves.proofs.Leaves.{entries_leave_batches}
use Rattle.gr_batches_steps.specs.Laws as laws
use Rattle.gr_batches_steps.proofs.Stays.{IsOff, going_off, free_none, free_there, stays}
use Rattle.gr_batches_steps.proofs.Choices.{Made}
use Rattle.gr_batches_steps.proofs.Tasks.{task_row, starts_leave, begins_leave, quiet_leaves}
use Rattle.gr_batches_steps.proofs.Messages.{AskerIs, message_leaves}
use Rattle.gr_batches_steps.proofs.Ends.{end_leaves}

-- ---- marks that are no entries

sent_marks : (machine : Machine) (object : ℕ) (batches : List Batch) (e : Outcome) → Each IsClosed e.marks → Each IsClosed (batches_sent machine object e batches).marks
sent_marks machine object [] e f = f
sent_marks machine object (batch ∷ batches) e f =
    sent_marks machine object batches (followed e (batch_sent machine e.body object batch)) (Each-append IsClosed e.marks (batch_sent machine e.body object batch).marks f (tt, tt))

closes_marks : (machine : Machine) (body : Body) (object : ℕ) (vector : Option Vector) → Each IsClosed (closes_as machine body object vector).marks
closes_marks machine body object None =
    sent_marks machine object (batches_of (body.batches.combiners object)) (quietly (with_combiner body object (rest_of (body.batches.combiners object)))) tt
closes_marks machine body object (Some vector) = tt

reply_marks : (machine : Machine) (body : Body) (batch : ℕ) (before : Option ℕ) (calls : Option (List WaitingCall)) → (outcome_of body (batch_replied machine body batch before calls)).marks ≡ []
reply_marks machine body batch before None = refl
reply_marks machine body batch before (Some calls) = by (can_wake body batch before calls)
  where
    by : (t : Bool) → (outcome_of body (if t then Some (quietly (without_batch (resumed_all machine body (wakes_of calls before)) batch)) else None)).marks ≡ []
    by true = refl
    by false = refl

gifts_none : (cores : List ℕ) (units : List WorkUnit) → Each (λ (send : Send). IsNoMail send.message) (gifts cores units)
gifts_none [] units = tt
gifts_none (core ∷ cores) [] = tt
gifts_none (core ∷ cores) (unit ∷ units) = (tt, gifts_none cores units)

-- ---- messages by kind

data Kind (m : Msg) : Type 0 where
  batch : (object key : ℕ) (what : Effect) (number : ℕ) → m ≡ msg.Batch object key what number → Kind m
  reply : (number : ℕ) (before : Option ℕ) → m ≡ msg.BatchReply number before → Kind m
  other : IsNoMail m → Kind m

kind_of : (m : Msg) → Kind m
kind_of (msg.Batch object key what number) = batch object key what number refl
kind_of (msg.BatchReply number before) = reply number before refl
kind_of _ = other tt

module _ (given : Given) (sent : Sent) (w v : World) (S N : State) (me : ℕ) (st : Stands given w S) (old : BatchesStand given sent w S) where
  abbrev machine : Machine
  machine = machine_in given

  abbrev base : Body
  base = bodies w me

  abbrev Fact : TaskId → Type 0
  Fact id = IsInNoBatch w id

  abbrev Leads : List Mark → Type 0
  Leads marks = after given.program given.setup.cores given.setup.steps S (entries_from sent me marks) ≡ Some N

  -- What keeps the part where its entries lead to the next plain state.
  abbrev Row : List Letter → Outcome → Type 0
  Row got e = Leads e.marks → KeepsBatches given sent w me got e N

  leaves : (got : List Letter) → Each (λ letter. IsNoMail letter.message) got → (e : Outcome) → LeavesCalls Fact base e → Row got e
  leaves got none e l leads = entries_leave_batches given sent w S N me got e l none leads old

  -- Where no entry is made, the plain state stays.
  inside : (got : List Letter) (e : Outcome) → entries_from sent me e.marks ≡ [] → KeepsBatches given sent w me got e S → Row got e
  inside got e none keeps leads = subst (KeepsBatches given sent w me got e)
      (some_same S N (sym (ap (after given.program given.setup.cores given.setup.steps S) none) ∙ leads)) keeps

  fact : (slot : ℕ) (task : Suspended) → base.tasks.slots slot ≡ Some task → in_batch task.waits ≡ 0 → Fact task.id
  fact slot task there z = batched_tasks_are_others given w S me slot task st there z

  self : (after : Body) → after.batches ≡ base.batches → after.vectors ≡ base.vectors → after.tasks.slots ≡ base.tasks.slots → CallsStay base after
  self after batches vectors slots = stays base after batches vectors slots

  -- ---- a Run

  module _ (slots : List ℕ) where
    abbrev slot : ℕ
    slot = slot_of slots

    abbrev rest : Body
    rest = without_unit base

    free_slot : base.tasks.slots slot ≡ None → IsFree base (base.tasks.slots slot)
    free_slot none = subst (IsFree base) (sym none) (free_none base)

    task_acts : (number : ℕ) (more : List ℕ) (task : Suspended) → IsFirst w me number more task → Row [] (acts machine me (without_ready base) number task task.action)
    task_acts number more task first =
        let going : task.waits ≡ wait.Going = first_goes given w S me number more task st first in
        let off : IsOff task.waits = subst IsOff (sym going) going_off in
        task_row Fact machine me base (without_ready base) number task (self (without_ready base) refl refl refl)
        (free_there base (base.tasks.slots number) (λ t at. subst (λ (x : Suspended). IsOff x.waits) (some_same task t (sym first.there ∙ at)) off))
        (fact number task first.there off.alone) (Row []) refl (leaves [] tt) joined task.action refl
      where
        joined : (call : Op) (object key : ℕ) → task.action ≡ action.Call call → IsOn machine object key call → (called machine (without_ready base) number task call).marks ≡ []
            → Row [] (called machine (without_ready base) number task call)
        joined call object key due on none = inside [] (called machine (without_ready base) number task call) (ap (entries_from sent me) none)
            (subst (λ (a : Action). KeepsBatches given sent w me [] (acts machine me (without_ready base) number task a) S) due
            (calls_join given sent w S me number more task call object key st old first due on))

    run_rows : RunRows given w S me slots (Row [])
    run_rows = record {
      task = λ number more task first stood fits. task_acts number more task first;
      single = λ target args scope origin id next free. leaves [] tt (starts machine rest slot target args scope origin id)
          (starts_leave Fact machine me base rest slot (self rest refl refl refl) (free_slot free.free) target args scope origin id);
      split = λ target args scope origin owner lo hi grain next sound more.
          leaves [] tt (splits rest (unit.Chunk target args scope origin owner lo hi grain))
          (quiet_leaves Fact machine me base rest slot (self rest refl refl refl) (splits rest (unit.Chunk target args scope origin owner lo hi grain)).body refl refl refl);
      begin = λ target args scope origin owner lo hi grain next sound less free. leaves [] tt (begins machine me rest slot target args scope origin owner lo hi grain)
          (begins_leave Fact machine me base rest slot (self rest refl refl refl) (free_slot free.free) target args scope origin owner lo hi grain);
      dropped = λ target args scope origin owner lo hi grain next not. leaves [] tt (quietly rest) (quiet_leaves Fact machine me base rest slot (self rest refl refl refl) rest refl refl refl);
    }

    run_keeps : RunStarts given sent w S me slots → Row [] (ran_at given w me slots)
    run_keeps start = rows_are_found given sent w S me slots (Row []) st start run_rows

  -- ---- a Serve

  abbrev got_of : ℕ → Msg → List Letter
  got_of from m = letter from m ∷ []

  quiet : LeavesCalls Fact base (quietly base)
  quiet = record { calls = self base refl refl refl; sends = tt; marks = tt }

  of_made : (o : Option Outcome) → Made (LeavesCalls Fact base) o → LeavesCalls Fact base (outcome_of base o)
  of_made None m = quiet
  of_made (Some e) m = m

  asker : (from : ℕ) (m : Msg) → IsFirstLetter given w me from m → AskerIs Fact m
  asker from (msg.Request slot id operation x y z) first =
      let f : RequestFits given (bodies w) S from me slot id operation x y z =
      (subst (Each (λ (l : Letter). MessageFits given (bodies w) S l.from me l.message)) first.without.inbox (st.calls.messages.inboxes me first.here)).0 in
      subst (IsInNoBatch w) f.asked.named (batched_tasks_are_others given w S from slot f.task st f.asked.there (ap in_batch f.asked.waits))
  asker from _ first = tt

  other_served : (from : ℕ) (m : Msg) → IsNoMail m → IsFirstLetter given w me from m → Row (got_of from m) (message_outcome given w me from m)
  other_served from m none first = leaves (got_of from m) (none, tt) (message_outcome given w me from m)
      (of_made (serves machine me base from m) (message_leaves Fact machine me from base fact m none (asker from m first)))

  reply_served : (from number : ℕ) (before : Option ℕ) → IsFirstLetter given w me from (msg.BatchReply number before)
      → Row (got_of from (msg.BatchReply number before)) (message_outcome given w me from (msg.BatchReply number before))
  reply_served from number before first = inside (got_of from (msg.BatchReply number before)) (message_outcome given w me from (msg.BatchReply number before))
      (ap (entries_from sent me) (reply_marks machine base number before (base.batches.flying number)))
      (batch_replies_keep_batches given sent w S me from number before st old first)

  module _ (sound : IsSound given) (heap : HeapIsApart given) where
    batch_served : (from object key : ℕ) (what : Effect) (number : ℕ) → IsFirstLetter given w me from (msg.Batch object key what number)
        → Row (got_of from (msg.Batch object key what number)) (message_outcome given w me from (msg.Batch object key what number))
    batch_served from object key what number first leads =
        let m : Msg = msg.Batch object key what number in
        let t : TakesEffect given sent w S me (got_of from m) (serves machine me base from m) = batches_take_effect given sent w S me from object key what number sound heap st old first in
        let is : message_outcome given w me from m ≡ t.outcome = ap (outcome_of base) t.acts in
        let same : t.next ≡ N = some_same t.next N (sym t.leads ∙ subst (λ (e : Outcome). Leads e.marks) is leads) in
        subst (λ (e : Outcome). KeepsBatches given sent w me (got_of from m) e N) (sym is) (subst (KeepsBatches given sent w me (got_of from m) t.outcome) same t.batches)

    abbrev Served : ℕ → Msg → Type 0
    Served from m = IsFirstLetter given w me from m → Row (got_of from m) (message_outcome given w me from m)

    serve_keeps : (from : ℕ) (m : Msg) → Served from m
    serve_keeps from m = by (kind_of m)
      where
        by : Kind m → Served from m
        by (batch object key what number e) = subst (Served from) (sym e) (batch_served from object key what number)
        by (reply number before e) = subst (Served from) (sym e) (reply_served from number before)
        by (other none) = other_served from m none

    close_keeps : (object : ℕ) → Starts given sent w S me → Row [] (closes machine base object)
    close_keeps object start = inside [] (closes machine base object)
        (closed_entries sent me (closes machine base object).marks (closes_marks machine base object (base.vectors.vectors object)))
        (closes_keep_batches given sent w S me object sound st old start.here (start.tells.closes object).group)

  -- ---- gifts and questions

  gives_keep : Row [] (gives base)
  gives_keep = leaves [] tt (gives base) (record { calls = self (gives base).body refl refl refl; sends = gifts_none base.steals.waiting base.work.public; marks = tt })

  asks_keep : (victim : ℕ) → Row [] (asks victim base)
  asks_keep victim = leaves [] tt (asks victim base) (record { calls = self (asks victim base).body refl refl refl; sends = (tt, tt); marks = tt })

pub pieces_keep_batches : laws.PiecesKeepBatches
pieces_keep_batches given sound heap = record {
  runs = λ sent w v S N me slots start piece old. run_keeps given sent w v S N me piece.stood.stands old slots start piece.leads v piece.acts;
  serves = λ sent w v S N me from m start first piece old. serve_keeps given sent w v S N me piece.stood.stands old sound heap from m first piece.leads v piece.acts;
  ends = λ sent w v S N me m told piece old. leaves given sent w v S N me piece.stood.stands old [] tt (ended_at given w me m)
      (end_leaves (IsInNoBatch w) given w S me (fact given sent w v S N me piece.stood.stands old) m told) piece.leads v piece.acts;
  gives = λ sent w v S me piece old. gives_keep given sent w v S S me piece.stood.stands old piece.leads v piece.acts;
  closes = λ sent w v S N me object start piece old. close_keeps given sent w v S N me piece.stood.stands old sound heap object start piece.leads v piece.acts;
  steals = λ sent w v S me victim start piece old. asks_keep given sent w v S S me piece.stood.stands old victim piece.leads v piece.acts;
  moves = λ sent w v S moved stood old. batches_moved given sent w v S moved old;
}
