-- Tasks that wait for no turn go on, or wait for something else: these leave lines, and so do calls that go off as batches.
use Rattle.std.proofs.Common.{◌≡◌, ℕ, Bool, true, false, List, [], ◌∷◌, sym, subst, refl, Option, Some, None}
use Rattle.std.proofs.lemmas.Bool.{and_parts}
use Rattle.gr_lang.specs.declared.action.Reply.{Reply}
use Rattle.gr_lang.specs.declared.action.TaskId.{TaskId}
use Rattle.gr_lang.specs.declared.action.WaitingCall.{WaitingCall}
use Rattle.gr_msg.specs.declared.message.ScopeId.{ScopeId}
use Rattle.gr_batch.specs.Batches.{batches_of, rest_of}
use Rattle.gr_batch.specs.declared.combiner.Batch.{Batch}
use Rattle.gr_batch.specs.declared.wakes.Woken.{Woken}
use Rattle.gr_net.specs.Sums.{Each}
use Rattle.gr_machine.specs.declared.waits.Waits.{Waits}
use Rattle.gr_machine.specs.declared.waits.Waits.TheVariants as wait
use Rattle.gr_machine.specs.Machines.{Machine}
use Rattle.gr_machine.specs.States.{Suspended, Body}
use Rattle.gr_machine.specs.Outcomes.{Outcome, quietly, followed}
use Rattle.gr_machine.specs.Slots.{same_id, awaits_reply, awaits_batch, awaits_enrolment, awaits_scope, one_awaits, named_awaits, readied, goes_on, resumed, resumed_task, resumed_all, rewaiting, rewaiting_task, waiting}
use Rattle.gr_machine.specs.Closes.{batch_sent, batches_sent, with_combiner}
use Rattle.gr_stands.specs.Worlds.{Given, machine_in}
use Rattle.gr_lines.specs.Leaving.{IsOffLines, LeavesLines}
use Rattle.gr_lines.proofs.Kept.{slot_leaves}
use Rattle.gr_lines_others.specs.Others.{AreOffLines}
use Rattle.gr_lines_others.specs.Laws as laws
use Rattle.gr_lines_others.proofs.Off.{IsOff, off_task, off_none, stays, then_leaves, off_still}

true_false : true ≡ false → ⊥
true_false e = cc

-- ---- what a test of a slot tells

module _ (given : Given) where
  abbrev machine : Machine
  machine = machine_in given

  pub off_tested : (awaits : Waits → Bool) → ((w : Waits) → awaits w ≡ true → IsOff given w) → (held : Option Suspended) → one_awaits awaits held ≡ true → IsOffLines given held
  off_tested awaits off None e = off_none given
  off_tested awaits off (Some task) e = off_task given task (off task.waits e)

  pub off_named : (awaits : Waits → Bool) → ((w : Waits) → awaits w ≡ true → IsOff given w) → (id : TaskId) (held : Option Suspended) → named_awaits awaits id held ≡ true → IsOffLines given held
  off_named awaits off id None e = off_none given
  off_named awaits off id (Some task) e = off_task given task (off task.waits (and_parts (awaits task.waits) (same_id task.id id) e).0)

  pub reply_off : (w : Waits) → awaits_reply w ≡ true → IsOff given w
  reply_off wait.Reply e number is = refl
  reply_off wait.Going e number is = refl
  reply_off (wait.Close object) e number is = absurd (cc)
  reply_off (wait.Batch batch) e number is = refl
  reply_off (wait.Turn vector) e number is = absurd (cc)
  reply_off (wait.Enrolment scope) e number is = refl
  reply_off (wait.Scope scope) e number is = refl
  reply_off wait.Nothing e number is = refl

  pub batch_off : (batch : ℕ) (w : Waits) → awaits_batch batch w ≡ true → IsOff given w
  batch_off batch wait.Reply e number is = refl
  batch_off batch wait.Going e number is = refl
  batch_off batch (wait.Close object) e number is = absurd (cc)
  batch_off batch (wait.Batch other) e number is = refl
  batch_off batch (wait.Turn vector) e number is = absurd (cc)
  batch_off batch (wait.Enrolment scope) e number is = refl
  batch_off batch (wait.Scope scope) e number is = refl
  batch_off batch wait.Nothing e number is = refl

  pub enrolment_off : (scope : ScopeId) (w : Waits) → awaits_enrolment scope w ≡ true → IsOff given w
  enrolment_off scope wait.Reply e number is = refl
  enrolment_off scope wait.Going e number is = refl
  enrolment_off scope (wait.Close object) e number is = absurd (cc)
  enrolment_off scope (wait.Batch batch) e number is = refl
  enrolment_off scope (wait.Turn vector) e number is = absurd (cc)
  enrolment_off scope (wait.Enrolment other) e number is = refl
  enrolment_off scope (wait.Scope other) e number is = refl
  enrolment_off scope wait.Nothing e number is = refl

  pub scope_off : (scope : ScopeId) (w : Waits) → awaits_scope scope w ≡ true → IsOff given w
  scope_off scope wait.Reply e number is = refl
  scope_off scope wait.Going e number is = refl
  scope_off scope (wait.Close object) e number is = absurd (cc)
  scope_off scope (wait.Batch batch) e number is = refl
  scope_off scope (wait.Turn vector) e number is = absurd (cc)
  scope_off scope (wait.Enrolment other) e number is = refl
  scope_off scope (wait.Scope other) e number is = refl
  scope_off scope wait.Nothing e number is = refl

  -- ---- tasks go on, or wait for something else

  pub resumes : (body : Body) (slot : ℕ) (word : Reply) (held : Option Suspended) → body.tasks.slots slot ≡ held → IsOffLines given held → LeavesLines given body (resumed_task machine body slot word held)
  resumes body slot word None e off = stays given body body refl refl
  resumes body slot word (Some task) e off =
      slot_leaves given body (readied body slot (goes_on machine task word)) slot (Some (goes_on machine task word)) refl refl (subst (IsOffLines given) (sym e) off) (λ number is. refl)

  abbrev pub OffWakes : Body → List Woken → Type 0
  OffWakes body wakes = Each (λ wake. IsOffLines given (body.tasks.slots wake.slot)) wakes

  wakes_still : (a b : Body) → LeavesLines given a b → (wakes : List Woken) → OffWakes a wakes → OffWakes b wakes
  wakes_still a b l [] f = tt
  wakes_still a b l (wake ∷ wakes) f = (off_still given a b l wake.slot f.0, wakes_still a b l wakes f.1)

  pub resumes_all : (body : Body) (wakes : List Woken) → OffWakes body wakes → LeavesLines given body (resumed_all machine body wakes)
  resumes_all body [] f = stays given body body refl refl
  resumes_all body (wake ∷ wakes) f =
      let next = resumed machine body wake.slot wake.reply in
      let l = resumes body wake.slot wake.reply (body.tasks.slots wake.slot) refl f.0 in
      then_leaves given body next (resumed_all machine next wakes) l (resumes_all next wakes (wakes_still body next l wakes f.1))

  rewaits : (reason : Waits) → IsOff given reason → (body : Body) (slot : ℕ) (held : Option Suspended) → body.tasks.slots slot ≡ held → IsOffLines given held → LeavesLines given body (rewaiting_task body slot reason held)
  rewaits reason off_too body slot None e off = stays given body body refl refl
  rewaits reason off_too body slot (Some task) e off =
      slot_leaves given body (waiting body slot task reason) slot (Some (record task { waits = reason })) refl refl (subst (IsOffLines given) (sym e) off) (off_task given (record task { waits = reason }) off_too)

  calls_still : (a b : Body) → LeavesLines given a b → (calls : List WaitingCall) → AreOffLines given a calls → AreOffLines given b calls
  calls_still a b l [] f = tt
  calls_still a b l (call ∷ calls) f = (off_still given a b l call.slot f.0, calls_still a b l calls f.1)

  rewaits_all : (reason : Waits) → IsOff given reason → (body : Body) (calls : List WaitingCall) → AreOffLines given body calls → LeavesLines given body (rewaiting body reason calls)
  rewaits_all reason off_too body [] f = stays given body body refl refl
  rewaits_all reason off_too body (call ∷ calls) f =
      let next = rewaiting_task body call.slot reason (body.tasks.slots call.slot) in
      let l = rewaits reason off_too body call.slot (body.tasks.slots call.slot) refl f.0 in
      then_leaves given body next (rewaiting next reason calls) l (rewaits_all reason off_too next calls (calls_still body next l calls f.1))

  -- ---- batches go off

  abbrev OffBatches : Body → List Batch → Type 0
  OffBatches body batches = Each (λ batch. AreOffLines given body batch.calls) batches

  batches_still : (a b : Body) → LeavesLines given a b → (batches : List Batch) → OffBatches a batches → OffBatches b batches
  batches_still a b l [] f = tt
  batches_still a b l (batch ∷ batches) f = (calls_still a b l batch.calls f.0, batches_still a b l batches f.1)

  sends_batch : (body : Body) (object : ℕ) (batch : Batch) → AreOffLines given body batch.calls → LeavesLines given body (batch_sent machine body object batch).body
  sends_batch body object batch f =
      let r = rewaiting body (wait.Batch body.batches.next) batch.calls in
      let l = rewaits_all (wait.Batch body.batches.next) (λ number is. refl) body batch.calls f in
      record { vectors = l.vectors; tasks = l.tasks }

  sends_all : (start : Body) (object : ℕ) (outcome : Outcome) (batches : List Batch) → LeavesLines given start outcome.body → OffBatches outcome.body batches → LeavesLines given start (batches_sent machine object outcome batches).body
  sends_all start object outcome [] l f = l
  sends_all start object outcome (batch ∷ batches) l f =
      let sent = batch_sent machine outcome.body object batch in
      let m = sends_batch outcome.body object batch f.0 in
      sends_all start object (followed outcome sent) batches (then_leaves given start outcome.body sent.body l m) (batches_still outcome.body sent.body m batches f.1)

pub batches_leave : laws.BatchesLeaveLines
batches_leave given body object held f =
    let first = quietly (with_combiner body object (rest_of held)) in
    let l = stays given body first.body refl refl in
    sends_all given body object first (batches_of held) l (batches_still given body first.body l (batches_of held) f)
