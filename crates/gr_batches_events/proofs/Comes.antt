-- The calls of a batch get their replies.
use Rattle.std.proofs.Common.{◌≡◌, ◌≢◌, ◌⊎◌, ℕ, zero, suc, ◌≤◌, ◌==◌, ◌&&◌, ◌||◌, Bool, true, not, if◌then◌else◌, List, [], ◌∷◌, is_some, inl, inr, sym, ◌∙◌, ap, subst, refl, arith, Option, Some, None}
use Rattle.std.specs.List.{list_any}
use Rattle.std.proofs.lemmas.Bool.{cases_eq}
use Rattle.std.proofs.lemmas.Bool.Decides.{nat_tests}
use Rattle.gr_lang.specs.declared.action.TaskId.{TaskId}
use Rattle.gr_lang.specs.declared.action.WaitingCall.{WaitingCall}
use Rattle.gr_lang.specs.Effects.{after, effect_of}
use Rattle.gr_lang.specs.States.{State}
use Rattle.gr_view.specs.Places.{put}
use Rattle.gr_msg.specs.declared.message.Msg.TheVariants as msg
use Rattle.gr_batch.specs.Folding.{wakes_of}
use Rattle.gr_net.specs.Sums.{weigh, Each}
use Rattle.gr_net.proofs.Spreads.{put_same, put_at, put_other, put_each, Each-map}
use Rattle.gr_machine.specs.declared.mark.Mark.{Mark}
use Rattle.gr_machine.specs.Machines.{Machine}
use Rattle.gr_machine.specs.declared.waits.Waits.TheVariants as wait
use Rattle.gr_machine.specs.States.{Letter, Suspended, Batches, Vectors, Body}
use Rattle.gr_machine.specs.Outcomes.{Send, Outcome, quietly}
use Rattle.gr_machine.specs.Slots.{same_id, awaits_batch, named_awaits, task_awaits, calls_await, resumed_all}
use Rattle.gr_machine.specs.BatchServes.{without_batch, can_wake, batch_replied, is_reduce}
use Rattle.gr_machine.specs.Histories.{Sent}
use Rattle.gr_machine.specs.Serves.{serves}
use Rattle.gr_stands.specs.Worlds.{Given, machine_in, World, bodies, of_sends}
use Rattle.gr_stands.specs.Calls.{of_slot}
use Rattle.gr_stands.specs.CallActs.{Apart}
use Rattle.gr_stands.proofs.Calls.{place_cases}
use Rattle.gr_stands_calls.specs.Acting.{letter, IsFirstLetter}
use Rattle.gr_stands_calls.proofs.Slots.{some_same}
use Rattle.gr_stands_outcomes.specs.Inner.{outcome_of}
use Rattle.gr_stands_outcomes.specs.Marks.{sent_from}
use Rattle.gr_batches.specs.Batches.{is_closing, is_flying, IsCaller, is_at, flying_at, IsHeld, CombinerStands, CoreStands, is_mail, is_under_way, ReplyStands, MessageStands, BatchesStand}
use Rattle.gr_batches.specs.BatchActs.{BatchesAct}
use Rattle.gr_batches.proofs.Kept.{batches_kept}
use Rattle.gr_batches.proofs.Cores.{closing_self, flying_self}
use Rattle.gr_batches_takes.specs.Taking.{KeepsBatches}
use Rattle.gr_batches_takes.proofs.Names.{flying_le}
use Rattle.gr_batches_events.specs.Laws as laws
use Rattle.gr_batches_events.proofs.Turned.{Turn, turned, is_of, Ready, Hit, came, goes_with, weigh_goes, went, went_batches, went_vectors}
use Rattle.gr_batches_events.proofs.Moved.{alike, fewer, callers_stay, now}

-- A task that waited for the batch goes on.
pub record Wakes (batch slot : ℕ) (old new : Suspended) : Type 0 where
  pub was : old.waits ≡ wait.Batch batch
  pub goes : new.waits ≡ wait.Going

none_some : {X : Type 0} (x : X) → None ≡ Some x → ⊥
none_some x e = cc

flying_other : (batch other : ℕ) → other ≢ batch → (if batch == other then suc zero else zero) ≡ 0
flying_other batch other ne = grind (arith, nat_tests)

-- ---- the core

module _ (machine : Machine) (a : Body) (batch : ℕ) (before : Option ℕ) (calls : List WaitingCall) (old : CoreStands machine a) (there : a.batches.flying batch ≡ Some calls) where
  abbrev turns : List Turn
  turns = goes_with machine (wakes_of calls before)

  abbrev woken : Body
  woken = resumed_all machine a (wakes_of calls before)

  abbrev b : Body
  b = without_batch woken batch

  same : b.tasks.slots ≡ turned a.tasks.slots turns
  same = went machine (wakes_of calls before) a

  pub batches_same : woken.batches ≡ a.batches
  batches_same = went_batches machine (wakes_of calls before) a

  vectors_same : b.vectors ≡ a.vectors
  vectors_same = went_vectors machine (wakes_of calls before) a

  callers : Each (IsCaller a (wait.Batch batch)) calls
  callers = old.callers batch calls there

  all_ready : (cs : List WaitingCall) (x : Option ℕ) → Each (IsCaller a (wait.Batch batch)) cs → Each (Ready (Wakes batch) a.tasks.slots) (goes_with machine (wakes_of cs x))
  all_ready [] x f = tt
  all_ready (call ∷ cs) x f = (
    record { task = f.0.task; there = f.0.there; fact = record { was = f.0.waits; goes = refl } },
    all_ready cs (after (effect_of call.op) x) f.1,
  )

  counts : (slot : ℕ) → weigh (is_of slot) turns ≡ of_slot (is_flying batch) (a.tasks.slots slot)
  counts slot = weigh_goes machine slot calls before ∙ sym (ap (flying_at slot) there) ∙ old.each batch slot

  pub move : (slot : ℕ) → ((weigh (is_of slot) turns ≡ 0) × (turned a.tasks.slots turns slot ≡ a.tasks.slots slot)) ⊎ Hit (Wakes batch) a.tasks.slots turns slot
  move slot = came (Wakes batch) turns a.tasks.slots (all_ready calls before callers) (λ k. omega (arith, counts k, flying_le batch (a.tasks.slots k))) slot

  abbrev P : ℕ → Suspended → Suspended → Type 0
  P = Wakes batch

  was : (slot : ℕ) (u v : Suspended) → P slot u v → u.waits ≡ wait.Batch batch
  was slot u v f = f.was

  goes : (slot : ℕ) (u v : Suspended) → P slot u v → v.waits ≡ wait.Going
  goes slot u v f = f.goes

  combiner_stands : (object : ℕ) → a.vectors.vectors object ≡ None → CombinerStands machine b object
  combiner_stands object none =
      let c = old.combiners object none in
      record {
        held = subst (λ (x : Batches). Each (IsHeld machine b object) (x.combiners object)) (sym batches_same)
            (Each-map (IsHeld machine a object) (IsHeld machine b object)
            (λ one f. record {
              on = f.on;
              caller = (callers_stay a b turns P same (wait.Batch batch) wait.Going was goes move (wait.Close object) (is_closing object) (closing_self object) refl (one.call ∷ []) (f.caller, tt)).0;
            })
            (a.batches.combiners object) c.held);
        each = λ slot. ap (λ (x : Batches). weigh (λ one. is_at slot one.call) (x.combiners object)) batches_same ∙ c.each slot
            ∙ sym (alike a b turns P same (wait.Batch batch) wait.Going was goes move (is_closing object) refl refl slot);
      }

  pub flying_is : (number : ℕ) → b.batches.flying number ≡ put a.batches.flying batch None number
  flying_is number = ap (λ (x : Batches). put x.flying batch None number) batches_same

  pub core_woken : CoreStands machine b
  core_woken = record {
    combiners = λ object none. combiner_stands object (ap (λ (x : Vectors). x.vectors object) (sym vectors_same) ∙ none);
    callers = λ number cs h. elim (cases_eq number batch) [
      | inl q ↦ absurd (none_some cs (sym (flying_is number ∙ put_at a.batches.flying batch None number q) ∙ h))
      | inr ne ↦ callers_stay a b turns P same (wait.Batch batch) wait.Going was goes move (wait.Batch number) (is_flying number) (flying_self number) (flying_other batch number ne) cs
          (old.callers number cs (sym (flying_is number ∙ put_other a.batches.flying batch None number ne) ∙ h))
    ];
    each = λ number slot. elim (cases_eq number batch) [
      | inl q ↦ ap (flying_at slot) (flying_is number ∙ put_at a.batches.flying batch None number q) ∙ sym (ap (λ (n : ℕ). of_slot (is_flying n) (b.tasks.slots slot)) q ∙ gone slot)
      | inr ne ↦ ap (flying_at slot) (flying_is number ∙ put_other a.batches.flying batch None number ne) ∙ old.each number slot
          ∙ sym (alike a b turns P same (wait.Batch batch) wait.Going was goes move (is_flying number) (flying_other batch number ne) refl slot)
    ];
    fresh = λ number l. elim (cases_eq number batch) [
      | inl q ↦ flying_is number ∙ put_at a.batches.flying batch None number q
      | inr ne ↦ flying_is number ∙ put_other a.batches.flying batch None number ne ∙ old.fresh number (subst (λ (x : Batches). x.next ≤ number) batches_same l)
    ];
  }
    where
      gone : (slot : ℕ) → of_slot (is_flying batch) (b.tasks.slots slot) ≡ 0
      gone slot = omega (arith, fewer a b turns P same (wait.Batch batch) wait.Going was goes move (is_flying batch) (flying_self batch) refl slot, counts slot)

  -- A task of another batch stays.
  pub others_stay : (slot number : ℕ) (u : Suspended) → number ≢ batch → a.tasks.slots slot ≡ Some u → u.waits ≡ wait.Batch number → b.tasks.slots slot ≡ Some u
  others_stay slot number u ne at waits = elim (move slot) [
    | inl q ↦ now a b turns P same (wait.Batch batch) wait.Going was goes move slot ∙ q.1 ∙ at
    | inr h ↦ absurd (omega (
      arith,
      ap (is_flying number) (h.fact.was),
      flying_other batch number ne,
      ap (λ (x : Suspended). is_flying number x.waits) (some_same h.old u (sym h.there ∙ at)),
      ap (is_flying number) waits,
      flying_self number,
    ))
  ]

  -- The batch finds all its calls waiting.
  pub awaited : (cs : List WaitingCall) → Each (IsCaller a (wait.Batch batch)) cs → calls_await (awaits_batch batch) a cs ≡ true
  awaited [] f = refl
  awaited (call ∷ cs) f = ap (λ (t : Bool). t && calls_await (awaits_batch batch) a cs) (once f.0) ∙ awaited cs f.1
    where
      itself : (number core batch : ℕ) → ((batch == batch) && (core == core && number == number)) ≡ true
      itself number core batch = grind (arith, nat_tests)

      once : IsCaller a (wait.Batch batch) call → task_awaits (awaits_batch batch) a call.slot call.id ≡ true
      once g = ap (named_awaits (awaits_batch batch) call.id) g.there ∙ ap (λ q. awaits_batch batch q && same_id g.task.id call.id) g.waits
          ∙ ap (λ (x : TaskId). (batch == batch) && same_id x call.id) g.named ∙ itself call.id.number call.id.core batch

  pub wakes : can_wake a batch before calls ≡ true → batch_replied machine a batch before (a.batches.flying batch) ≡ Some (quietly b)
  wakes w = ap (batch_replied machine a batch before) there ∙ ap (λ (t : Bool). if t then Some (quietly b) else None) w

-- ---- the part

mail_self : (me batch : ℕ) → (if me == me && batch == batch then suc zero else zero) ≡ suc zero
mail_self me batch = grind (arith, nat_tests)

mail_other : (me batch one number : ℕ) → ((one ≡ me) × (number ≡ batch) → ⊥) → (if me == one && batch == number then suc zero else zero) ≡ zero
mail_other me batch one number ne = grind (arith, nat_tests)

module _ (given : Given) (sent : Sent) (w : World) (S : State) (me from batch : ℕ) (before : Option ℕ) (bs : BatchesStand given sent w S)
    (first : IsFirstLetter given w me from (msg.BatchReply batch before)) where
  abbrev machine : Machine
  machine = machine_in given

  abbrev got : List Letter
  got = letter from (msg.BatchReply batch before) ∷ []

  f : ReplyStands given (bodies w) S me batch before
  f = (subst (Each (λ (l : Letter). MessageStands given (bodies w) S l.from me l.message)) first.without.inbox (bs.messages.inboxes me first.here)).0

  abbrev a : Body
  a = bodies w me

  abbrev back : Body
  back = without_batch (resumed_all machine a (wakes_of f.calls before)) batch

  abbrev e : Outcome
  e = outcome_of a (serves machine me a from (msg.BatchReply batch before))

  is : e ≡ quietly back
  is = ap (outcome_of a) (wakes machine a batch before f.calls (bs.cores me) f.there
      (ap (λ (t : Bool). t && (is_some before || not (list_any (λ call. is_reduce call.op) f.calls)))
      (awaited machine a batch before f.calls (bs.cores me) f.there f.calls ((bs.cores me).callers batch f.calls f.there)) ∙ f.word))

  body_is : e.body ≡ back
  body_is = ap (λ (x : Outcome). x.body) is

  no_sends : e.sends ≡ []
  no_sends = ap (λ (x : Outcome). x.sends) is

  abbrev B : ℕ → Body
  B = put (bodies w) me e.body

  flying : (number : ℕ) → e.body.batches.flying number ≡ put a.batches.flying batch None number
  flying number = ap (λ (x : Body). x.batches.flying number) body_is ∙ flying_is machine a batch before f.calls (bs.cores me) f.there number

  others : (one number : ℕ) → Apart me batch one number → (B one).batches.flying number ≡ (bodies w one).batches.flying number
  others one number ne = put_each (λ (i : ℕ) (x : Body). x.batches.flying number ≡ (bodies w i).batches.flying number) (bodies w) me e.body one
      (λ q. flying number ∙ put_other a.batches.flying batch None number (λ r. ne (q, r)) ∙ ap (λ (i : ℕ). (bodies w i).batches.flying number) (sym q)) (λ q. refl)

  act : BatchesAct given sent sent w me got e S S me batch None []
  act = record {
    stands = subst (CoreStands machine) (sym body_is) (core_woken machine a batch before f.calls (bs.cores me) f.there);
    change = record { here = ap (λ (x : Body). x.batches.flying batch) (put_same (bodies w) me e.body) ∙ flying batch ∙ put_same a.batches.flying batch None; other = others };
    kept = λ id x other h. h;
    others_stay = λ one slot number u ne at waits. (
      put_each (λ (i : ℕ) (x : Body). x.tasks.slots slot ≡ Some u) (bodies w) me e.body one
          (λ q. ap (λ (x : Body). x.tasks.slots slot) body_is
          ∙ others_stay machine a batch before f.calls (bs.cores me) f.there slot number u (λ r. ne (q, r)) (ap (λ (i : ℕ). (bodies w i).tasks.slots slot) (sym q) ∙ at) waits)
          (λ q. at),
      tt,
    );
    sends = subst (Each (λ (s : Send). MessageStands given B S me s.to s.message)) (sym no_sends) tt;
    quiet = omega (arith, bs.mail me batch, ap is_under_way f.there, mail_self me batch);
    mailed = ap (of_sends (is_mail me batch) me) no_sends;
    others = λ one number ne. ap (of_sends (is_mail one number) me) no_sends ∙ sym (omega (arith, mail_other me batch one number ne));
    noted = λ one number some h. elim (place_cases one me number batch) [
      | inl q ↦ absurd (none_some some (sym (ap (λ (i : ℕ). (B i).batches.flying number) q.0 ∙ ap (λ (x : Body). x.batches.flying number) (put_same (bodies w) me e.body) ∙ flying number
          ∙ put_at a.batches.flying batch None number q.1) ∙ h))
      | inr ne ↦ bs.noted one number some (sym (others one number ne) ∙ h)
    ];
  }

  pub keeps : KeepsBatches given sent w me got e S
  keeps v acts = subst (λ (ms : List Mark). BatchesStand given (sent_from sent me ms) v S) (sym (ap (λ (x : Outcome). x.marks) is))
      (batches_kept given sent sent w v me got e S S me batch None [] acts act bs)

pub batch_replies_keep_batches : laws.BatchRepliesKeepBatches
batch_replies_keep_batches given sent w S me from batch before st bs first = keeps given sent w S me from batch before bs first
