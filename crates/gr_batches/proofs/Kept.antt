-- Part 5 is kept by an outcome, from what it asks of it; and by Ships and Takes.
use Rattle.std.proofs.Common.{◌≡◌, ℕ, List, [], ◌∷◌, inl, inr, sym, ◌∙◌, ap, subst, refl, arith, Option, Some}
use Rattle.std.specs.FinMap as fin
use Rattle.std.proofs.lemmas.Bool.Decides.{nat_tests}
use Rattle.gr_lang.specs.declared.action.Effect.{Effect}
use Rattle.gr_lang.specs.declared.action.TaskId.{TaskId}
use Rattle.gr_lang.specs.declared.action.WaitingCall.{WaitingCall}
use Rattle.gr_lang.specs.Effects.{after, effect_of, key_reply}
use Rattle.gr_lang.specs.States.{Task, State}
use Rattle.gr_view.specs.Places.{put}
use Rattle.gr_msg.specs.declared.message.Msg.{Msg}
use Rattle.gr_msg.specs.declared.message.Msg.TheVariants as msg
use Rattle.gr_agg.specs.Laws.{Adds, Merges}
use Rattle.gr_batch.specs.Folding.{wakes_of}
use Rattle.gr_net.specs.Sums.{Each}
use Rattle.gr_net.specs.Flights.{Everywhere}
use Rattle.gr_net.proofs.Spreads.{put_each}
use Rattle.gr_net.proofs.Flights.{every_with, every_zero}
use Rattle.gr_machine.specs.Machines.{Machine}
use Rattle.gr_machine.specs.declared.waits.Waits.TheVariants as wait
use Rattle.gr_machine.specs.States.{Suspended, Body}
use Rattle.gr_machine.specs.Slots.{goes_on}
use Rattle.gr_machine.specs.Nets.{messages_in}
use Rattle.gr_stands.specs.Worlds.{Given, machine_in, bodies, in_flight}
use Rattle.gr_stands.specs.Calls.{StandsAt}
use Rattle.gr_stands.specs.CallActs.{Apart, IsOther}
use Rattle.gr_stands.proofs.Worlds.{acted_bodies, without, flow, flow_off, facts_off, facts_on, moved_bodies, moved_flow, moved_facts}
use Rattle.gr_stands.proofs.Calls.{place_cases, stands_still}
use Rattle.gr_batches.specs.Batches.{IsCaller, CoreStands, StandsBefore, StandsAfter, is_mail, is_under_way, MessageStands}
use Rattle.gr_batches.specs.BatchActs.{BatchesAreKept, MovesKeepBatches}

some_same : {X : Type 0} (x y : X) → Some x ≡ Some y → x ≡ y
some_same x y e = cc

-- ---- messages of other batches

module _ (given : Given) (S T : State) (A B : ℕ → Body) (d k : ℕ) (ids : List TaskId)
    (kept : (id : TaskId) (x : Task) → IsOther ids id → fin.get S.tasks id ≡ Some x → fin.get T.tasks id ≡ Some x)
    (tables : (c b : ℕ) → Apart d k c b → (B c).batches.flying b ≡ (A c).batches.flying b)
    (stay : (c l b : ℕ) (u : Suspended) → Apart d k c b → (A c).tasks.slots l ≡ Some u → u.waits ≡ wait.Batch b → ((B c).tasks.slots l ≡ Some u) × IsOther ids u.id)
    (old : (c : ℕ) → CoreStands (machine_in given) (A c)) where
  abbrev machine : Machine
  machine = machine_in given

  module _ (c b : ℕ) (apart : Apart d k c b) where
    same_task : (call : WaitingCall) (f : IsCaller (A c) (wait.Batch b) call) (t : Suspended) → (B c).tasks.slots call.slot ≡ Some t → f.task ≡ t
    same_task call f t h = some_same f.task t (sym (stay c call.slot b f.task apart f.there f.waits).0 ∙ h)

    other : (call : WaitingCall) (f : IsCaller (A c) (wait.Batch b) call) → IsOther ids f.task.id
    other call f = (stay c call.slot b f.task apart f.there f.waits).1

    before_still : (calls : List WaitingCall) → Each (IsCaller (A c) (wait.Batch b)) calls → Each (StandsBefore S (A c)) calls → Each (StandsBefore T (B c)) calls
    before_still [] f g = tt
    before_still (call ∷ calls) f g = (
      λ t h. subst (StandsAt T) (same_task call f.0 t h) (stands_still S T ids f.0.task kept (other call f.0) (g.0 f.0.task f.0.there)),
      before_still calls f.1 g.1,
    )

    after_still : (calls : List WaitingCall) (before : Option ℕ) → Each (IsCaller (A c) (wait.Batch b)) calls
        → Each (StandsAfter machine S (A c)) (wakes_of calls before) → Each (StandsAfter machine T (B c)) (wakes_of calls before)
    after_still [] before f g = tt
    after_still (call ∷ calls) before f g = (
      λ t h. subst (λ (x : Suspended). StandsAt T (goes_on machine x (key_reply call.op before))) (same_task call f.0 t h)
          (stands_still S T ids (goes_on machine f.0.task (key_reply call.op before)) kept (other call f.0) (g.0 f.0.task f.0.there)),
      after_still calls (after (effect_of call.op) before) f.1 g.1,
    )

  pub message_still : (from to : ℕ) (m : Msg) → MessageStands given A S from to m → is_mail d k from to m ≡ 0 → MessageStands given B T from to m
  message_still from to (msg.Batch object key what number) f z =
      let apart : Apart d k from number = λ q. about d k from to object key what number q z in
      record {
        sender = f.sender;
        homed = f.homed;
        calls = f.calls;
        there = tables from number apart ∙ f.there;
        some = f.some;
        on = f.on;
        folds = f.folds;
        before = before_still from number apart f.calls ((old from).callers number f.calls f.there) f.before;
      }
    where
      about : (c b from to object key : ℕ) (what : Effect) (number : ℕ) → (from ≡ c) × (number ≡ b) → is_mail c b from to (msg.Batch object key what number) ≡ 0 → ⊥
      about c b from to object key what number q e = grind (arith, nat_tests)
  message_still from to (msg.BatchReply number before) f z =
      let apart : Apart d k to number = λ q. about d k from to number before q z in
      record {
        calls = f.calls;
        there = tables to number apart ∙ f.there;
        word = f.word;
        after = after_still to number apart f.calls before ((old to).callers number f.calls f.there) f.after;
      }
    where
      about : (c b from to number : ℕ) (before : Option ℕ) → (to ≡ c) × (number ≡ b) → is_mail c b from to (msg.BatchReply number before) ≡ 0 → ⊥
      about c b from to number before q e = grind (arith, nat_tests)
  message_still from to _ f z = tt

-- ---- an outcome

pub mail_adds : (core batch from to : ℕ) → Adds (is_mail core batch from to)
mail_adds core batch from to scope one other = refl

stand_merge : (given : Given) (B : ℕ → Body) (T : State) (from to : ℕ) → Merges (MessageStands given B T from to)
stand_merge given B T from to scope one other p q = tt

pub batches_kept : BatchesAreKept
batches_kept given sent more w v c got e S T d k calls ids acts a old =
    let n = given.setup.cores in
    let A = bodies w in
    let B = put (bodies w) c e.body in
    let same : bodies v ≡ B = acted_bodies n w v c got e acts in
    let law = λ (i b : ℕ). flow n w v c got e acts (is_mail i b) (mail_adds i b) in
    let left = (facts_off n w v c got e acts (MessageStands given A S) old.messages).1 in
    let zero = every_zero messages_in (is_mail d k) n (without n w v c got e acts) (omega (arith, flow_off n w v c got e acts (is_mail d k), a.quiet)) in
    let rest = every_with messages_in (MessageStands given A S) (λ from to m. is_mail d k from to m ≡ 0) (MessageStands given B T) n (without n w v c got e acts)
    (message_still given S T A B d k ids a.kept a.change.other (λ i l b u apart h q. a.others_stay i l b u apart h q) old.cores) left zero in
    record {
      cores = λ i. subst (λ (X : ℕ → Body). CoreStands (machine_in given) (X i)) (sym same)
          (put_each (λ (i : ℕ) (b : Body). CoreStands (machine_in given) b) A c e.body i (λ q. a.stands) (λ q. old.cores i));
      messages = subst (λ (X : ℕ → Body). Everywhere messages_in (MessageStands given X T) n v) (sym same)
          (facts_on n w v c got e acts (MessageStands given B T) (stand_merge given B T) rest a.sends);
      mail = λ i b. subst (λ (X : ℕ → Body). in_flight (is_mail i b) n v ≡ is_under_way ((X i).batches.flying b)) (sym same) (elim (place_cases i d b k) [
        | inl q ↦ subst (λ (i : ℕ). in_flight (is_mail i b) n v ≡ is_under_way ((B i).batches.flying b)) (sym q.0)
            (subst (λ (b : ℕ). in_flight (is_mail d b) n v ≡ is_under_way ((B d).batches.flying b)) (sym q.1)
            (omega (arith, law d k, a.quiet, a.mailed, ap is_under_way a.change.here)))
        | inr q ↦ omega (arith, law i b, a.others i b q, old.mail i b, ap is_under_way (a.change.other i b q))
      ]);
      noted = λ i b some. subst (λ (X : ℕ → Body). (X i).batches.flying b ≡ Some some → more i b ≡ some) (sym same) (a.noted i b some);
    }

-- ---- a Ship or a Take

pub batches_moved : MovesKeepBatches
batches_moved given sent w v S m old =
    let n = given.setup.cores in
    let same : bodies v ≡ bodies w = moved_bodies n w v m in
    record {
      cores = λ i. subst (λ (X : ℕ → Body). CoreStands (machine_in given) (X i)) (sym same) (old.cores i);
      messages = subst (λ (X : ℕ → Body). Everywhere messages_in (MessageStands given X S) n v) (sym same) (moved_facts n w v m (MessageStands given (bodies w) S) old.messages);
      mail = λ i b. subst (λ (X : ℕ → Body). in_flight (is_mail i b) n v ≡ is_under_way ((X i).batches.flying b)) (sym same) (moved_flow n w v m (is_mail i b) ∙ old.mail i b);
      noted = λ i b some. subst (λ (X : ℕ → Body). (X i).batches.flying b ≡ Some some → sent i b ≡ some) (sym same) (old.noted i b some);
    }
