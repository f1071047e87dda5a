-- A call is made for the task of a request: the entry is legal, and the reply is in flight.
use Rattle.std.proofs.Common.{◌≡◌, ◌≢◌, ℕ, zero, suc, ◌+◌, ◌<◌, ◌==◌, ◌&&◌, if◌then◌else◌, Bool, true, false, List, [], ◌∷◌, sym, ◌∙◌, ap, subst, refl, arith, Option, Some, None}
use Rattle.std.specs.Option.{option_and_then}
use Rattle.std.specs.FinMap as fin
use Rattle.std.proofs.lemmas.Bool.Decides.{nat_tests}
use Rattle.gr_syntax.specs.declared.syntax.Program.{Program}
use Rattle.gr_lang.specs.declared.action.Action.{Action}
use Rattle.gr_lang.specs.declared.action.Action.TheVariants as action
use Rattle.gr_lang.specs.declared.action.Entry.TheVariants as entry
use Rattle.gr_lang.specs.declared.action.Op.{Op}
use Rattle.gr_lang.specs.declared.action.Reply.{Reply}
use Rattle.gr_lang.specs.declared.action.TaskId.{TaskId}
use Rattle.gr_lang.specs.Fields.{same_reply}
use Rattle.gr_lang.specs.Effects.{reply}
use Rattle.gr_lang.specs.Objects.{Objects, call}
use Rattle.gr_lang.specs.Next.{Running, next, go_on}
use Rattle.gr_lang.specs.States.{Mode, going, Task, State, id_cmp, is_going}
use Rattle.gr_lang.specs.Steps.{step, if_going, when, goes_on, called, call_step}
use Rattle.gr_lang.proofs.Operations.{op_same}
use Rattle.gr_view.specs.Places.{put}
use Rattle.gr_msg.specs.declared.message.Msg.TheVariants as msg
use Rattle.gr_net.specs.Sums.{total, weigh, Each}
use Rattle.gr_net.proofs.Spreads.{put_each}
use Rattle.gr_machine.specs.declared.waits.Waits.{Waits}
use Rattle.gr_machine.specs.declared.waits.Waits.TheVariants as wait
use Rattle.gr_machine.specs.States.{Letter, Suspended, Tasks, Body}
use Rattle.gr_machine.specs.Slots as slots
use Rattle.gr_machine.specs.Requests.{answered}
use Rattle.gr_work.specs.Queues.{Queues}
use Rattle.gr_stands.specs.Worlds.{Given, machine_in, World, bodies}
use Rattle.gr_stands.specs.Censuses.{Weights, of_held, body_census, is_task, going_on}
use Rattle.gr_stands.specs.WordActs.{WordsAct}
use Rattle.gr_stands.specs.Calls.{StandsAt, mode_of, is_told, is_asking, of_slot, times, UnitFits, RequestFits}
use Rattle.gr_stands.specs.Calls as part
use Rattle.gr_stands.specs.CallActs.{CallsAct}
use Rattle.gr_stands.specs.Stands.{Stands}
use Rattle.gr_stands.proofs.Calls.{slot_unchanged}
use Rattle.gr_stands_calls.specs.Acting.{letter, Keeps}
use Rattle.gr_stands_calls.proofs.Slots.{of_slot_is, request_self, request_other, reply_self, reply_other, fresh_kept, put_there, put_apart, put_kept, put_new, put_unended, alone, units_kept, subst_slot}
use Rattle.gr_stands_calls.proofs.Common.{kept_by}

-- ---- the entry

reply_same : (word : Reply) → same_reply word word ≡ true
reply_same word = grind (arith, nat_tests)

pub call_leads : (program : Program) (cores limit : ℕ) (S : State) (id : TaskId) (t : Task) (op : Op) (word : Reply) → fin.get S.tasks id ≡ Some t → t.mode ≡ going
    → t.action ≡ action.Call op → (call op S.objects).1 ≡ word → step program cores limit S (entry.Call id op word) ≡ Some (called program limit S id t op word)
call_leads program cores limit S id t op word there mode next is =
    ap (option_and_then (if_going (λ (x : Task). call_step program limit S id x x.action op word))) there
    ∙ ap (λ (m : Mode). if is_going m then call_step program limit S id t t.action op word else None) mode
    ∙ ap (λ (a : Action). call_step program limit S id t a op word) next
    ∙ ap (λ (b : Bool). when (b && same_reply word (call op S.objects).1) (called program limit S id t op word)) (op_same op)
    ∙ ap (λ (r : Reply). when (same_reply word r) (called program limit S id t op word)) is
    ∙ ap (λ (b : Bool). when b (called program limit S id t op word)) (reply_same word)

-- ---- the outcome

-- The same tasks and units weigh the same.
census_same : (h : Weights) (m : ℕ) (a b : Body) → a.tasks ≡ b.tasks → a.work ≡ b.work → body_census h m a ≡ body_census h m b
unfolding body_census
census_same h m a b tasks work = omega (
  arith,
  ap (λ (t : Tasks). total m (λ k. of_held h.of_task (t.slots k))) tasks,
  ap (λ (q : Queues). weigh h.of_unit q.private + weigh h.of_unit q.public) work,
)

told : (q : Waits) → q ≡ wait.Reply → is_told q ≡ 0 → ⊥
told q e z = omega (arith, ap is_told e)

-- A task after its call.
stands_after : (given : Given) (S T : State) (task : Suspended) (s : StandsAt S task) (word : Reply) → T.tasks ≡ fin.insert S.tasks task.id (goes_on given.program given.setup.steps s.plain word)
    → StandsAt T (slots.goes_on (machine_in given) task word)
stands_after given S T task s word after = record {
  plain = goes_on given.program given.setup.steps s.plain word;
  there = put_there S T task.id s.plain (goes_on given.program given.setup.steps s.plain word) s.there after;
  action = ap (λ (r : Running). (next given.program given.setup.steps (go_on r word)).0) s.running;
  running = ap (λ (r : Running). (next given.program given.setup.steps (go_on r word)).1) s.running;
  mode = refl;
}

module _ (given : Given) (w : World) (S : State) (me from slot : ℕ) (id : TaskId) (operation x y z : ℕ) (st : Stands given w S) (here : me < given.setup.cores)
    (f : RequestFits given (bodies w) S from me slot id operation x y z) where
  pub goes : f.stands.plain.mode ≡ going
  goes = f.stands.mode ∙ ap (λ (q : Waits). mode_of q f.task.action) f.asked.waits

  pub named_there : fin.get S.tasks id ≡ Some f.stands.plain
  named_there = ap (fin.get S.tasks) (sym f.asked.named) ∙ f.stands.there

  module _ (b : Body) (tasks : b.tasks ≡ (bodies w me).tasks) (work : b.work ≡ (bodies w me).work) (word : Reply) (T : State)
      (after : T.tasks ≡ fin.insert S.tasks f.task.id (goes_on given.program given.setup.steps f.stands.plain word)) where
    answered_act : CallsAct given w me (letter from (msg.Request slot id operation x y z) ∷ []) (answered b from slot id f.call word) S T from slot (Some f.task) (f.task.id ∷ [])
    answered_act =
        let old = st.calls in
        let plain : Task = goes_on given.program given.setup.steps f.stands.plain word in
        let change = slot_unchanged (bodies w) me from slot (Some f.task) b (ap (λ (t : Tasks). t.slots) tasks) f.asked.there in
        let fits = old.tasks.slots from slot f.task f.asked.there in
        let mode : going_on f.stands.plain.mode ≡ 1 = ap going_on goes in
        let kept = put_kept S T f.task.id f.stands.plain plain f.stands.there after in
        let apart = alone given w S from slot f.task f.stands.plain old f.asked.there f.stands.there mode in
        record {
          change = change;
          kept = kept;
          elsewhere = apart;
          new = λ u h. subst_slot given T from slot f.task u h (record {
            here = fits.here;
            low = fits.low;
            counted = fits.counted;
            stands = λ q. absurd (told f.task.waits f.asked.waits q);
          });
          private = subst (λ (q : Queues). Each (UnitFits given T) q.private) (sym work)
              (units_kept given S T (f.task.id ∷ []) kept (bodies w me).work.private (old.tasks.private me here) (apart.private me here));
          public = subst (λ (q : Queues). Each (UnitFits given T) q.public) (sym work)
              (units_kept given S T (f.task.id ∷ []) kept (bodies w me).work.public (old.tasks.public me here) (apart.public me here));
          sends = (
            record {
              task = f.task;
              asked = record { there = change.here; named = f.asked.named; waits = f.asked.waits };
              stands = stands_after given S T f.task f.stands word after;
            },
            tt,
          );
          ready = λ i l. put_each (λ (i : ℕ) (q : Body). times l q.tasks.ready ≡ of_slot part.is_going (q.tasks.slots l)) (bodies w) me b i
              (λ q. ap (λ (t : Tasks). times l t.ready) tasks ∙ old.tasks.ready me l ∙ ap (λ (t : Tasks). of_slot part.is_going (t.slots l)) (sym tasks))
              (λ q. old.tasks.ready i l);
          fresh = fresh_kept (bodies w) S T me b (ap (λ (t : Tasks). t.next) tasks) (put_new S T f.task.id f.stands.plain plain f.stands.there after) old.tasks.fresh;
          once = λ q. omega (arith, census_same (is_task q) given.slots b (bodies w me) tasks work, put_unended S T f.task.id f.stands.plain plain f.stands.there after (sym mode) q);
          quiet = omega (arith, old.asked from slot, of_slot_is is_asking ((bodies w from).tasks.slots slot) f.task wait.Reply f.asked.there f.asked.waits, request_self from slot me id operation x y z);
          asked = omega (arith, reply_self from slot me id word.first word.second, ap is_asking f.asked.waits);
          others = λ i l ne. omega (arith, reply_other i l from slot me id word.first word.second ne, request_other i l from slot me id operation x y z ne);
        }

    pub answered_keeps : WordsAct (machine_in given) me b.words S.objects T.objects
        → Keeps given w me (letter from (msg.Request slot id operation x y z) ∷ []) (answered b from slot id f.call word) T
    answered_keeps words = kept_by given w S T me (letter from (msg.Request slot id operation x y z) ∷ []) (answered b from slot id f.call word) from slot (Some f.task) (f.task.id ∷ []) st answered_act words
