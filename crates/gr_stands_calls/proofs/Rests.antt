-- A ready task waits for something that no message tells of its calls.
use Rattle.std.proofs.Common.{◌≡◌, ◌≢◌, ℕ, zero, suc, ◌+◌, ◌<◌, List, [], ◌∷◌, sym, ◌∙◌, ap, subst, refl, arith, Option, Some, None}
use Rattle.gr_lang.specs.States.{State, going}
use Rattle.gr_msg.specs.declared.message.Msg.{Msg}
use Rattle.gr_msg.specs.declared.message.Msg.TheVariants as msg
use Rattle.gr_msg.specs.declared.message.Unit.{Unit as WorkUnit}
use Rattle.gr_work.specs.Queues.{Queues}
use Rattle.gr_net.specs.Sums.{weigh, Each}
use Rattle.gr_machine.specs.declared.waits.Waits.{Waits}
use Rattle.gr_machine.specs.declared.waits.Waits.TheVariants as wait
use Rattle.gr_machine.specs.States.{Suspended, Tasks, Body}
use Rattle.gr_machine.specs.Outcomes.{Outcome, Send}
use Rattle.gr_machine.specs.Slots.{waiting}
use Rattle.gr_machine.specs.Runs.{without_ready}
use Rattle.gr_view.specs.Places.{put}
use Rattle.gr_stands.specs.Worlds.{Given, machine_in, World, bodies, of_sends}
use Rattle.gr_stands.specs.Censuses.{of_held, is_task, carried}
use Rattle.gr_stands.specs.Calls.{StandsAt, mode_of, is_told, is_going, is_asking, of_slot, times, is_about, UnitFits, MessageFits}
use Rattle.gr_stands.specs.CallActs.{CallsAct}
use Rattle.gr_stands.specs.Stands.{Stands}
use Rattle.gr_stands.proofs.Memories.{words_stay}
use Rattle.gr_stands.proofs.Calls.{slot_change}
use Rattle.gr_stands.proofs.Places.{none_elsewhere}
use Rattle.gr_stands_calls.specs.Acting.{IsFirst}
use Rattle.gr_stands_calls.specs.Rests.{IsOfNoTask, WaitsElsewhere}
use Rattle.gr_stands_calls.specs.Laws as laws
use Rattle.gr_stands_calls.proofs.Slots.{of_slot_is, slot_census, ready_kept, fresh_kept, subst_slot}
use Rattle.gr_stands_calls.proofs.Common.{same_memory, first_goes, rest_here, rest_other, first_stands, kept_by}

-- ---- messages that tell of no task

pub no_unit : (h : WorkUnit → ℕ) (from to : ℕ) (m : Msg) → IsOfNoTask m → carried h from to m ≡ 0
no_unit h from to (msg.Spawn u) n = absurd n
no_unit h from to (msg.StealGive u) n = absurd n
no_unit h from to _ n = refl

pub no_slot : (core slot from to : ℕ) (m : Msg) → IsOfNoTask m → is_about core slot from to m ≡ 0
no_slot core slot from to (msg.Request k id operation x y z) n = absurd n
no_slot core slot from to (msg.Reply k id first second) n = absurd n
no_slot core slot from to _ n = refl

no_fit : (given : Given) (B : ℕ → Body) (S : State) (from to : ℕ) (m : Msg) → IsOfNoTask m → MessageFits given B S from to m
no_fit given B S from to (msg.Request k id operation x y z) n = absurd n
no_fit given B S from to (msg.Reply k id first second) n = absurd n
no_fit given B S from to (msg.Spawn u) n = absurd n
no_fit given B S from to (msg.StealGive u) n = absurd n
no_fit given B S from to _ n = tt

module _ (me : ℕ) where
  pub sent_none : (h : ℕ → ℕ → Msg → ℕ) → ((from to : ℕ) (m : Msg) → IsOfNoTask m → h from to m ≡ 0) → (ss : List Send) → Each (λ s. IsOfNoTask s.message) ss → of_sends h me ss ≡ 0
  sent_none h z [] n = refl
  sent_none h z (s ∷ ss) n = omega (arith, z me s.to s.message n.0, sent_none h z ss n.1)

  pub sent_fit : (given : Given) (B : ℕ → Body) (S : State) (ss : List Send) → Each (λ s. IsOfNoTask s.message) ss → Each (λ s. MessageFits given B S me s.to s.message) ss
  sent_fit given B S [] n = tt
  sent_fit given B S (s ∷ ss) n = (no_fit given B S me s.to s.message n.0, sent_fit given B S ss n.1)

-- ---- the outcome

pub waits_are_kept : laws.WaitsAreKept
waits_are_kept given w S c k more s e reason st here first rests =
    let o : Option Suspended = Some (record s { waits = reason }) in
    let r : Suspended = record s { waits = reason } in
    let old = st.calls in
    let slots = ap (λ (t : Tasks). t.slots) rests.tasks in
    let change = slot_change (bodies w) c k o e.body slots in
    let f = old.tasks.slots c k s first.there in
    let going = first_goes given w S c k more s st first in
    let stands = first_stands given w S c k more s st first in
    let act : CallsAct given w c [] e S S c k o [] = record {
      change = change;
      kept = λ id t other h. h;
      elsewhere = none_elsewhere given w (MessageFits given (bodies w) S) c k old.messages;
      new = λ u h. subst_slot given S c k r u h (record {
        here = f.here;
        low = f.low;
        counted = f.counted;
        stands = λ z. record { plain = stands.plain; there = stands.there; action = stands.action; running = stands.running; mode = stands.mode ∙ ap (λ q. mode_of q s.action) going ∙ sym rests.mode };
      });
      private = subst (λ (q : Queues). Each (UnitFits given S) q.private) (sym rests.work) (old.tasks.private c here);
      public = subst (λ (q : Queues). Each (UnitFits given S) q.public) (sym rests.work) (old.tasks.public c here);
      sends = sent_fit c given (put (bodies w) c e.body) S e.sends rests.sends;
      ready = ready_kept (bodies w) c k o e.body change
          (ap (λ (t : Tasks). times k t.ready) rests.tasks ∙ rest_here given w S c k more s st first ∙ sym rests.not_going)
          (λ l ne. ap (λ (t : Tasks). times l t.ready) rests.tasks ∙ rest_other w c k more s first l ne) old.tasks.ready;
      fresh = fresh_kept (bodies w) S S c e.body (ap (λ (t : Tasks). t.next) rests.tasks) (λ id h. h) old.tasks.fresh;
      once = λ id. omega (
        arith,
        slot_census (is_task id) given.slots (bodies w c) e.body k o f.low slots rests.work,
        ap (of_held (is_task id).of_task) first.there,
        sent_none c (carried (is_task id).of_unit) (no_unit (is_task id).of_unit) e.sends rests.sends,
      );
      quiet = old.asked c k ∙ of_slot_is is_asking ((bodies w c).tasks.slots k) s wait.Going first.there going;
      asked = sent_none c (is_about c k) (no_slot c k) e.sends rests.sends ∙ sym rests.not_asking;
      others = λ i l ne. sent_none c (is_about i l) (no_slot i l) e.sends rests.sends;
    } in
    kept_by given w S S c [] e c k o [] st act
    (words_stay (machine_in given) (bodies w) c S.objects st.words e.body.words S.objects rests.words (same_memory S.objects))
