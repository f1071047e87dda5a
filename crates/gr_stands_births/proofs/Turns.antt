-- A task whose turn it is goes on or waits at a scope; some singles are born.
use Rattle.std.proofs.Common.{◌≡◌, ◌≢◌, ℕ, zero, suc, ◌+◌, ◌<◌, ◌≤◌, List, [], ◌∷◌, ◌++◌, sym, ◌∙◌, ap, subst, refl, arith, Option, Some, None}
use Rattle.std.specs.FinMap as fin
use Rattle.gr_lang.specs.declared.action.TaskId.{TaskId}
use Rattle.gr_lang.specs.States.{Task, State, going}
use Rattle.gr_view.specs.Places.{put}
use Rattle.gr_msg.specs.declared.message.Msg.{Msg}
use Rattle.gr_net.specs.Sums.{total, weigh, Each}
use Rattle.gr_net.proofs.Spreads.{total_put}
use Rattle.gr_machine.specs.States.{Suspended, Body}
use Rattle.gr_machine.specs.Outcomes.{Outcome}
use Rattle.gr_machine.specs.Runs.{without_ready}
use Rattle.gr_machine.specs.declared.waits.Waits.TheVariants as wait
use Rattle.gr_stands.specs.Worlds.{Given, World, bodies, of_sends}
use Rattle.gr_stands.specs.Censuses.{of_held, is_task, is_named, is_single, carried, is_unended, going_on, body_census}
use Rattle.gr_stands.specs.Calls.{StandsAt, mode_of, is_told, is_going, is_asking, of_slot, times, is_about, UnitFits}
use Rattle.gr_stands.specs.CallActs.{IsOther, CallsAct}
use Rattle.gr_stands.specs.Stands.{Stands}
use Rattle.gr_stands.proofs.Calls.{slot_change}
use Rattle.gr_stands_calls.specs.Acting.{IsFirst}
use Rattle.gr_stands_calls.specs.Stays.{IsOfNoSlot, CarriesFit, singles_in}
use Rattle.gr_stands_calls.proofs.Slots.{ready_kept, alone, subst_slot}
use Rattle.gr_stands_calls.proofs.Stays.{sent_about, sent_fit}
use Rattle.gr_stands_calls.proofs.Common.{first_goes, rest_here, rest_other}
use Rattle.gr_stands_births.specs.Turning.{IsTurn}
use Rattle.gr_stands_births.specs.Laws as laws

pub first_turn : laws.FirstsHaveTheirTurn
first_turn given w S me slot more task st first =
    let waits = first_goes given w S me slot more task st first in
    record {
      there = first.there;
      not_told = ap is_told waits;
      not_asking = ap is_asking waits;
      goes = ap (λ q. mode_of q task.action) waits;
      slots = refl;
      next = refl;
      not_ready = rest_here given w S me slot more task st first;
      ready = rest_other w me slot more task first;
      work = refl;
      words = refl;
    }

-- One slot has another task, which has the same name, and the units are others.
pub slot_units : (id : TaskId) (m : ℕ) (a b : Body) (k : ℕ) (s u : Suspended) → k < m → b.tasks.slots ≡ put a.tasks.slots k (Some u) → a.tasks.slots k ≡ Some s → u.id ≡ s.id
    → body_census (is_task id) m b + singles_in id a ≡ body_census (is_task id) m a + singles_in id b
unfolding body_census
slot_units id m a b k s u l e there same = omega (
  arith,
  total_put (λ (i : ℕ) (o : Option Suspended). of_held (is_task id).of_task o) a.tasks.slots k (Some u) m l,
  ap (λ (f : ℕ → Option Suspended). total m (λ i. of_held (is_task id).of_task (f i))) e,
  ap (of_held (is_task id).of_task) there,
  ap (is_named id) same,
)

-- What an outcome does in a task's turn, with these singles born.
pub record Turns (given : Given) (w : World) (S T : State) (me slot : ℕ) (task u : Suspended) (e : Outcome) (born : TaskId → ℕ) : Type 0 where
  pub slots : e.body.tasks.slots ≡ put (bodies w me).tasks.slots slot (Some u)
  pub ready_here : times slot e.body.tasks.ready ≡ is_going u.waits
  pub ready_other : (l : ℕ) → l ≢ slot → times l e.body.tasks.ready ≡ times l (bodies w me).tasks.ready
  pub same_name : u.id ≡ task.id
  pub same_origin : u.origin ≡ task.origin
  pub not_asking : is_asking u.waits ≡ 0
  pub stands : StandsAt T u
  pub kept : (id : TaskId) (x : Task) → IsOther (task.id ∷ []) id → fin.get S.tasks id ≡ Some x → fin.get T.tasks id ≡ Some x
  pub fresh : (i number : ℕ) → (put (bodies w) me e.body i).tasks.next ≤ number → fin.get T.tasks (record { core = i; number = number }) ≡ None
  pub unended : (id : TaskId) → is_unended (fin.get T.tasks id) ≡ is_unended (fin.get S.tasks id) + born id
  pub singles : (id : TaskId) → singles_in id e.body + of_sends (carried (is_single id)) me e.sends ≡ singles_in id (bodies w me) + born id
  pub private : Each (UnitFits given T) e.body.work.private
  pub public : Each (UnitFits given T) e.body.work.public
  pub sends : Each (λ send. IsOfNoSlot send.message × CarriesFit given T send.message) e.sends

pub turn_stands : (given : Given) (w : World) (S : State) (me slot : ℕ) (task : Suspended) (body : Body) → Stands given w S → IsTurn w me slot task body → StandsAt S task
turn_stands given w S me slot task body st turn = (st.calls.tasks.slots me slot task turn.there).stands turn.not_told

pub turn_act : (given : Given) (w : World) (S T : State) (me slot : ℕ) (task u : Suspended) (body : Body) (e : Outcome) (born : TaskId → ℕ)
    → Stands given w S → me < given.setup.cores → IsTurn w me slot task body → Turns given w S T me slot task u e born
    → CallsAct given w me [] e S T me slot (Some u) (task.id ∷ [])
turn_act given w S T me slot task u body e born st here turn a =
    let old = st.calls in
    let o : Option Suspended = Some u in
    let change = slot_change (bodies w) me slot o e.body a.slots in
    let f = old.tasks.slots me slot task turn.there in
    let stands = turn_stands given w S me slot task body st turn in
    record {
      change = change;
      kept = a.kept;
      elsewhere = alone given w S me slot task stands.plain old turn.there stands.there (ap going_on (stands.mode ∙ turn.goes));
      new = λ t h. subst_slot given T me slot u t h (record { here = f.here; low = f.low; counted = subst (λ (n : ℕ). n < given.setup.cores) (sym a.same_origin) f.counted; stands = λ z. a.stands });
      private = a.private;
      public = a.public;
      sends = sent_fit given T me (put (bodies w) me e.body) e.sends a.sends;
      ready = ready_kept (bodies w) me slot o e.body change a.ready_here a.ready_other old.tasks.ready;
      fresh = a.fresh;
      once = λ id. omega (arith, slot_units id given.slots (bodies w me) e.body slot task u f.low a.slots turn.there a.same_name, a.singles id, a.unended id);
      quiet = old.asked me slot ∙ ap (of_slot is_asking) turn.there ∙ turn.not_asking;
      asked = sent_about given T me me slot e.sends a.sends ∙ sym a.not_asking;
      others = λ i l ne. sent_about given T me i l e.sends a.sends;
    }
