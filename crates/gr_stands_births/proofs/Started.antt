-- A unit that is one task starts.
use Rattle.std.proofs.Common.{◌≡◌, ◌≢◌, ℕ, zero, suc, ◌+◌, ◌-◌, ◌<◌, Bool, if◌then◌else◌, List, [], ◌∷◌, ◌++◌, length, take, sym, ◌∙◌, ap, subst, refl, arith, Option, Some, None}
use Rattle.std.specs.List.{last_or}
use Rattle.gr_lang.specs.declared.action.TaskId.{TaskId}
use Rattle.gr_lang.specs.States.{State}
use Rattle.gr_view.specs.Places.{put}
use Rattle.gr_msg.specs.declared.message.ScopeId.{ScopeId}
use Rattle.gr_msg.specs.declared.message.Unit.{Unit as WorkUnit}
use Rattle.gr_msg.specs.declared.message.Unit.TheVariants as unit
use Rattle.gr_work.specs.Queues.{Queues, next_unit, after_next}
use Rattle.gr_net.specs.Sums.{total, weigh, Each}
use Rattle.gr_net.proofs.Spreads.{total_put}
use Rattle.gr_machine.specs.States.{Suspended, Body}
use Rattle.gr_machine.specs.Openings.{new_task}
use Rattle.gr_machine.specs.Runs.{first_unit, without_unit, run_unit, taken_up}
use Rattle.gr_stands.specs.Worlds.{Given, machine_in, World, bodies}
use Rattle.gr_stands.specs.Censuses.{of_held, is_task, is_named, is_single, body_census}
use Rattle.gr_stands.specs.Calls.{is_going, is_asking, of_slot, times, SingleFits, UnitFits, MessageFits}
use Rattle.gr_stands.specs.CallActs.{CallsAct}
use Rattle.gr_stands.specs.Stands.{Stands}
use Rattle.gr_stands.proofs.Memories.{words_stay}
use Rattle.gr_stands.proofs.Calls.{slot_change}
use Rattle.gr_stands.proofs.Places.{none_elsewhere, times_last, times_before}
use Rattle.gr_stands_calls.specs.Stays.{singles_in}
use Rattle.gr_stands_calls.proofs.Slots.{ready_kept, fresh_kept, subst_slot}
use Rattle.gr_stands_calls.proofs.Queues.{taken_weigh, taken_fit}
use Rattle.gr_stands_calls.proofs.Common.{same_memory, kept_by}
use Rattle.gr_stands_births.specs.Laws as laws

-- ---- the outcome

started_census : (id : TaskId) (m : ℕ) (a b : Body) (k : ℕ) (u : Suspended) → k < m → b.tasks.slots ≡ put a.tasks.slots k (Some u) → a.tasks.slots k ≡ None
    → body_census (is_task id) m b + singles_in id a ≡ body_census (is_task id) m a + (singles_in id b + is_named id u.id)
unfolding body_census
started_census id m a b k u l e free = omega (
  arith,
  total_put (λ (i : ℕ) (o : Option Suspended). of_held (is_task id).of_task o) a.tasks.slots k (Some u) m l,
  ap (λ (f : ℕ → Option Suspended). total m (λ i. of_held (is_task id).of_task (f i))) e,
  ap (of_held (is_task id).of_task) free,
)

pub singles_start : laws.SinglesStart
singles_start given w S me slot target args scope origin id st here ready is free low =
    let machine = machine_in given in
    let body = bodies w me in
    let single : WorkUnit = unit.Single target args scope origin id in
    let e = taken_up machine me (without_unit body) slot single in
    let u : Suspended = new_task id scope origin (machine.code.start target args) in
    let o : Option Suspended = Some u in
    let old = st.calls in
    let change = slot_change (bodies w) me slot o e.body refl in
    let t = taken_fit (UnitFits given S) body.work.private body.work.public single is (old.tasks.private me here) (old.tasks.public me here) in
    let fits : SingleFits given S target args scope origin id = t.first in
    let act : CallsAct given w me [] e S S me slot o [] = record {
      change = change;
      kept = λ q x other h. h;
      elsewhere = none_elsewhere given w (MessageFits given (bodies w) S) me slot old.messages;
      new = λ x h. subst_slot given S me slot u x h (record { here = here; low = low; counted = fits.counted; stands = λ z. fits.stands });
      private = t.private_left;
      public = t.public_left;
      sends = tt;
      ready = ready_kept (bodies w) me slot o e.body change
          (omega (arith, times_last slot body.tasks.ready, old.tasks.ready me slot, ap (of_slot is_going) free))
          (λ l ne. times_before l slot body.tasks.ready ne) old.tasks.ready;
      fresh = fresh_kept (bodies w) S S me e.body refl (λ q h. h) old.tasks.fresh;
      once = λ q. omega (
        arith,
        started_census q given.slots body e.body slot u low refl free,
        taken_weigh (is_single q) body.work.private body.work.public single is,
      );
      quiet = old.asked me slot ∙ ap (of_slot is_asking) free;
      asked = refl;
      others = λ i l ne. refl;
    } in
    record {
      outcome = e;
      acts = ap (run_unit machine me (without_unit body) slot) is ∙ ap (λ (b : Bool). if b then Some e else None) fits.known;
      sends = tt;
      marks = refl;
      keeps = kept_by given w S S me [] e me slot o [] st act
          (words_stay machine (bodies w) me S.objects st.words e.body.words S.objects refl (same_memory S.objects));
    }
