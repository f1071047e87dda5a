-- Tasks in slots and words stay: units come, and are given away.
use Rattle.std.proofs.Common.{◌≡◌, ◌≢◌, ℕ, zero, suc, ◌+◌, ◌<◌, ◌==◌, if◌then◌else◌, Bool, true, false, List, [], ◌∷◌, ◌++◌, sym, ◌∙◌, ap, subst, refl, arith, lt_irrefl, Option, Some, None}
use Rattle.gr_lang.specs.declared.action.TaskId.{TaskId}
use Rattle.gr_lang.specs.States.{State}
use Rattle.gr_msg.specs.declared.message.Msg.{Msg}
use Rattle.gr_msg.specs.declared.message.Msg.TheVariants as msg
use Rattle.gr_msg.specs.declared.message.Unit.{Unit as WorkUnit}
use Rattle.gr_net.specs.Sums.{total, weigh, Each}
use Rattle.gr_net.proofs.Spreads.{put_field, put_each, weigh-append, Each-append}
use Rattle.gr_machine.specs.States.{Letter, Suspended, Tasks, Body}
use Rattle.gr_machine.specs.Outcomes.{Outcome, Send}
use Rattle.gr_machine.specs.Events.{gives, gifts, still_public, still_waiting}
use Rattle.gr_machine.specs.ScopeServes.{spawned}
use Rattle.gr_view.specs.Places.{put}
use Rattle.gr_stands.specs.Worlds.{Given, machine_in, World, bodies, in_flight, of_letters, of_sends}
use Rattle.gr_stands.specs.Censuses.{of_held, is_task, is_single, carried, body_census}
use Rattle.gr_stands.specs.Calls.{is_going, is_asking, of_slot, times, is_about, UnitFits, MessageFits, TasksStand}
use Rattle.gr_stands.specs.CallActs.{CallsAct}
use Rattle.gr_stands.specs.Stands.{Stands}
use Rattle.gr_stands.proofs.Memories.{words_stay}
use Rattle.gr_stands.proofs.Calls.{slot_unchanged}
use Rattle.gr_stands.proofs.Places.{none_elsewhere}
use Rattle.gr_stands_calls.specs.Acting.{letter, IsFirstLetter, Keeps}
use Rattle.gr_stands_calls.specs.Stays.{IsOfNoSlot, CarriesFit, singles_in, TasksStay}
use Rattle.gr_stands_calls.specs.Laws as laws
use Rattle.gr_stands_calls.proofs.Slots.{none_some, fresh_kept}
use Rattle.gr_stands_calls.proofs.Common.{same_memory, first_fits, kept_by}

-- ---- messages of no slot

about_none : (core slot from to : ℕ) (m : Msg) → IsOfNoSlot m → is_about core slot from to m ≡ 0
about_none core slot from to (msg.Request k id operation x y z) n = absurd n
about_none core slot from to (msg.Reply k id first second) n = absurd n
about_none core slot from to _ n = refl

fits_so : (given : Given) (B : ℕ → Body) (S : State) (from to : ℕ) (m : Msg) → IsOfNoSlot m → CarriesFit given S m → MessageFits given B S from to m
fits_so given B S from to (msg.Request k id operation x y z) n f = absurd n
fits_so given B S from to (msg.Reply k id first second) n f = absurd n
fits_so given B S from to (msg.Spawn u) n f = f
fits_so given B S from to (msg.StealGive u) n f = f
fits_so given B S from to _ n f = tt

module _ (given : Given) (S : State) (me : ℕ) where
  pub sent_about : (core slot : ℕ) (ss : List Send) → Each (λ s. IsOfNoSlot s.message × CarriesFit given S s.message) ss → of_sends (is_about core slot) me ss ≡ 0
  sent_about core slot [] n = refl
  sent_about core slot (s ∷ ss) n = omega (arith, about_none core slot me s.to s.message n.0.0, sent_about core slot ss n.1)

  got_about : (core slot : ℕ) (ls : List Letter) → Each (λ l. IsOfNoSlot l.message) ls → of_letters (is_about core slot) me ls ≡ 0
  got_about core slot [] n = refl
  got_about core slot (l ∷ ls) n = omega (arith, about_none core slot l.from me l.message n.0, got_about core slot ls n.1)

  pub sent_fit : (B : ℕ → Body) (ss : List Send) → Each (λ s. IsOfNoSlot s.message × CarriesFit given S s.message) ss → Each (λ s. MessageFits given B S me s.to s.message) ss
  sent_fit B [] n = tt
  sent_fit B (s ∷ ss) n = (fits_so given B S me s.to s.message n.0.0 n.0.1, sent_fit B ss n.1)

of_none : (o : Option Suspended) → ((s : Suspended) → o ≡ Some s → ⊥) → o ≡ None
of_none None e = refl
of_none (Some s) e = absurd (e s refl)

-- No core of the number of cores has a task.
pub outside : (given : Given) (B : ℕ → Body) (S : State) → TasksStand given B S → (B given.setup.cores).tasks.slots 0 ≡ None
outside given B S old = of_none ((B given.setup.cores).tasks.slots 0) (λ s e. lt_irrefl given.setup.cores (old.slots given.setup.cores 0 s e).here)

census_stays : (id : TaskId) (m : ℕ) (a b : Body) → b.tasks ≡ a.tasks → body_census (is_task id) m b + singles_in id a ≡ body_census (is_task id) m a + singles_in id b
unfolding body_census
census_stays id m a b e = omega (arith, ap (λ (t : Tasks). total m (λ k. of_held (is_task id).of_task (t.slots k))) e)

pub tasks_stay : laws.TasksStayPut
tasks_stay given w S c got e st here stays =
    let n = given.setup.cores in
    let old = st.calls in
    let none = outside given (bodies w) S old.tasks in
    let act : CallsAct given w c got e S S n 0 None [] = record {
      change = slot_unchanged (bodies w) c n 0 None e.body (ap (λ (t : Tasks). t.slots) stays.tasks) none;
      kept = λ id t other h. h;
      elsewhere = none_elsewhere given w (MessageFits given (bodies w) S) n 0 old.messages;
      new = λ u h. absurd (none_some u h);
      private = stays.private;
      public = stays.public;
      sends = sent_fit given S c (put (bodies w) c e.body) e.sends stays.sends;
      ready = λ i l. put_each (λ (i : ℕ) (q : Body). times l q.tasks.ready ≡ of_slot is_going (q.tasks.slots l)) (bodies w) c e.body i
          (λ q. ap (λ (t : Tasks). times l t.ready) stays.tasks ∙ old.tasks.ready c l ∙ ap (λ (t : Tasks). of_slot is_going (t.slots l)) (sym stays.tasks))
          (λ q. old.tasks.ready i l);
      fresh = fresh_kept (bodies w) S S c e.body (ap (λ (t : Tasks). t.next) stays.tasks) (λ id h. h) old.tasks.fresh;
      once = λ id. omega (arith, census_stays id given.slots (bodies w c) e.body stays.tasks, stays.singles id);
      quiet = old.asked n 0 ∙ ap (of_slot is_asking) none ∙ sym (got_about given S c n 0 got stays.letters);
      asked = sent_about given S c n 0 e.sends stays.sends;
      others = λ i l ne. sent_about given S c i l e.sends stays.sends ∙ sym (got_about given S c i l got stays.letters);
    } in
    kept_by given w S S c got e n 0 None [] st act
    (words_stay (machine_in given) (bodies w) c S.objects st.words e.body.words S.objects stays.words (same_memory S.objects))

-- ---- a unit comes

pub units_come : laws.UnitsCome
units_come given w S c from u st first =
    let fits = first_fits given w S c from (msg.Spawn u) st first in
    tasks_stay given w S c (letter from (msg.Spawn u) ∷ []) (spawned (bodies w c) u) st first.here (record {
      tasks = refl;
      words = refl;
      letters = (tt, tt);
      sends = tt;
      private = Each-append (UnitFits given S) (bodies w c).work.private (u ∷ []) (st.calls.tasks.private c first.here) (fits, tt);
      public = st.calls.tasks.public c first.here;
      singles = λ id. omega (arith, weigh-append (is_single id) (bodies w c).work.private (u ∷ []));
    })

-- ---- units are given away

given_fit : (given : Given) (S : State) (cores : List ℕ) (us : List WorkUnit) → Each (UnitFits given S) us
    → Each (λ (s : Send). IsOfNoSlot s.message × CarriesFit given S s.message) (gifts cores us) × Each (UnitFits given S) (still_public cores us)
given_fit given S [] us f = (tt, f)
given_fit given S (core ∷ cores) [] f = (tt, tt)
given_fit given S (core ∷ cores) (u ∷ us) f = let r = given_fit given S cores us f.1 in (((tt, f.0), r.0), r.1)

given_weigh : (id : TaskId) (me : ℕ) (cores : List ℕ) (us : List WorkUnit)
    → weigh (is_single id) (still_public cores us) + of_sends (carried (is_single id)) me (gifts cores us) ≡ weigh (is_single id) us
given_weigh id me [] us = omega arith
given_weigh id me (core ∷ cores) [] = refl
given_weigh id me (core ∷ cores) (u ∷ us) = omega (arith, given_weigh id me cores us)

pub units_are_given : laws.UnitsAreGiven
units_are_given given w S c st here =
    let body = bodies w c in
    let r = given_fit given S body.steals.waiting body.work.public (st.calls.tasks.public c here) in
    tasks_stay given w S c [] (gives body) st here (record {
      tasks = refl;
      words = refl;
      letters = tt;
      sends = r.0;
      private = st.calls.tasks.private c here;
      public = r.1;
      singles = λ id. omega (arith, given_weigh id c body.steals.waiting body.work.public);
    })
