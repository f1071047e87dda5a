-- One task in a slot becomes another one of the same name.
use Rattle.std.proofs.Common.{◌≡◌, ◌≢◌, ◌⊎◌, ℕ, zero, suc, ◌+◌, ◌<◌, ◌≤◌, List, [], ◌∷◌, inl, inr, sym, ◌∙◌, ap, subst, refl, arith, Option, Some, None}
use Rattle.std.specs.FinMap as fin
use Rattle.gr_lang.specs.declared.action.TaskId.{TaskId}
use Rattle.gr_lang.specs.States.{Task, State, id_cmp}
use Rattle.gr_view.specs.Places.{put}
use Rattle.gr_msg.specs.declared.message.Msg.{Msg}
use Rattle.gr_msg.specs.declared.message.Unit.{Unit as WorkUnit}
use Rattle.gr_work.specs.Queues.{Queues}
use Rattle.gr_net.specs.Sums.{total, weigh, Each}
use Rattle.gr_machine.specs.States.{Letter, Suspended, Body}
use Rattle.gr_machine.specs.Outcomes.{Outcome}
use Rattle.gr_stands.specs.Worlds.{Given, machine_in, World, bodies, of_letters}
use Rattle.gr_stands.specs.Censuses.{of_held, is_task, is_named, carried, is_unended}
use Rattle.gr_stands.specs.Calls.{StandsAt, is_told, is_going, is_asking, of_slot, times, is_about, UnitFits, MessageFits}
use Rattle.gr_stands.specs.CallActs.{IsOther, IsOtherUnit, AreElsewhere, CallsAct}
use Rattle.gr_stands.specs.Stands.{Stands}
use Rattle.gr_stands.proofs.Memories.{words_stay}
use Rattle.gr_stands.proofs.Calls.{slot_change}
use Rattle.gr_stands.proofs.Places.{none_elsewhere}
use Rattle.gr_stands_calls.specs.Acting.{Keeps}
use Rattle.gr_stands_calls.specs.Rests.{IsOfNoTask}
use Rattle.gr_stands_calls.proofs.Slots.{slot_census, ready_kept, fresh_kept, put_kept, put_new, put_unended, alone, units_kept, subst_slot}
use Rattle.gr_stands_calls.proofs.Rests.{no_unit, no_slot, sent_none, sent_fit}
use Rattle.gr_stands_calls.proofs.Common.{kept_by}
use Rattle.gr_stands_changes.specs.Changes.{GoesTo, ChangesSlot}
use Rattle.gr_stands_changes.specs.Laws as laws

-- ---- letters that tell of no task

pub got_none : (me : ℕ) (h : ℕ → ℕ → Msg → ℕ) → ((from to : ℕ) (m : Msg) → IsOfNoTask m → h from to m ≡ 0) → (ls : List Letter) → Each (λ l. IsOfNoTask l.message) ls → of_letters h me ls ≡ 0
got_none me h z [] n = refl
got_none me h z (l ∷ ls) n = omega (arith, z l.from me l.message n.0, got_none me h z ls n.1)

-- ---- the plain state

-- What the tasks of the plain state are after it, for all but these.
record Plain (given : Given) (w : World) (S T : State) (d k : ℕ) (ids : List TaskId) : Type 0 where
  kept : (id : TaskId) (x : Task) → IsOther ids id → fin.get S.tasks id ≡ Some x → fin.get T.tasks id ≡ Some x
  elsewhere : AreElsewhere given w d k ids
  new : (id : TaskId) → fin.get S.tasks id ≡ None → fin.get T.tasks id ≡ None
  unended : (id : TaskId) → is_unended (fin.get T.tasks id) ≡ is_unended (fin.get S.tasks id)

module _ (given : Given) (w : World) (S T : State) (st : Stands given w S) (d k : ℕ) (s : Suspended) (there : (bodies w d).tasks.slots k ≡ Some s) where
  still : T.tasks ≡ S.tasks → Plain given w S T d k []
  still e = record {
    kept = λ id x other h. ap (λ (m : fin.FinMap id_cmp Task). fin.get m id) e ∙ h;
    elsewhere = none_elsewhere given w (MessageFits given (bodies w) S) d k st.calls.messages;
    new = λ id h. ap (λ (m : fin.FinMap id_cmp Task). fin.get m id) e ∙ h;
    unended = λ id. ap (λ (m : fin.FinMap id_cmp Task). is_unended (fin.get m id)) e;
  }

  abbrev put_one : Task → State
  put_one x = record S { tasks = fin.insert S.tasks s.id x }

  gone : GoesTo S T s.id → Plain given w S T d k (s.id ∷ [])
  gone g = record {
    kept = λ id x other h. g.tasks id ∙ put_kept S (put_one g.new) s.id g.old g.new g.there refl id x other h;
    elsewhere = alone given w S d k s g.old st.calls there g.there g.lives;
    new = λ id h. g.tasks id ∙ put_new S (put_one g.new) s.id g.old g.new g.there refl id h;
    unended = λ id. ap is_unended (g.tasks id) ∙ put_unended S (put_one g.new) s.id g.old g.new g.there refl (g.lives_on ∙ sym g.lives) id;
  }

-- ---- the outcome

module _ (given : Given) (w : World) (S T : State) (c : ℕ) (got : List Letter) (e : Outcome) (k : ℕ) (s u : Suspended) (st : Stands given w S) (here : c < given.setup.cores)
    (a : ChangesSlot given w S T c got e k s u) where
  kept_with : (ids : List TaskId) → Plain given w S T c k ids → Keeps given w c got e T
  kept_with ids p =
      let o : Option Suspended = Some u in
      let old = st.calls in
      let change = slot_change (bodies w) c k o e.body a.slots in
      let f = old.tasks.slots c k s a.there in
      let act : CallsAct given w c got e S T c k o ids = record {
        change = change;
        kept = p.kept;
        elsewhere = p.elsewhere;
        new = λ t h. subst_slot given T c k u t h (record { here = f.here; low = f.low; counted = subst (λ (n : ℕ). n < given.setup.cores) (sym a.counted) f.counted; stands = a.stands });
        private = subst (λ (q : Queues). Each (UnitFits given T) q.private) (sym a.work) (units_kept given S T ids p.kept (bodies w c).work.private (old.tasks.private c here) (p.elsewhere.private c here));
        public = subst (λ (q : Queues). Each (UnitFits given T) q.public) (sym a.work) (units_kept given S T ids p.kept (bodies w c).work.public (old.tasks.public c here) (p.elsewhere.public c here));
        sends = sent_fit c given (put (bodies w) c e.body) T e.sends a.sends;
        ready = ready_kept (bodies w) c k o e.body change a.ready a.others old.tasks.ready;
        fresh = fresh_kept (bodies w) S T c e.body a.number p.new old.tasks.fresh;
        once = λ id. omega (
          arith,
          slot_census (is_task id) given.slots (bodies w c) e.body k o f.low a.slots a.work,
          ap (of_held (is_task id).of_task) a.there,
          ap (is_named id) a.named,
          sent_none c (carried (is_task id).of_unit) (no_unit (is_task id).of_unit) e.sends a.sends,
          got_none c (carried (is_task id).of_unit) (no_unit (is_task id).of_unit) got a.letters,
          p.unended id,
        );
        quiet = old.asked c k ∙ ap (of_slot is_asking) a.there ∙ a.was_not_asking ∙ sym (got_none c (is_about c k) (no_slot c k) got a.letters);
        asked = sent_none c (is_about c k) (no_slot c k) e.sends a.sends ∙ sym a.not_asking;
        others = λ i l ne. sent_none c (is_about i l) (no_slot i l) e.sends a.sends ∙ sym (got_none c (is_about i l) (no_slot i l) got a.letters);
      } in
      kept_by given w S T c got e c k o ids st act
      (words_stay (machine_in given) (bodies w) c S.objects st.words e.body.words T.objects a.words a.memory)

  by_plain : (T.tasks ≡ S.tasks) ⊎ GoesTo S T s.id → Keeps given w c got e T
  by_plain (inl e) = kept_with [] (still given w S T st c k s a.there e)
  by_plain (inr g) = kept_with (s.id ∷ []) (gone given w S T st c k s a.there g)

pub slot_changes_are_kept : laws.SlotChangesAreKept
slot_changes_are_kept given w S T c got e k s u st here a = by_plain given w S T c got e k s u st here a a.plain
