-- Part 2 is kept by an outcome, from what it asks of it; and by Ships and Takes.
use Rattle.std.proofs.Common.{◌≡◌, ◌⊎◌, ◌≢◌, ℕ, ◌+◌, ◌==◌, ◌<◌, ◌≤◌, ◌&&◌, if◌then◌else◌, List, [], ◌∷◌, inl, inr, sym, ◌∙◌, ap, subst, refl, arith, Option, Some, None, false}
use Rattle.std.specs.FinMap as fin
use Rattle.std.proofs.lemmas.Bool.{cases_eq}
use Rattle.std.proofs.lemmas.Bool.Decides.{nat_tests}
use Rattle.gr_lang.specs.declared.action.TaskId.{TaskId}
use Rattle.gr_lang.specs.States.{Task, State}
use Rattle.gr_view.specs.Places.{put}
use Rattle.gr_msg.specs.declared.message.Msg.{Msg}
use Rattle.gr_msg.specs.declared.message.Msg.TheVariants as msg
use Rattle.gr_msg.specs.declared.message.Unit.{Unit as WorkUnit}
use Rattle.gr_msg.specs.declared.message.Unit.TheVariants as unit
use Rattle.gr_agg.specs.Laws.{Adds, Merges}
use Rattle.gr_net.specs.Sums.{Each}
use Rattle.gr_net.specs.Flights.{Everywhere}
use Rattle.gr_net.proofs.Spreads.{put_same, put_other, put_each, put_field, Each-weaker}
use Rattle.gr_net.proofs.Flights.{every_with, every_zero}
use Rattle.gr_machine.specs.declared.waits.Waits.{Waits}
use Rattle.gr_machine.specs.declared.waits.Waits.TheVariants as wait
use Rattle.gr_machine.specs.States.{Letter, Suspended, Body}
use Rattle.gr_machine.specs.Outcomes.{Outcome}
use Rattle.gr_machine.specs.Nets.{messages_in}
use Rattle.gr_stands.specs.Worlds.{Given, World, bodies, in_flight, of_letters, of_sends, Acts, Moves}
use Rattle.gr_stands.specs.Censuses.{is_task, is_unended, body_census, carried, census}
use Rattle.gr_stands.specs.Calls.{StandsAt, is_told, is_going, is_asking, of_slot, times, is_about, IsAskedBy, SlotFits, SingleFits, UnitFits, RequestFits, ReplyFits, MessageFits, TasksStand, CallsStand}
use Rattle.gr_stands.specs.CallActs.{Apart, SlotChange, IsOther, IsOtherUnit, IsOtherIn, in_batch, AreElsewhere, CallsAct, CallsAreKept}
use Rattle.gr_stands.proofs.Worlds.{acted_bodies, without, flow, flow_off, facts_off, facts_on, census_law, moved_bodies, moved_flow, moved_facts, moved_census}

-- ---- slots

pub place_cases : (d c l k : ℕ) → ((d ≡ c) × (l ≡ k)) ⊎ Apart c k d l
place_cases d c l k = elim (cases_eq d c) [
  | inl p ↦ elim (cases_eq l k) [ inl q ↦ inl (p, q) | inr q ↦ inr (λ z. q z.1) ]
  | inr p ↦ inr (λ z. p z.0)
]

pub slot_change : (B : ℕ → Body) (c k : ℕ) (o : Option Suspended) (b : Body) → b.tasks.slots ≡ put (B c).tasks.slots k o → SlotChange B (put B c b) c k o
slot_change B c k o b e = record {
  here = ap (λ (x : Body). x.tasks.slots k) (put_same B c b) ∙ ap (λ (f : ℕ → Option Suspended). f k) e ∙ put_same (B c).tasks.slots k o;
  other = λ d l ne. put_each (λ (i : ℕ) (x : Body). x.tasks.slots l ≡ (B i).tasks.slots l) B c b d
      (λ q. ap (λ (f : ℕ → Option Suspended). f l) e ∙ put_other (B c).tasks.slots k o l (λ r. ne (q, r)) ∙ ap (λ (i : ℕ). (B i).tasks.slots l) (sym q))
      (λ q. refl);
}

pub slot_unchanged : (B : ℕ → Body) (c d k : ℕ) (o : Option Suspended) (b : Body) → b.tasks.slots ≡ (B c).tasks.slots → (B d).tasks.slots k ≡ o → SlotChange B (put B c b) d k o
slot_unchanged B c d k o b e there =
    let same : (i l : ℕ) → (put B c b i).tasks.slots l ≡ (B i).tasks.slots l = λ i l. put_field (λ (x : Body). x.tasks.slots l) B c b (ap (λ (f : ℕ → Option Suspended). f l) e) i in
    record { here = same d k ∙ there; other = λ i l ne. same i l }

pub slot_at : (A B : ℕ → Body) (c k : ℕ) (o : Option Suspended) → SlotChange A B c k o → (d l : ℕ) → (P : Option Suspended → Type 0)
    → ((d ≡ c) × (l ≡ k) → P o) → (Apart c k d l → P ((A d).tasks.slots l)) → P ((B d).tasks.slots l)
slot_at A B c k o ch d l P at apart = elim (place_cases d c l k) [
  | inl q ↦ subst (λ (i : ℕ). P ((B i).tasks.slots l)) (sym q.0) (subst (λ (j : ℕ). P ((B c).tasks.slots j)) (sym q.1) (subst P (sym ch.here) (at q)))
  | inr q ↦ subst P (sym (ch.other d l q)) (apart q)
]

-- ---- what stands still stands

pub stands_still : (S T : State) (ids : List TaskId) (task : Suspended) → ((id : TaskId) (x : Task) → IsOther ids id → fin.get S.tasks id ≡ Some x → fin.get T.tasks id ≡ Some x)
    → IsOther ids task.id → StandsAt S task → StandsAt T task
stands_still S T ids task kept other s = record { plain = s.plain; there = kept task.id s.plain other s.there; action = s.action; running = s.running; mode = s.mode }

module _ (given : Given) (S T : State) (ids : List TaskId) (kept : (id : TaskId) (x : Task) → IsOther ids id → fin.get S.tasks id ≡ Some x → fin.get T.tasks id ≡ Some x) where
  pub unit_still : (u : WorkUnit) → UnitFits given S u → IsOtherUnit ids u → UnitFits given T u
  unit_still (unit.Single target args scope origin id) f other = record { known = f.known; counted = f.counted; stands = stands_still S T ids _ kept other f.stands }
  unit_still (unit.Chunk target args scope origin owner lo hi grain) f other = tt

  -- a message about another slot
  module _ (A B : ℕ → Body) (d k : ℕ) (o : Option Suspended) (ch : SlotChange A B d k o)
      (ok : (i l : ℕ) (u : Suspended) → Apart d k i l → (A i).tasks.slots l ≡ Some u → in_batch u.waits ≡ 0 → IsOther ids u.id) where
    asked_still : (i l : ℕ) (id : TaskId) (task : Suspended) → Apart d k i l → IsAskedBy A i l id task → IsAskedBy B i l id task
    asked_still i l id task apart a = record { there = ch.other i l apart ∙ a.there; named = a.named; waits = a.waits }

    fine : (i l : ℕ) (id : TaskId) (task : Suspended) → Apart d k i l → IsAskedBy A i l id task → IsOther ids task.id
    fine i l id task apart a = ok i l task apart a.there (ap in_batch a.waits)

    pub fits_still : (from to : ℕ) (m : Msg) → MessageFits given A S from to m → (is_about d k from to m ≡ 0) × IsOtherIn ids m → MessageFits given B T from to m
    fits_still from to (msg.Request l id operation x y z) f z0 =
        let apart : Apart d k from l = λ q. about_request d k from to l id operation x y z q z0.0 in
        record {
          sender = f.sender;
          task = f.task;
          asked = asked_still from l id f.task apart f.asked;
          call = f.call;
          next = f.next;
          request = f.request;
          stands = stands_still S T ids f.task kept (fine from l id f.task apart f.asked) f.stands;
        }
      where
        about_request : (c k from to l : ℕ) (id : TaskId) (operation x y z : ℕ) → (from ≡ c) × (l ≡ k) → is_about c k from to (msg.Request l id operation x y z) ≡ 0 → ⊥
        about_request c k from to l id operation x y z q e = grind (arith, nat_tests)
    fits_still from to (msg.Reply l id first second) f z0 =
        let apart : Apart d k to l = λ q. about_reply d k from to l id first second q z0.0 in
        record {
          task = f.task;
          asked = asked_still to l id f.task apart f.asked;
          stands = stands_still S T ids _ kept (fine to l id f.task apart f.asked) f.stands;
        }
      where
        about_reply : (c k from to l : ℕ) (id : TaskId) (first second : ℕ) → (to ≡ c) × (l ≡ k) → is_about c k from to (msg.Reply l id first second) ≡ 0 → ⊥
        about_reply c k from to l id first second q e = grind (arith, nat_tests)
    fits_still from to (msg.Spawn u) f z0 = unit_still u f z0.1
    fits_still from to (msg.StealGive u) f z0 = unit_still u f z0.1
    fits_still from to _ f z0 = tt

not_told : (w : Waits) → is_told w ≡ 0 → in_batch w ≡ 0
not_told wait.Reply e = refl
not_told (wait.Batch batch) e = absurd (omega arith)
not_told _ e = refl

-- ---- an outcome

about_adds : (core slot from to : ℕ) → Adds (is_about core slot from to)
about_adds core slot from to scope one other = refl

fits_merge : (given : Given) (B : ℕ → Body) (T : State) (from to : ℕ) → Merges (MessageFits given B T from to)
fits_merge given B T from to scope one other p q = tt

tasks_kept : (given : Given) (w : World) (c : ℕ) (got : List Letter) (e : Outcome) (S T : State) (d k : ℕ) (o : Option Suspended) (ids : List TaskId)
    → CallsAct given w c got e S T d k o ids → TasksStand given (bodies w) S → TasksStand given (put (bodies w) c e.body) T
tasks_kept given w c got e S T d k o ids a old =
    let B = put (bodies w) c e.body in
    record {
      slots = λ i l u. slot_at (bodies w) B d k o a.change i l (λ x. x ≡ Some u → SlotFits given T i l u)
          (λ q h. subst (λ (j : ℕ). SlotFits given T j l u) (sym q.0) (subst (λ (j : ℕ). SlotFits given T d j u) (sym q.1) (a.new u h)))
          (λ q h. let f = old.slots i l u h in record {
            here = f.here;
            low = f.low;
            counted = f.counted;
            stands = λ z. stands_still S T ids u a.kept (a.elsewhere.slots i l u q h (not_told u.waits z)) (f.stands z);
          });
      private = λ i l. put_each (λ (i : ℕ) (x : Body). Each (UnitFits given T) x.work.private) (bodies w) c e.body i
          (λ q. a.private)
          (λ q. Each-weaker (UnitFits given S) (IsOtherUnit ids) (UnitFits given T) (unit_still given S T ids a.kept) (bodies w i).work.private (old.private i l) (a.elsewhere.private i l));
      public = λ i l. put_each (λ (i : ℕ) (x : Body). Each (UnitFits given T) x.work.public) (bodies w) c e.body i
          (λ q. a.public)
          (λ q. Each-weaker (UnitFits given S) (IsOtherUnit ids) (UnitFits given T) (unit_still given S T ids a.kept) (bodies w i).work.public (old.public i l) (a.elsewhere.public i l));
      ready = a.ready;
      fresh = a.fresh;
    }

pub calls_kept : CallsAreKept
calls_kept given w v c got e S T d k o ids acts a old =
    let n = given.setup.cores in
    let A = bodies w in
    let B = put (bodies w) c e.body in
    let same : bodies v ≡ B = acted_bodies n w v c got e acts in
    let mail = λ (i l : ℕ). flow n w v c got e acts (is_about i l) (about_adds i l) in
    let left = (facts_off n w v c got e acts (MessageFits given A S) old.messages).1 in
    let zero = every_zero messages_in (is_about d k) n (without n w v c got e acts) (omega (arith, flow_off n w v c got e acts (is_about d k), a.quiet)) in
    let apart = (facts_off n w v c got e acts (λ from to m. IsOtherIn ids m) a.elsewhere.messages).1 in
    let both = every_with messages_in (λ from to m. is_about d k from to m ≡ 0) (λ from to m. IsOtherIn ids m) (λ from to m. (is_about d k from to m ≡ 0) × IsOtherIn ids m) n (without n w v c got e acts) (λ from to m p q. (p, q)) zero apart in
    let rest = every_with messages_in (MessageFits given A S) (λ from to m. (is_about d k from to m ≡ 0) × IsOtherIn ids m) (MessageFits given B T) n (without n w v c got e acts)
    (fits_still given S T ids a.kept A B d k o a.change a.elsewhere.slots) left both in
    record {
      tasks = subst (λ (X : ℕ → Body). TasksStand given X T) (sym same) (tasks_kept given w c got e S T d k o ids a old.tasks);
      once = λ id. omega (arith, census_law given w v c got e acts (is_task id), a.once id, old.once id);
      messages = subst (λ (X : ℕ → Body). Everywhere messages_in (MessageFits given X T) n v) (sym same) (facts_on n w v c got e acts (MessageFits given B T) (fits_merge given B T) rest a.sends);
      asked = λ i l. subst (λ (X : ℕ → Body). in_flight (is_about i l) n v ≡ of_slot is_asking ((X i).tasks.slots l)) (sym same)
          (slot_at A B d k o a.change i l (λ z. in_flight (is_about i l) n v ≡ of_slot is_asking z)
          (λ q. subst (λ (i : ℕ). in_flight (is_about i l) n v ≡ of_slot is_asking o) (sym q.0) (subst (λ (l : ℕ). in_flight (is_about d l) n v ≡ of_slot is_asking o) (sym q.1) (omega (arith, mail d k, a.quiet, a.asked))))
          (λ q. omega (arith, mail i l, a.others i l q, old.asked i l)));
    }

-- ---- a Ship or a Take

pub calls_moved : (given : Given) (w v : World) (S : State) → Moves given.setup.cores w v → CallsStand given w S → CallsStand given v S
calls_moved given w v S m old =
    let n = given.setup.cores in
    let same : bodies v ≡ bodies w = moved_bodies n w v m in
    record {
      tasks = subst (λ (X : ℕ → Body). TasksStand given X S) (sym same) old.tasks;
      once = λ id. moved_census given w v m (is_task id) ∙ old.once id;
      messages = subst (λ (X : ℕ → Body). Everywhere messages_in (MessageFits given X S) n v) (sym same) (moved_facts n w v m (MessageFits given (bodies w) S) old.messages);
      asked = λ i l. moved_flow n w v m (is_about i l) ∙ subst (λ (X : ℕ → Body). in_flight (is_about i l) n w ≡ of_slot is_asking ((X i).tasks.slots l)) (sym same) (old.asked i l);
    }
