-- What the outcomes that change a slot, or a task of the plain state, have in common.
use Rattle.std.proofs.Common.{◌≡◌, ◌≢◌, ◌⊎◌, ℕ, zero, suc, ◌+◌, ◌<◌, ◌≤◌, ◌==◌, ◌&&◌, if◌then◌else◌, Bool, true, false, List, [], ◌∷◌, ◌++◌, inl, inr, sym, ◌∙◌, ap, subst, refl, arith, Option, Some, None}
use Rattle.std.specs.FinMap as fin
use Rattle.std.proofs.lemmas.Bool.Decides.{nat_tests}
use Rattle.gr_lang.specs.declared.action.TaskId.{TaskId}
use Rattle.gr_lang.specs.States.{Mode, Task, State, id_cmp, going, ended}
use Rattle.gr_view.specs.Places.{put}
use Rattle.gr_msg.specs.declared.message.Msg.{Msg}
use Rattle.gr_msg.specs.declared.message.Msg.TheVariants as msg
use Rattle.gr_msg.specs.declared.message.Unit.{Unit as WorkUnit}
use Rattle.gr_work.specs.Queues.{Queues}
use Rattle.gr_net.specs.Sums.{total, weigh, Each}
use Rattle.gr_net.proofs.Spreads.{put_at, put_each, put_field, total_put, Each-weaker}
use Rattle.gr_machine.specs.declared.waits.Waits.{Waits}
use Rattle.gr_machine.specs.declared.waits.Waits.TheVariants as wait
use Rattle.gr_machine.specs.States.{Suspended, Body}
use Rattle.gr_machine.specs.Slots.{same_id}
use Rattle.gr_stands.specs.Worlds.{Given, World, bodies}
use Rattle.gr_stands.specs.Censuses.{Weights, of_held, body_census, is_unended, going_on, is_task}
use Rattle.gr_stands.specs.Calls.{StandsAt, mode_of, is_told, is_going, is_asking, of_slot, times, is_about, SlotFits, UnitFits, CallsStand}
use Rattle.gr_stands.specs.CallActs.{Apart, SlotChange, IsOther, IsOtherUnit, AreElsewhere}
use Rattle.gr_stands.proofs.Places.{same_id_self, cases_id, not_same, get_same, get_other, one_elsewhere}
use Rattle.gr_stands.proofs.Calls.{slot_at, unit_still}

pub some_same : {X : Type 0} (a b : X) → Some a ≡ Some b → a ≡ b
some_same a b e = cc

pub none_some : {X : Type 0} (a : X) → None ≡ Some a → ⊥
none_some a e = cc

-- ---- what a task waits for

pub goes : (w : Waits) (n : ℕ) → suc n ≡ is_going w → w ≡ wait.Going
goes wait.Going n e = refl
goes _ n e = absurd (omega arith)

pub of_slot_is : (f : Waits → ℕ) (o : Option Suspended) (s : Suspended) (x : Waits) → o ≡ Some s → s.waits ≡ x → of_slot f o ≡ f x
of_slot_is f o s x e w = ap (of_slot f) e ∙ ap f w

-- ---- messages about slots

pub request_self : (c k to : ℕ) (id : TaskId) (operation x y z : ℕ) → is_about c k c to (msg.Request k id operation x y z) ≡ 1
request_self c k to id operation x y z = grind (arith, nat_tests)

pub request_other : (i l c k to : ℕ) (id : TaskId) (operation x y z : ℕ) → Apart c k i l → is_about i l c to (msg.Request k id operation x y z) ≡ 0
request_other i l c k to id operation x y z ne = grind (arith, nat_tests)

pub reply_self : (c k from : ℕ) (id : TaskId) (first second : ℕ) → is_about c k from c (msg.Reply k id first second) ≡ 1
reply_self c k from id first second = grind (arith, nat_tests)

pub reply_other : (i l c k from : ℕ) (id : TaskId) (first second : ℕ) → Apart c k i l → is_about i l from c (msg.Reply k id first second) ≡ 0
reply_other i l c k from id first second ne = grind (arith, nat_tests)

-- ---- sums at one core

-- One slot has another task, and the units stay.
pub slot_census : (h : Weights) (m : ℕ) (a b : Body) (k : ℕ) (o : Option Suspended) → k < m → b.tasks.slots ≡ put a.tasks.slots k o → b.work ≡ a.work
    → body_census h m b + of_held h.of_task (a.tasks.slots k) ≡ body_census h m a + of_held h.of_task o
unfolding body_census
slot_census h m a b k o l e w = omega (
  arith,
  total_put (λ (i : ℕ) (s : Option Suspended). of_held h.of_task s) a.tasks.slots k o m l,
  ap (λ (f : ℕ → Option Suspended). total m (λ i. of_held h.of_task (f i))) e,
  ap (λ (q : Queues). weigh h.of_unit q.private + weigh h.of_unit q.public) w,
)

-- ---- ready slots, and new names

pub ready_kept : (A : ℕ → Body) (c k : ℕ) (o : Option Suspended) (b : Body) → SlotChange A (put A c b) c k o → times k b.tasks.ready ≡ of_slot is_going o
    → ((l : ℕ) → l ≢ k → times l b.tasks.ready ≡ times l (A c).tasks.ready)
    → ((i l : ℕ) → times l (A i).tasks.ready ≡ of_slot is_going ((A i).tasks.slots l))
    → (d l : ℕ) → times l (put A c b d).tasks.ready ≡ of_slot is_going ((put A c b d).tasks.slots l)
ready_kept A c k o b ch at apart old d l = slot_at A (put A c b) c k o ch d l (λ x. times l (put A c b d).tasks.ready ≡ of_slot is_going x)
    (λ q. ap (λ (x : Body). times l x.tasks.ready) (put_at A c b d q.0) ∙ ap (λ (j : ℕ). times j b.tasks.ready) q.1 ∙ at)
    (λ q. put_each (λ (i : ℕ) (x : Body). times l x.tasks.ready ≡ of_slot is_going ((A i).tasks.slots l)) A c b d
    (λ r. apart l (λ z. q (r, z)) ∙ old c l ∙ ap (λ (i : ℕ). of_slot is_going ((A i).tasks.slots l)) (sym r))
    (λ r. old d l))

pub fresh_kept : (A : ℕ → Body) (S T : State) (c : ℕ) (b : Body) → b.tasks.next ≡ (A c).tasks.next
    → ((id : TaskId) → fin.get S.tasks id ≡ None → fin.get T.tasks id ≡ None)
    → ((i number : ℕ) → (A i).tasks.next ≤ number → fin.get S.tasks (record { core = i; number = number }) ≡ None)
    → (i number : ℕ) → (put A c b i).tasks.next ≤ number → fin.get T.tasks (record { core = i; number = number }) ≡ None
fresh_kept A S T c b e f old i number le = f _ (old i number (subst (λ (m : ℕ). m ≤ number) (put_field (λ (x : Body). x.tasks.next) A c b e i) le))

-- ---- a task of the plain state becomes another

module _ (S T : State) (id : TaskId) (t u : Task) (there : fin.get S.tasks id ≡ Some t) (after : T.tasks ≡ fin.insert S.tasks id u) where
  pub put_there : fin.get T.tasks id ≡ Some u
  put_there = ap (λ (m : fin.FinMap id_cmp Task). fin.get m id) after ∙ get_same S.tasks id u

  pub put_apart : (q : TaskId) → same_id q id ≡ false → fin.get T.tasks q ≡ fin.get S.tasks q
  put_apart q e = ap (λ (m : fin.FinMap id_cmp Task). fin.get m q) after ∙ get_other S.tasks id q u e

  pub put_kept : (q : TaskId) (x : Task) → IsOther (id ∷ []) q → fin.get S.tasks q ≡ Some x → fin.get T.tasks q ≡ Some x
  put_kept q x other h = put_apart q other.0 ∙ h

  pub put_new : (q : TaskId) → fin.get S.tasks q ≡ None → fin.get T.tasks q ≡ None
  put_new q h = elim (cases_id q id) [
    | inl e ↦ absurd (none_some t (sym h ∙ ap (fin.get S.tasks) e ∙ there))
    | inr e ↦ put_apart q e ∙ h
  ]

  -- It ends where the other does.
  pub put_unended : going_on u.mode ≡ going_on t.mode → (q : TaskId) → is_unended (fin.get T.tasks q) ≡ is_unended (fin.get S.tasks q)
  put_unended m q = elim (cases_id q id) [
    | inl e ↦ ap (λ (x : TaskId). is_unended (fin.get T.tasks x)) e ∙ ap is_unended put_there ∙ m ∙ sym (ap (λ (x : TaskId). is_unended (fin.get S.tasks x)) e ∙ ap is_unended there)
    | inr e ↦ ap is_unended (put_apart q e)
  ]

-- ---- the task of a slot, with its places

pub slots_within : (given : Given) (w : World) (S : State) → CallsStand given w S
    → (c l : ℕ) (u : Suspended) → (bodies w c).tasks.slots l ≡ Some u → (c < given.setup.cores) × (l < given.slots)
slots_within given w S old c l u e = let f = old.tasks.slots c l u e in (f.here, f.low)

pub alone : (given : Given) (w : World) (S : State) (d k : ℕ) (s : Suspended) (t : Task) → CallsStand given w S → (bodies w d).tasks.slots k ≡ Some s
    → fin.get S.tasks s.id ≡ Some t → going_on t.mode ≡ 1 → AreElsewhere given w d k (s.id ∷ [])
alone given w S d k s t old there stands mode =
    let f = old.tasks.slots d k s there in
    one_elsewhere given w d k s f.here f.low there (slots_within given w S old) (old.once s.id ∙ ap is_unended stands ∙ mode)

pub units_kept : (given : Given) (S T : State) (ids : List TaskId) → ((id : TaskId) (x : Task) → IsOther ids id → fin.get S.tasks id ≡ Some x → fin.get T.tasks id ≡ Some x)
    → (us : List WorkUnit) → Each (UnitFits given S) us → Each (IsOtherUnit ids) us → Each (UnitFits given T) us
units_kept given S T ids kept us f o = Each-weaker (UnitFits given S) (IsOtherUnit ids) (UnitFits given T) (unit_still given S T ids kept) us f o

pub subst_slot : (given : Given) (T : State) (c k : ℕ) (s u : Suspended) → Some s ≡ Some u → SlotFits given T c k s → SlotFits given T c k u
subst_slot given T c k s u e f = subst (SlotFits given T c k) (some_same s u e) f
