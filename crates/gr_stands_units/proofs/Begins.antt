-- The first index of a chunk begins.
use Rattle.std.proofs.Common.{◌≡◌, ◌≢◌, ◌⊎◌, ℕ, zero, suc, ◌+◌, ◌<◌, ◌≤◌, ◌==◌, ◌&&◌, Bool, true, false, not, nat_lt, nat_le, is_none, if◌then◌else◌, List, [], ◌∷◌, ◌++◌, slice_get, slice_set, inl, inr, sym, ◌∙◌, ap, subst, refl, arith, Option, Some, None}
use Rattle.std.specs.Option.{option_and_then}
use Rattle.std.specs.FinMap as fin
use Rattle.std.specs.FinSet as set
use Rattle.std.proofs.lemmas.Bool.Decides.{nat_tests}
use Rattle.gr_syntax.specs.declared.syntax.Program.{Program}
use Rattle.gr_lang.specs.declared.action.Entry.TheVariants as entry
use Rattle.gr_lang.specs.declared.action.TaskId.{TaskId}
use Rattle.gr_lang.specs.States.{Mode, at_loop, Task, Range, Scope, State, child, is_at_loop}
use Rattle.gr_lang.specs.Steps.{step, when, set_task, begin_in, begin_at, begin_step}
use Rattle.gr_view.specs.Places.{put}
use Rattle.gr_msg.specs.declared.message.ScopeId.{ScopeId}
use Rattle.gr_msg.specs.declared.message.Unit.{Unit as WorkUnit}
use Rattle.gr_msg.specs.declared.message.Unit.TheVariants as unit
use Rattle.gr_work.specs.Queues.{Queues, after_next}
use Rattle.gr_net.specs.Sums.{total, weigh, Each}
use Rattle.gr_net.proofs.Spreads.{total_put, put_each}
use Rattle.gr_machine.specs.States.{Suspended, Tasks, Words, Body}
use Rattle.gr_machine.specs.Outcomes.{Outcome}
use Rattle.gr_machine.specs.Openings.{new_task}
use Rattle.gr_machine.specs.Slots.{same_id, own_id, readied, numbered}
use Rattle.gr_machine.specs.Spawns.{private_first}
use Rattle.gr_machine.specs.Runs.{without_unit, with_rest, begins}
use Rattle.gr_stands.specs.Worlds.{Given, machine_in, World, bodies}
use Rattle.gr_stands.specs.Censuses.{of_held, is_task, is_named, is_single, is_unended, body_census}
use Rattle.gr_stands.specs.Calls.{is_going, is_asking, of_slot, times, SlotFits, UnitFits, MessageFits}
use Rattle.gr_stands.specs.CallActs.{IsOther, IsOtherUnit, AreElsewhere, CallsAct}
use Rattle.gr_stands.specs.Stands.{Stands}
use Rattle.gr_stands.proofs.Memories.{words_stay}
use Rattle.gr_stands.proofs.Calls.{slot_change}
use Rattle.gr_stands.proofs.Places.{none_elsewhere, times_last, times_before, cases_id, named_itself, get_same, get_other}
use Rattle.gr_stands_calls.specs.Stays.{singles_in}
use Rattle.gr_stands_calls.proofs.Slots.{none_some, ready_kept, subst_slot, units_kept}
use Rattle.gr_stands_calls.proofs.Common.{same_memory, kept_by}
use Rattle.gr_stands_calls.proofs.Queues.{TakenFit, taken_weigh, taken_fit}
use Rattle.gr_stands_units.specs.Indices.{IsIndex}
use Rattle.gr_stands_units.specs.Laws as laws

-- ---- the entry

module _ (program : Program) (cores limit : ℕ) (S : State) (owner : TaskId) (target : ℕ) (args : List ℕ) (index : ℕ) (kid : TaskId) (i : IsIndex S owner target args index)
    (new : fin.get S.tasks kid ≡ None) where
  abbrev pub born : Task
  born = child program limit i.number i.range.target (index ∷ i.range.args)

  abbrev pub begun : State
  begun = record (set_task S kid born) {
    scopes = slice_set S.scopes i.number (record i.scope { range = Some (record i.range { begun = set.insert i.range.begun index }) });
  }

  all : (nat_le i.range.lo index && nat_lt index i.range.hi && not (set.contains i.range.begun index) && is_none (fin.get S.tasks kid)) ≡ true
  all = rw (i.low, i.high, i.new, new) refl

  pub begin_leads : step program cores limit S (entry.Begin owner index kid) ≡ Some begun
  begin_leads =
      ap (option_and_then (λ (x : Task). begin_step program limit S owner x index kid)) i.there
      ∙ ap (λ (m : Mode). if is_at_loop m then begin_at program limit S owner index kid i.task.opened else None) i.waits
      ∙ ap (begin_at program limit S owner index kid) i.opened
      ∙ ap (option_and_then (λ (x : Scope). begin_in program limit S owner i.number index kid x x.range)) i.placed
      ∙ ap (begin_in program limit S owner i.number index kid i.scope) i.ranged
      ∙ ap (λ (b : Bool). when b begun) all

-- ---- a new task in the plain state

module _ (S T : State) (kid : TaskId) (x : Task) (new : fin.get S.tasks kid ≡ None) (after : T.tasks ≡ fin.insert S.tasks kid x) where
  other_so : (q : TaskId) → same_id q kid ≡ false → fin.get T.tasks q ≡ fin.get S.tasks q
  other_so q e = ap (λ m. fin.get m q) after ∙ get_other S.tasks kid q x e

  pub born_there : fin.get T.tasks kid ≡ Some x
  born_there = ap (λ m. fin.get m kid) after ∙ get_same S.tasks kid x

  pub born_kept : (q : TaskId) (y : Task) → fin.get S.tasks q ≡ Some y → fin.get T.tasks q ≡ Some y
  born_kept q y h = elim (cases_id q kid) [
    | inl e ↦ absurd (none_some y (sym new ∙ ap (fin.get S.tasks) (sym e) ∙ h))
    | inr e ↦ other_so q e ∙ h
  ]

  pub born_new : (q : TaskId) → same_id q kid ≡ false → fin.get S.tasks q ≡ None → fin.get T.tasks q ≡ None
  born_new q e h = other_so q e ∙ h

  pub born_unended : is_unended (Some x) ≡ 1 → (q : TaskId) → is_unended (fin.get T.tasks q) ≡ is_unended (fin.get S.tasks q) + is_named q kid
  born_unended one q = elim (cases_id q kid) [
    | inl e ↦ omega (
      arith,
      ap (λ (i : TaskId). is_unended (fin.get T.tasks i)) e,
      ap is_unended born_there,
      one,
      ap (λ (i : TaskId). is_unended (fin.get S.tasks i)) e,
      ap is_unended new,
      ap (λ (i : TaskId). is_named i kid) e,
      named_itself kid,
    )
    | inr e ↦ omega (arith, ap is_unended (other_so q e), not_named q kid e)
  ]
    where
      not_named : (a b : TaskId) → same_id a b ≡ false → is_named a b ≡ 0
      not_named a b e = grind (arith, nat_tests, e)

-- ---- the rest of the chunk

record Rest (given : Given) (T : State) (a b : Body) : Type 0 where
  tasks : b.tasks ≡ a.tasks
  words : b.words ≡ a.words
  private : Each (UnitFits given T) a.work.private → Each (UnitFits given T) b.work.private
  public : b.work.public ≡ a.work.public
  weighs : (id : TaskId) → singles_in id b ≡ singles_in id a

rest_is : (given : Given) (T : State) (a : Body) (target : ℕ) (args : List ℕ) (scope : ScopeId) (origin : ℕ) (owner : TaskId) (lo hi grain : ℕ)
    → Rest given T a (with_rest a target args scope origin owner lo hi grain)
rest_is given T a target args scope origin owner lo hi grain = by (nat_lt lo hi)
  where
    by : (b : Bool) → Rest given T a (if b then private_first a (unit.Chunk target args scope origin owner lo hi grain) else a)
    by true = record { tasks = refl; words = refl; private = λ f. (tt, f); public = refl; weighs = λ id. omega arith }
    by false = record { tasks = refl; words = refl; private = λ f. f; public = refl; weighs = λ id. refl }

-- ---- the outcome

begun_census : (id : TaskId) (m : ℕ) (a b : Body) (k : ℕ) (u : Suspended) → k < m → b.tasks.slots ≡ put a.tasks.slots k (Some u) → a.tasks.slots k ≡ None
    → body_census (is_task id) m b + singles_in id a ≡ body_census (is_task id) m a + (singles_in id b + is_named id u.id)
unfolding body_census
begun_census id m a b k u l e free = omega (
  arith,
  total_put (λ (i : ℕ) (o : Option Suspended). of_held (is_task id).of_task o) a.tasks.slots k (Some u) m l,
  ap (λ (f : ℕ → Option Suspended). total m (λ i. of_held (is_task id).of_task (f i))) e,
  ap (of_held (is_task id).of_task) free,
)

pub indices_begin : laws.IndicesBegin
indices_begin given w S me slot target args scope origin owner lo hi grain st here is free low i counted =
    let machine = machine_in given in
    let body = bodies w me in
    let kid : TaskId = own_id me (without_unit body) in
    let chunk : WorkUnit = unit.Chunk target args scope origin owner lo hi grain in
    let old = st.calls in
    let new : fin.get S.tasks kid ≡ None = old.tasks.fresh me body.tasks.next (omega arith) in
    let x : Task = born given.program given.setup.cores given.setup.steps S owner target args lo kid i new in
    let T : State = begun given.program given.setup.cores given.setup.steps S owner target args lo kid i new in
    let u : Suspended = new_task kid scope origin (machine.code.start target (lo ∷ args)) in
    let o : Option Suspended = Some u in
    let b1 : Body = numbered (readied (without_unit body) slot u) in
    let e : Outcome = begins machine me (without_unit body) slot target args scope origin owner lo hi grain in
    let r : Rest given T b1 e.body = rest_is given T b1 target args scope origin owner (lo + 1) hi grain in
    let kept = born_kept S T kid x new refl in
    let apart : AreElsewhere given w me slot [] = none_elsewhere given w (MessageFits given (bodies w) S) me slot old.messages in
    let still : (us : List WorkUnit) → Each (UnitFits given S) us → Each (IsOtherUnit []) us → Each (UnitFits given T) us = units_kept given S T [] (λ q y other h. kept q y h) in
    let private_then = still body.work.private (old.tasks.private me here) (apart.private me here) in
    let public_then = still body.work.public (old.tasks.public me here) (apart.public me here) in
    let t : TakenFit (UnitFits given T) body.work.private body.work.public chunk = taken_fit (UnitFits given T) body.work.private body.work.public chunk is private_then public_then in
    let slots : e.body.tasks.slots ≡ put body.tasks.slots slot o = ap (λ (t : Tasks). t.slots) r.tasks in
    let change = slot_change (bodies w) me slot o e.body slots in
    let counted_on : (number : ℕ) → e.body.tasks.next ≤ number → body.tasks.next + 1 ≤ number = λ number l. subst (λ (n : ℕ). n ≤ number) (ap (λ (t : Tasks). t.next) r.tasks) l in
    let act : CallsAct given w me [] e S T me slot o [] = record {
      change = change;
      kept = λ q y other h. kept q y h;
      elsewhere = apart;
      new = λ y h. subst_slot given T me slot u y h (record {
        here = here;
        low = low;
        counted = counted;
        stands = λ z. record {
          plain = x;
          there = born_there S T kid x new refl;
          action = ap (λ (n : ℕ). (machine.code.start n (lo ∷ i.range.args)).0) i.targets ∙ ap (λ (ws : List ℕ). (machine.code.start target (lo ∷ ws)).0) i.words;
          running = ap (λ (n : ℕ). (machine.code.start n (lo ∷ i.range.args)).1) i.targets ∙ ap (λ (ws : List ℕ). (machine.code.start target (lo ∷ ws)).1) i.words;
          mode = refl;
        };
      });
      private = r.private t.private_left;
      public = subst (Each (UnitFits given T)) (sym r.public) t.public_left;
      sends = tt;
      ready = ready_kept (bodies w) me slot o e.body change
          (ap (λ (t : Tasks). times slot t.ready) r.tasks ∙ omega (arith, times_last slot body.tasks.ready, old.tasks.ready me slot, ap (of_slot is_going) free))
          (λ l ne. ap (λ (t : Tasks). times l t.ready) r.tasks ∙ times_before l slot body.tasks.ready ne) old.tasks.ready;
      fresh = λ j number. put_each (λ (j : ℕ) (q : Body). q.tasks.next ≤ number → fin.get T.tasks (record { core = j; number = number }) ≡ None) (bodies w) me e.body j
          (λ q l. born_new S T kid x new refl (record { core = j; number = number }) (later j number me body.tasks.next (counted_on number l))
          (old.tasks.fresh j number (subst (λ (n : ℕ). (bodies w n).tasks.next ≤ number) (sym q) (omega (arith, counted_on number l)))))
          (λ q l. born_new S T kid x new refl (record { core = j; number = number }) (elsewhere j number me body.tasks.next q) (old.tasks.fresh j number l));
      once = λ q. omega (
        arith,
        begun_census q given.slots body e.body slot u low slots free,
        r.weighs q,
        taken_weigh (is_single q) body.work.private body.work.public chunk is,
        born_unended S T kid x new refl refl q,
      );
      quiet = old.asked me slot ∙ ap (of_slot is_asking) free;
      asked = refl;
      others = λ j l ne. refl;
    } in
    record {
      outcome = e;
      acts = refl;
      sends = tt;
      entry = entry.Begin owner lo kid;
      marks = refl;
      after = T;
      leads = begin_leads given.program given.setup.cores given.setup.steps S owner target args lo kid i new;
      keeps = kept_by given w S T me [] e me slot o [] st act
          (words_stay machine (bodies w) me S.objects st.words e.body.words T.objects r.words (same_memory S.objects));
    }
  where
    later : (i n me m : ℕ) → m + 1 ≤ n → (i == me && n == m) ≡ false
    later i n me m l = grind (arith, nat_tests, l)

    elsewhere : (i n me m : ℕ) → i ≢ me → (i == me && n == m) ≡ false
    elsewhere i n me m ne = grind (arith, nat_tests)
