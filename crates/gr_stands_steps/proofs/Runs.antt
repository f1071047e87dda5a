-- What a Run does.
use Rattle.std.proofs.Common.{◌≡◌, ◌<◌, ◌-◌, ℕ, suc, List, [], ◌∷◌, length, sym, ◌∙◌, ap, subst, refl, arith}
use Rattle.std.specs.Prelude.{Bool, true, false, nat_lt, if◌then◌else◌, Option, Some, None, is_none}
use Rattle.std.specs.List.{last_or}
use Rattle.std.proofs.lemmas.Bool.{and_parts}
use Rattle.gr_lang.specs.declared.action.TaskId.{TaskId}
use Rattle.gr_lang.specs.States.{State}
use Rattle.gr_msg.specs.declared.message.ScopeId.{ScopeId}
use Rattle.gr_msg.specs.declared.message.Unit.{Unit as WorkUnit}
use Rattle.gr_msg.specs.declared.message.Unit.TheVariants as unit
use Rattle.gr_work.specs.Queues.{is_empty, next_unit, after_next}
use Rattle.gr_machine.specs.Machines.{Machine, has_task}
use Rattle.gr_machine.specs.States.{Suspended, Body}
use Rattle.gr_machine.specs.Outcomes.{Outcome, quietly}
use Rattle.gr_machine.specs.Histories.{Sent}
use Rattle.gr_machine.specs.Runs.{acts, run_slot, run_unit, first_unit, without_unit, without_ready, is_sound, taken_up, splits, begins, slots_of, slots_for}
use Rattle.gr_machine.specs.Events.{slot_of, are_free}
use Rattle.gr_stands.specs.Worlds.{Given, machine_in, World, bodies}
use Rattle.gr_stands.specs.Actions.{ActionFits}
use Rattle.gr_stands.specs.Censuses.{is_single}
use Rattle.gr_stands.specs.Calls.{StandsAt, is_going, of_slot, times, UnitFits}
use Rattle.gr_stands.specs.Stands.{IsSound, Stands}
use Rattle.gr_stands.proofs.Places.{times_self}
use Rattle.gr_stands_calls.specs.Acting.{IsFirst}
use Rattle.gr_stands_calls.proofs.Common.{first_stands}
use Rattle.gr_stands_calls.proofs.Stays.{tasks_stay}
use Rattle.gr_stands_calls.proofs.Queues.{TakenFit, taken_weigh, taken_fit}
use Rattle.gr_stands_changes.proofs.Leaves.{leaves_kept}
use Rattle.gr_stands_changes.proofs.Units.{chunks_are_split}
use Rattle.gr_stands_units.proofs.Units.{units_are_taken_up}
use Rattle.gr_stands_runs.proofs.Tasks.{tasks_run}
use Rattle.gr_stands_outcomes.specs.Inner.{outcome_of, run_outcome}
use Rattle.gr_stands_steps.specs.Entries.{ActsWithMarks}
use Rattle.gr_stands_steps.specs.Telling.{PartsTell, SlotsFit}
use Rattle.gr_stands_steps.specs.Laws as laws
use Rattle.gr_stands_steps.specs.Laws.{AreFreeToRun}
use Rattle.gr_stands_steps.proofs.Marks.{of_entries, of_quiet}

-- ---- lists

pub some_none : {X : Type 0} (x : X) → Some x ≡ None → ⊥
some_none x e = cc

pub last_some : {X : Type 0} (x : X) (xs : List X) → last_or (Some x) xs ≡ None → ⊥
last_some x [] e = cc
last_some x (y ∷ ys) e = last_some y ys e

-- Where no unit comes next, there is none.
none_left : (private public : List WorkUnit) → next_unit private public ≡ None → after_next private public ≡ record { private = private; public = public }
none_left [] [] e = refl
none_left [] (u ∷ us) e = absurd (last_some u us e)
none_left (u ∷ us) public e = absurd (some_none u e)

none_is : {X : Type 0} (o : Option X) → is_none o ≡ true → o ≡ None
none_is None e = refl
none_is (Some x) e = absurd (cc)

-- The first of some slots, where one is free.
pub record IsFree (given : Given) (body : Body) (slots : List ℕ) : Type 0 where
  pub free : body.tasks.slots (slot_of slots) ≡ None
  pub low : slot_of slots < given.slots

pub first_free : (given : Given) (body : Body) (slots : List ℕ) → SlotsFit given slots → are_free body 1 slots ≡ true → IsFree given body slots
first_free given body [] f e = absurd (cc)
first_free given body (slot ∷ slots) f e = record { free = none_is (body.tasks.slots slot) (and_parts (is_none (body.tasks.slots slot)) (are_free body 0 slots) e).0; low = f.0 }

pub no_ready : (l : ℕ) (more : List ℕ) (o : Option Suspended) → times l (l ∷ more) ≡ of_slot is_going o → (s : Suspended) × (o ≡ Some s)
no_ready l more None e = absurd (one (times l more) (times_self l more) e)
  where
    one : (n : ℕ) → times l (l ∷ more) ≡ suc n → times l (l ∷ more) ≡ 0 → ⊥
    one n a b = omega (arith, a, b)
no_ready l more (Some s) e = (s, refl)

module _ (given : Given) (sent : Sent) (w : World) (S : State) (me : ℕ) (slots : List ℕ) (sound : IsSound given) (st : Stands given w S)
    (tells : PartsTell given sent w S me) (here : me < given.setup.cores) (fit : SlotsFit given slots) where
  abbrev machine : Machine
  machine = machine_in given

  abbrev body : Body
  body = bodies w me

  abbrev left : Body
  left = without_unit body

  abbrev Acts : Outcome → Type 0
  Acts e = ActsWithMarks given sent w S me [] e

  -- ---- a ready task

  task_acts : (slot : ℕ) (more : List ℕ) → body.tasks.ready ≡ slot ∷ more → (s : Suspended) → body.tasks.slots slot ≡ Some s
      → Acts (outcome_of (without_ready body) (run_slot machine me (without_ready body) slot (body.tasks.slots slot)))
  task_acts slot more ready s there =
      let first : IsFirst w me slot more s = record { ready = ready; there = there } in
      let stands : StandsAt S s = first_stands given w S me slot more s st first in
      let fits : ActionFits machine s.action = subst (ActionFits machine) stands.action (tells.actions s.id stands.plain stands.there) in
      subst (λ (o : Option Suspended). Acts (outcome_of (without_ready body) (run_slot machine me (without_ready body) slot o))) (sym there)
      (of_entries given sent w S me [] (without_ready body) (Some (acts machine me (without_ready body) slot s s.action))
      (tasks_run given w S me slot more s sound st here first tells.vectors (tells.scopes slot more s first) fits))

  -- ---- a unit

  none_acts : first_unit body ≡ None → Acts (quietly left)
  none_acts none = of_quiet given sent w S me [] left (Some (quietly left)) (record {
    outcome = quietly left;
    acts = refl;
    sends = tt;
    marks = refl;
    keeps = leaves_kept given w S me [] (quietly left) st here (record { tasks = refl; work = none_left body.work.private body.work.public none; words = refl; letters = tt; sends = tt });
  })

  -- A chunk that can't be taken up is dropped. That never happens, but here it needn't be known.
  chunk_dropped : (target : ℕ) (args : List ℕ) (scope : ScopeId) (origin : ℕ) (owner : TaskId) (lo hi grain : ℕ) → first_unit body ≡ Some (unit.Chunk target args scope origin owner lo hi grain) → Acts (quietly left)
  chunk_dropped target args scope origin owner lo hi grain is =
      let work : WorkUnit = unit.Chunk target args scope origin owner lo hi grain in
      let t : TakenFit (UnitFits given S) body.work.private body.work.public work = taken_fit (UnitFits given S) body.work.private body.work.public work is (st.calls.tasks.private me here) (st.calls.tasks.public me here) in
      of_quiet given sent w S me [] left (Some (quietly left)) (record {
        outcome = quietly left;
        acts = refl;
        sends = tt;
        marks = refl;
        keeps = tasks_stay given w S me [] (quietly left) st here (record {
          tasks = refl;
          words = refl;
          letters = tt;
          sends = tt;
          private = t.private_left;
          public = t.public_left;
          singles = λ id. omega (arith, taken_weigh (is_single id) body.work.private body.work.public work is);
        });
      })

  abbrev Ran : WorkUnit → Type 0
  Ran work = Acts (outcome_of left (run_unit machine me left (slot_of slots) (Some work)))

  -- Where the unit takes a slot.
  in_slot : (work : WorkUnit) → body.tasks.ready ≡ [] → first_unit body ≡ Some work → is_sound machine work ≡ true → are_free body 1 slots ≡ true → Ran work
  in_slot work ready is good free =
      let f = first_free given body slots fit free in
      let made : run_unit machine me left (slot_of slots) (Some work) ≡ Some (taken_up machine me left (slot_of slots) work) =
      ap (λ (b : Bool). if b then Some (taken_up machine me left (slot_of slots) work) else None) good in
      subst (λ (o : Option Outcome). Acts (outcome_of left o)) (sym made)
      (of_entries given sent w S me [] left (Some (taken_up machine me left (slot_of slots) work))
      (units_are_taken_up given w S me (slot_of slots) work (taken_up machine me left (slot_of slots) work) st here ready is f.free f.low (tells.units work is)
      (ap (run_unit machine me left (slot_of slots)) is ∙ made)))

  unit_acts : (work : WorkUnit) → body.tasks.ready ≡ [] → first_unit body ≡ Some work → (b : Bool) → is_sound machine work ≡ b
      → are_free body (if b then slots_of work else 0) slots ≡ true → Ran work
  unit_acts (unit.Single target args scope origin id) ready is true good free = in_slot (unit.Single target args scope origin id) ready is good free
  unit_acts (unit.Single target args scope origin id) ready is false bad free =
      absurd (two ((taken_fit (UnitFits given S) body.work.private body.work.public (unit.Single target args scope origin id) is (st.calls.tasks.private me here) (st.calls.tasks.public me here)).first.known) bad)
    where
      two : has_task machine target (length args) ≡ true → has_task machine target (length args) ≡ false → ⊥
      two a b = cc
  unit_acts (unit.Chunk target args scope origin owner lo hi grain) ready is true good free = by (nat_lt grain (hi - lo)) refl
    where
      work : WorkUnit
      work = unit.Chunk target args scope origin owner lo hi grain

      by : (b : Bool) → nat_lt grain (hi - lo) ≡ b → Ran work
      by true large =
          let made : run_unit machine me left (slot_of slots) (Some work) ≡ Some (splits left work) =
          ap (λ (b : Bool). if b then Some (taken_up machine me left (slot_of slots) work) else None) good
          ∙ ap (λ (b : Bool). Some (if b then splits left work else begins machine me left (slot_of slots) target args scope origin owner lo hi grain)) large in
          subst (λ (o : Option Outcome). Acts (outcome_of left o)) (sym made)
          (of_quiet given sent w S me [] left (Some (splits left work)) (chunks_are_split given w S me target args scope origin owner lo hi grain st here is))
      by false small = in_slot work ready is good (sym (ap (λ (b : Bool). are_free body (if b then 0 else 1) slots) small) ∙ free)
  unit_acts (unit.Chunk target args scope origin owner lo hi grain) ready is false bad free =
      subst (λ (o : Option Outcome). Acts (outcome_of left o))
      (sym (ap (λ (b : Bool). if b then Some (taken_up machine me left (slot_of slots) (unit.Chunk target args scope origin owner lo hi grain)) else None) bad))
      (chunk_dropped target args scope origin owner lo hi grain is)

  any_unit : (o : Option WorkUnit) → body.tasks.ready ≡ [] → first_unit body ≡ o → are_free body (slots_for machine o) slots ≡ true → Acts (outcome_of left (run_unit machine me left (slot_of slots) o))
  any_unit None ready is free = none_acts is
  any_unit (Some work) ready is free = unit_acts work ready is (is_sound machine work) refl free

  by_ready : (ready : List ℕ) → body.tasks.ready ≡ ready → are_free body (if is_empty ready then slots_for machine (first_unit body) else 0) slots ≡ true → Acts (run_outcome machine me body (slot_of slots) ready)
  by_ready [] e free = any_unit (first_unit body) e refl free
  by_ready (slot ∷ more) e free =
      let t = no_ready slot more (body.tasks.slots slot) (ap (times slot) (sym e) ∙ st.calls.tasks.ready me slot) in
      task_acts slot more e t.0 t.1

pub runs_act : laws.RunsAct
runs_act given sent w S me slots sound st tells here fit free = by_ready given sent w S me slots sound st tells here fit (bodies w me).tasks.ready refl free
