-- What a Run does first, row by row.
use Rattle.std.proofs.Common.{◌≡◌, ◌<◌, ◌≤◌, ◌-◌, ◌+◌, ◌&&◌, ℕ, List, [], ◌∷◌, length, sym, ◌∙◌, ap, subst, refl, arith}
use Rattle.std.specs.Prelude.{Bool, true, false, nat_lt, if◌then◌else◌, Option, Some, None}
use Rattle.std.proofs.lemmas.Bool.{and_parts}
use Rattle.std.proofs.lemmas.Bool.Decides.{nat_tests}
use Rattle.gr_lang.specs.declared.action.TaskId.{TaskId}
use Rattle.gr_lang.specs.States.{State}
use Rattle.gr_msg.specs.declared.message.ScopeId.{ScopeId}
use Rattle.gr_msg.specs.declared.message.Unit.{Unit as WorkUnit}
use Rattle.gr_msg.specs.declared.message.Unit.TheVariants as unit
use Rattle.gr_work.specs.Queues.{is_empty, next_unit}
use Rattle.gr_machine.specs.Machines.{Machine, has_task}
use Rattle.gr_machine.specs.States.{Suspended, Body}
use Rattle.gr_machine.specs.Outcomes.{Outcome, quietly}
use Rattle.gr_machine.specs.Histories.{Sent}
use Rattle.gr_machine.specs.Runs.{acts, run_slot, run_unit, first_unit, without_unit, without_ready, is_sound, taken_up, splits, begins, slots_of, slots_for}
use Rattle.gr_machine.specs.Events.{slot_of, are_free}
use Rattle.gr_machine.specs.Enabled.{has_no_work}
use Rattle.gr_stands.specs.Worlds.{Given, machine_in, World, bodies}
use Rattle.gr_stands.specs.Actions.{ActionFits}
use Rattle.gr_stands.specs.Calls.{StandsAt, times, UnitFits}
use Rattle.gr_stands.specs.Stands.{Stands}
use Rattle.gr_stands_calls.specs.Acting.{IsFirst}
use Rattle.gr_stands_calls.proofs.Common.{first_stands}
use Rattle.gr_stands_calls.proofs.Queues.{taken_fit}
use Rattle.gr_stands_outcomes.specs.Inner.{outcome_of, run_outcome}
use Rattle.gr_stands_steps.proofs.Runs.{some_none, last_some, first_free, no_ready}
use Rattle.gr_stands_steps.proofs.Steps.{lower}
use Rattle.gr_stands_made.specs.Pieces.{RunStarts}
use Rattle.gr_stands_made.specs.Rows.{IsNext, IsFreeSlot, IsSoundChunk, RunRows}
use Rattle.gr_stands_made.specs.Laws as laws

-- ---- numbers and queues

raises : (a b : ℕ) → a < b → nat_lt a b ≡ true
raises a b l = grind (arith, nat_tests, l)

at_most : (a b : ℕ) → nat_lt a b ≡ false → b ≤ a
at_most a b e = grind (arith, nat_tests, e)

not_both : (b : Bool) → b ≡ true → b ≡ false → ⊥
not_both b p q = absurd (cc)

-- Where nothing is ready and no unit comes next, there is no work.
no_work : (private public : List WorkUnit) → next_unit private public ≡ None → (is_empty private && is_empty public) ≡ true
no_work [] [] e = refl
no_work [] (u ∷ us) e = absurd (last_some u us e)
no_work (u ∷ us) public e = absurd (some_none u e)

module _ (given : Given) (sent : Sent) (w : World) (S : State) (me : ℕ) (slots : List ℕ) (Fact : Outcome → Type 0)
    (st : Stands given w S) (start : RunStarts given sent w S me slots) (rows : RunRows given w S me slots Fact) where
  abbrev machine : Machine
  machine = machine_in given

  abbrev body : Body
  body = bodies w me

  abbrev left : Body
  left = without_unit body

  abbrev slot : ℕ
  slot = slot_of slots

  abbrev Next : WorkUnit → Type 0
  Next work = IsNext w me work

  free_slot : are_free body 1 slots ≡ true → IsFreeSlot given w me slot
  free_slot free = let f = first_free given body slots start.fit free in record { free = f.free; low = f.low }

  -- ---- a ready task

  task_fact : (number : ℕ) (more : List ℕ) → body.tasks.ready ≡ number ∷ more → (s : Suspended) → body.tasks.slots number ≡ Some s
      → Fact (outcome_of (without_ready body) (run_slot machine me (without_ready body) number (body.tasks.slots number)))
  task_fact number more ready s there =
      let first : IsFirst w me number more s = record { ready = ready; there = there } in
      let stands : StandsAt S s = first_stands given w S me number more s st first in
      subst (λ (o : Option Suspended). Fact (outcome_of (without_ready body) (run_slot machine me (without_ready body) number o))) (sym there)
      (rows.task number more s first stands (subst (ActionFits machine) stands.action (start.start.tells.actions s.id stands.plain stands.there)))

  -- ---- a unit

  abbrev Ran : WorkUnit → Type 0
  Ran work = Fact (outcome_of left (run_unit machine me left slot (Some work)))

  is_taken : (work : WorkUnit) → is_sound machine work ≡ true → Fact (taken_up machine me left slot work) → Ran work
  is_taken work good f = subst (λ (b : Bool). Fact (outcome_of left (if b then Some (taken_up machine me left slot work) else None))) (sym good) f

  chunk_fact : (target : ℕ) (args : List ℕ) (scope : ScopeId) (origin : ℕ) (owner : TaskId) (lo hi grain : ℕ) → Next (unit.Chunk target args scope origin owner lo hi grain)
      → (b : Bool) → (has_task machine target (length args + 1) && nat_lt lo hi && nat_lt 0 grain) ≡ b
      → are_free body (if b then slots_of (unit.Chunk target args scope origin owner lo hi grain) else 0) slots ≡ true → Ran (unit.Chunk target args scope origin owner lo hi grain)
  chunk_fact target args scope origin owner lo hi grain next true good free = by (nat_lt grain (hi - lo)) refl
    where
      work : WorkUnit
      work = unit.Chunk target args scope origin owner lo hi grain

      parts : ((has_task machine target (length args + 1) && nat_lt lo hi) ≡ true) × (nat_lt 0 grain ≡ true)
      parts = and_parts (has_task machine target (length args + 1) && nat_lt lo hi) (nat_lt 0 grain) good

      sound : IsSoundChunk given target args lo hi grain
      sound =
          let two = and_parts (has_task machine target (length args + 1)) (nat_lt lo hi) parts.0 in
          record { known = two.0; some = lower lo hi two.1; grained = lower 0 grain parts.1 }

      by : (b : Bool) → nat_lt grain (hi - lo) ≡ b → Ran work
      by true large = is_taken work good
          (subst (λ (b : Bool). Fact (if b then splits left work else begins machine me left slot target args scope origin owner lo hi grain)) (sym large)
          (rows.split target args scope origin owner lo hi grain next sound (lower grain (hi - lo) large)))
      by false small = is_taken work good
          (subst (λ (b : Bool). Fact (if b then splits left work else begins machine me left slot target args scope origin owner lo hi grain)) (sym small)
          (rows.begin target args scope origin owner lo hi grain next sound (at_most grain (hi - lo) small)
          (free_slot (sym (ap (λ (b : Bool). are_free body (if b then 0 else 1) slots) small) ∙ free))))
  chunk_fact target args scope origin owner lo hi grain next false bad free =
      subst (λ (b : Bool). Fact (outcome_of left (if b then Some (taken_up machine me left slot (unit.Chunk target args scope origin owner lo hi grain)) else None))) (sym bad)
      (rows.dropped target args scope origin owner lo hi grain next (λ good. not_both _ (is_good good) bad))
    where
      is_good : IsSoundChunk given target args lo hi grain → (has_task machine target (length args + 1) && nat_lt lo hi && nat_lt 0 grain) ≡ true
      is_good good =
          ap (λ (b : Bool). b && nat_lt lo hi && nat_lt 0 grain) good.known
          ∙ ap (λ (b : Bool). b && nat_lt 0 grain) (raises lo hi good.some)
          ∙ raises 0 grain good.grained

  unit_fact : (work : WorkUnit) → Next work → are_free body (if is_sound machine work then slots_of work else 0) slots ≡ true → Ran work
  unit_fact (unit.Single target args scope origin id) next free =
      let known : has_task machine target (length args) ≡ true =
      (taken_fit (UnitFits given S) body.work.private body.work.public (unit.Single target args scope origin id) next.next (st.calls.tasks.private me start.start.here) (st.calls.tasks.public me start.start.here)).first.known in
      is_taken (unit.Single target args scope origin id) known
      (rows.single target args scope origin id next (free_slot (sym (ap (λ (b : Bool). are_free body (if b then 1 else 0) slots) known) ∙ free)))
  unit_fact (unit.Chunk target args scope origin owner lo hi grain) next free = chunk_fact target args scope origin owner lo hi grain next _ refl free

  any_unit : (o : Option WorkUnit) → body.tasks.ready ≡ [] → first_unit body ≡ o → are_free body (slots_for machine o) slots ≡ true → Fact (outcome_of left (run_unit machine me left slot o))
  any_unit None ready is free = absurd (not_both (has_no_work body)
      (ap (λ (xs : List ℕ). is_empty xs && is_empty body.work.private && is_empty body.work.public) ready ∙ no_work body.work.private body.work.public is) start.work)
  any_unit (Some work) ready is free = unit_fact work (record { ready = ready; next = is }) free

  by_ready : (ready : List ℕ) → body.tasks.ready ≡ ready → are_free body (if is_empty ready then slots_for machine (first_unit body) else 0) slots ≡ true → Fact (run_outcome machine me body slot ready)
  by_ready [] e free = any_unit (first_unit body) e refl free
  by_ready (number ∷ more) e free =
      let t = no_ready number more (body.tasks.slots number) (ap (times number) (sym e) ∙ st.calls.tasks.ready me number) in
      task_fact number more e t.0 t.1

pub rows_are_found : laws.RowsAreFound
rows_are_found given sent w S me slots Fact st start rows = by_ready given sent w S me slots Fact st start rows (bodies w me).tasks.ready refl start.free
