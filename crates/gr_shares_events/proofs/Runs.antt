-- A Run keeps the part of work: a ready task acts, or a unit is taken up.
use Rattle.std.proofs.Common.{◌≡◌, ℕ, ◌-◌, ◌<◌, Bool, true, false, nat_lt, if◌then◌else◌, List, [], ◌∷◌, map, length, sym, ◌∙◌, ap, subst, refl, ltb-true, Option, Some, None}
use Rattle.std.specs.List.{last_or}
use Rattle.gr_lang.specs.declared.action.Action.{Action}
use Rattle.gr_lang.specs.declared.action.Action.TheVariants as action
use Rattle.gr_lang.specs.declared.action.Entry.{Entry}
use Rattle.gr_lang.specs.declared.action.Entry.TheVariants as entry
use Rattle.gr_lang.specs.States.{State}
use Rattle.gr_lang.specs.Steps.{step}
use Rattle.gr_lang.specs.Histories.{after}
use Rattle.gr_valid.specs.Valid.{IsValid}
use Rattle.gr_msg.specs.declared.message.ScopeId.{ScopeId}
use Rattle.gr_msg.specs.declared.message.Unit.{Unit as WorkUnit}
use Rattle.gr_msg.specs.declared.message.Unit.TheVariants as unit
use Rattle.gr_work.specs.Queues.{next_unit, after_next}
use Rattle.gr_net.proofs.Spreads.{put_same}
use Rattle.gr_machine.specs.States.{Suspended, Body}
use Rattle.gr_machine.specs.Outcomes.{Outcome, quietly}
use Rattle.gr_machine.specs.Histories.{Sent}
use Rattle.gr_machine.specs.declared.waits.Waits.TheVariants as wait
use Rattle.gr_machine.specs.Slots.{own_id, dropped}
use Rattle.gr_machine.specs.ScopeRuns.{own_scope, is_new_scope, loops_in, loops_over, loops_over_nothing}
use Rattle.gr_machine.specs.Runs.{acts, run_slot, without_ready, run_unit, first_unit, without_unit, taken_up, starts, splits, begins}
use Rattle.gr_stands.specs.Worlds.{Given, machine_in, World, bodies}
use Rattle.gr_stands.specs.Actions.{ActionFits, ActionsFit}
use Rattle.gr_stands.specs.Calls.{StandsAt}
use Rattle.gr_stands.specs.Stands.{Stands}
use Rattle.gr_stands.proofs.Worlds.{acted_bodies}
use Rattle.gr_stands_calls.proofs.Common.{first_stands}
use Rattle.gr_stands_outcomes.specs.Inner.{outcome_of, run_outcome}
use Rattle.gr_scopes.specs.Trees.{Names}
use Rattle.gr_shares.specs.Loops.{loops_of}
use Rattle.gr_shares_loops.specs.Changes.{ScopesAreThere, new_loop}
use Rattle.gr_shares_loops.proofs.Tasks.{none_some, found}
use Rattle.gr_shares_loops.proofs.Changed.{loops_are_opened, loops_are_waited_at}
use Rattle.gr_shares_units.specs.Leaving.{chunks_in}
use Rattle.gr_shares_units.proofs.Ranges.{at_it}
use Rattle.gr_shares_units.proofs.Stay.{shares_stay, singles_share}
use Rattle.gr_shares_units.proofs.Chunks.{splits_share, indices_share}
use Rattle.gr_shares_units.proofs.Opened.{loops_share}
use Rattle.gr_shares_rows.specs.Rows.{LeavesWork}
use Rattle.gr_shares_rows.proofs.Common.{nothing}
use Rattle.gr_shares_rows.proofs.Acts.{actions_leave_work, is_dropped}
use Rattle.gr_shares_rows.proofs.Entries.{left_same, empty_loops_leave_loops}
use Rattle.gr_shares_ranges.proofs.Ranges.{scopes_are_there}
use Rattle.gr_shares_tells.proofs.Units.{units_are_sound}
use Rattle.gr_shares_events.specs.Holding.{WorkHolds, NamesGoOn, Leads}
use Rattle.gr_shares_events.specs.Laws as laws
use Rattle.gr_shares_events.proofs.Common.{hold_named, holds_so, leaves_hold, quietly_holds}

-- ---- no unit is there

last_there : (first : WorkUnit) (us : List WorkUnit) → last_or (Some first) us ≡ None → ⊥
last_there first [] e = absurd (cc)
last_there first (next ∷ us) e = last_there next us e

record StayEmpty (private public : List WorkUnit) : Type 0 where
  private_same : chunks_in (after_next private public).private ≡ chunks_in private
  public_same : chunks_in (after_next private public).public ≡ chunks_in public

none_taken : (private public : List WorkUnit) → next_unit private public ≡ None → StayEmpty private public
none_taken [] [] e = record { private_same = refl; public_same = refl }
none_taken [] (first ∷ rest) e = absurd (last_there first rest e)
none_taken (first ∷ rest) public e = absurd (none_some first (sym e))

-- ---- one entry

one_step : (given : Given) (S T : State) (what : Entry) → after given.program given.setup.cores given.setup.steps S (what ∷ []) ≡ Some T → step given.program given.setup.cores given.setup.steps S what ≡ Some T
one_step given S T what e =
    let f = found (λ (X : State). after given.program given.setup.cores given.setup.steps X []) (step given.program given.setup.cores given.setup.steps S what) T e in
    f.there ∙ f.made

module _ (given : Given) (sent : Sent) (names more : Names) (w v : World) (S T : State) (me slot : ℕ) (stands : Stands given w S) (valid : IsValid given.program S)
    (n : NamesGoOn names more v T) (old : WorkHolds given names w S) where
  abbrev body : Body
  body = bodies w me

  abbrev Led : Outcome → Type 0
  Led e = Leads given sent w v S T me [] e

  abbrev Kept : Type 0
  Kept = WorkHolds given more v T

  -- ---- a unit is taken up

  takes_none : next_unit body.work.private body.work.public ≡ None → Led (quietly (without_unit body)) → Kept
  takes_none is led =
      let none = none_taken body.work.private body.work.public is in
      leaves_hold given sent names more w v S T me [] (quietly (without_unit body)) led n.named old valid
      (record { private = none.private_same; public = none.public_same; steals = refl; sends = tt; marks = tt }) tt

  takes : (u : WorkUnit) → first_unit body ≡ Some u → Led (taken_up (machine_in given) me (without_unit body) slot u) → Kept
  takes (unit.Single target args scope origin id) is led =
      let e = starts (machine_in given) (without_unit body) slot target args scope origin id in
      quietly_holds given sent names more w v S T me [] e led n.named old refl
      (shares_stay given names names (loops_of S) (loops_of S) w me [] e old.shares led.acts.here (singles_share given w me slot target args scope origin id is) (left_same names (loops_of S) old.shares.ranges))
  takes (unit.Chunk target args scope origin owner lo hi grain) is led = by (nat_lt grain (hi - lo)) led
    where
      first : Outcome
      first = splits (without_unit body) (unit.Chunk target args scope origin owner lo hi grain)

      second : Outcome
      second = begins (machine_in given) me (without_unit body) slot target args scope origin owner lo hi grain

      by : (b : Bool) → Led (if b then first else second) → Kept
      by true led = quietly_holds given sent names more w v S T me [] first led n.named old refl
          (splits_share given names (loops_of S) w me target args scope origin owner lo hi grain old.shares led.acts.here is)
      by false led = holds_so given sent names more w v S T me [] second led n.named old valid (hold_named given names more v (loops_of T) n.named
          (indices_share given names w S T me slot target args scope origin owner lo hi grain (own_id me (without_unit body)) old.shares led.acts.here is
          (one_step given S T (entry.Begin owner lo (own_id me (without_unit body))) led.leads) v led.acts))

  runs_unit : (o : Option WorkUnit) → first_unit body ≡ o → Led (outcome_of (without_unit body) (run_unit (machine_in given) me (without_unit body) slot (first_unit body))) → Kept
  runs_unit None is led = takes_none is (subst (λ (o : Option WorkUnit). Led (outcome_of (without_unit body) (run_unit (machine_in given) me (without_unit body) slot o))) is led)
  runs_unit (Some u) is led =
      let sound = units_are_sound given names w S me slot u stands old.shares led.acts.here is in
      takes u is (subst (λ (o : Option Outcome). Led (outcome_of (without_unit body) o)) sound.1 led)

  -- ---- a ready task acts

  module _ (ready : ℕ) (task : Suspended) (at : StandsAt S task) (fits : ActionFits (machine_in given) task.action) where
    abbrev left : Body
    left = without_ready body

    leaves : (e : Outcome) → LeavesWork body.work body.steals e → Led e → Kept
    leaves e l led = leaves_hold given sent names more w v S T me [] e led n.named old valid l tt

    module _ (lo hi grain target : ℕ) (args : List ℕ) (due : task.action ≡ action.Loop lo hi grain target args) where
      over_nothing : Led (loops_over_nothing (machine_in given) left ready task lo hi grain target args) → Kept
      over_nothing led =
          let e = loops_over_nothing (machine_in given) left ready task lo hi grain target args in
          holds_so given sent names more w v S T me [] e led n.named old valid (shares_stay given names more (loops_of S) (loops_of T) w me [] e old.shares led.acts.here
          (record { private = refl; public = refl; steals = refl; letters = tt; sends = tt })
          (empty_loops_leave_loops given names more S T task.id at.plain lo hi grain target args old.shares.ranges n.named (scopes_are_there given.program S valid) at.there (at.action ∙ due) led.leads) v led.acts)

      opens : lo < hi → (scope : ScopeId) → Led (loops_in me left ready task lo hi grain target args scope) → Kept
      opens l scope led = holds_so given sent names more w v S T me [] e led n.named old valid
          (loops_share given names more w S T me ready task left scope lo hi grain target args old.shares led.acts.here refl refl at due fits l there n.named new made v led.acts)
        where
          e : Outcome
          e = loops_in me left ready task lo hi grain target args scope

          there : ScopesAreThere S
          there = scopes_are_there given.program S valid

          made : step given.program given.setup.cores given.setup.steps S (entry.Loop task.id lo hi grain target args) ≡ Some T
          made = one_step given S T (entry.Loop task.id lo hi grain target args) led.leads

          head_same : (f : ℕ → Option ScopeId) (number : ℕ) (outer : List ℕ) (scopes : List ScopeId) → map f (number ∷ outer) ≡ map Some (scope ∷ scopes) → f number ≡ Some scope
          head_same f number outer scopes h = cc

          new : more (length S.scopes) ≡ Some scope
          new =
              let o = loops_are_opened given.program given.setup.cores given.setup.steps S T task.id at.plain lo hi grain target args at.there (at.action ∙ due) there made in
              let loop = new_loop S lo hi target args in
              let waits = loops_are_waited_at T task.id loop (at_it (loops_of S) (loops_of T) task.id (Some loop) o.loops task.id refl) in
              let held = ap (λ (B : ℕ → Body). (B me).tasks.slots ready) (acted_bodies given.setup.cores w v me [] e led.acts)
              ∙ ap (λ (b : Body). b.tasks.slots ready) (put_same (bodies w) me e.body) ∙ put_same left.tasks.slots ready (Some (opened_task scope)) in
              head_same more (length S.scopes) waits.outer task.opened (ap (map more) (sym waits.opened) ∙ n.opened me ready (opened_task scope) waits.task held waits.there)
            where
              opened_task : ScopeId → Suspended
              opened_task scope = record task { opened = scope ∷ task.opened; waits = wait.Scope scope }

      over : (b : Bool) → nat_lt lo hi ≡ b → Led (if b then loops_over me left ready task lo hi grain target args else loops_over_nothing (machine_in given) left ready task lo hi grain target args) → Kept
      over false less led = over_nothing led
      over true less led = by (is_new_scope left (own_scope me left)) led
        where
          by : (b : Bool) → Led (if b then loops_in me left ready task lo hi grain target args (own_scope me left) else dropped left ready) → Kept
          by true led = opens (ltb-true lo hi less) (own_scope me left) led
          by false led = leaves (dropped left ready) (is_dropped (machine_in given) me left ready task) led

    acts_so : (what : Action) → task.action ≡ what → Led (acts (machine_in given) me left ready task what) → Kept
    acts_so (action.Loop lo hi grain target args) due led = over lo hi grain target args due (nat_lt lo hi) refl led
    acts_so (action.Call call) due led = leaves _ (actions_leave_work (machine_in given) me left ready task (action.Call call) tt) led
    acts_so (action.Spawn way target args) due led = leaves _ (actions_leave_work (machine_in given) me left ready task (action.Spawn way target args) tt) led
    acts_so action.Finish due led = leaves _ (actions_leave_work (machine_in given) me left ready task action.Finish tt) led
    acts_so action.Arrive due led = leaves _ (actions_leave_work (machine_in given) me left ready task action.Arrive tt) led
    acts_so action.End due led = leaves _ (actions_leave_work (machine_in given) me left ready task action.End tt) led
    acts_so (action.Trap kind) due led = leaves _ (actions_leave_work (machine_in given) me left ready task (action.Trap kind) tt) led

  runs_slot : ActionsFit given S → (ready : ℕ) (more_ready : List ℕ) → body.tasks.ready ≡ ready ∷ more_ready → (o : Option Suspended) → body.tasks.slots ready ≡ o
      → Led (outcome_of (without_ready body) (run_slot (machine_in given) me (without_ready body) ready o)) → Kept
  runs_slot fit ready more_ready first None at led = leaves_hold given sent names more w v S T me [] (quietly (without_ready body)) led n.named old valid (nothing (without_ready body)) tt
  runs_slot fit ready more_ready first (Some task) at led =
      let stood = first_stands given w S me ready more_ready task stands (record { ready = first; there = at }) in
      acts_so ready task stood (subst (ActionFits (machine_in given)) stood.action (fit task.id stood.plain stood.there)) task.action refl led

  pub runs : ActionsFit given S → (list : List ℕ) → body.tasks.ready ≡ list → Led (run_outcome (machine_in given) me body slot list) → Kept
  runs fit [] first led = runs_unit (first_unit body) refl led
  runs fit (ready ∷ more_ready) first led = runs_slot fit ready more_ready first (body.tasks.slots ready) refl led

pub runs_keep_work : laws.RunsKeepWork
runs_keep_work given sent names more w v S T me slot stands fit valid led n old = runs given sent names more w v S T me slot stands valid n old fit (bodies w me).tasks.ready refl led
