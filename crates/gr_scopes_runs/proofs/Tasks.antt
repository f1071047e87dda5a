-- Run: a ready task acts, whatever its action.
use Rattle.std.proofs.Common.{◌≡◌, ◌≢◌, ◌⊎◌, ℕ, ◌+◌, ◌<◌, ◌&&◌, Bool, true, false, nat_lt, if◌then◌else◌, List, [], ◌∷◌, ◌++◌, length, inl, inr, sym, ◌∙◌, ap, subst, refl, arith, lt_irrefl, Option, Some, None}
use Rattle.std.proofs.lemmas.Bool.Decides.{nat_tests}
use Rattle.gr_lang.specs.declared.action.Action.{Action}
use Rattle.gr_lang.specs.declared.action.Action.TheVariants as action
use Rattle.gr_lang.specs.declared.action.Entry.TheVariants as entry
use Rattle.gr_lang.specs.declared.action.Op.{Op}
use Rattle.gr_lang.specs.declared.action.TrapKind.{TrapKind}
use Rattle.gr_lang.specs.States.{State}
use Rattle.gr_msg.specs.declared.message.ScopeId.{ScopeId}
use Rattle.gr_net.proofs.Spreads.{put_other}
use Rattle.gr_machine.specs.Machines.{Machine}
use Rattle.gr_machine.specs.States.{Suspended, Body}
use Rattle.gr_machine.specs.Outcomes.{Outcome, marked}
use Rattle.gr_machine.specs.Histories.{Sent}
use Rattle.gr_machine.specs.Slots.{dropped}
use Rattle.gr_machine.specs.ScopeRuns.{own_scope, finishes_in, loops_in, loops_over, loops_over_nothing, ends_at}
use Rattle.gr_machine.specs.Runs.{acts, without_ready}
use Rattle.gr_stands.specs.Worlds.{Given, World, machine_in, bodies}
use Rattle.gr_stands.specs.Stands.{IsSound}
use Rattle.gr_stands.specs.Actions.{CallFits, ActionFits}
use Rattle.gr_stands.specs.Calls.{SlotFits, StandsAt}
use Rattle.gr_stands_calls.specs.Acting.{IsFirst}
use Rattle.gr_stands_calls.proofs.Common.{first_stands}
use Rattle.gr_stands_runs.specs.Telling.{VectorsStand}
use Rattle.gr_stands_runs.proofs.Calls.{calls_run}
use Rattle.gr_scopes.specs.Trees.{Holder, tree_of, with_opened, with_empty, with_passed, Names, NamesGrow}
use Rattle.gr_scopes_opens.specs.Keeping.{KeepsScopes, IsNext}
use Rattle.gr_scopes_opens.specs.Laws.{with_own}
use Rattle.gr_scopes_opens.proofs.Common.{some_same}
use Rattle.gr_scopes_opens.proofs.Opened.{finishes_keep_scopes, loops_keep_scopes}
use Rattle.gr_scopes_leaves.specs.ArrivalLaws.{Arrives}
use Rattle.gr_scopes_leaves.proofs.Arrived.{arrivals_keep_scopes}
use Rattle.gr_scopes_leaves.proofs.Ended.{ends_keep_scopes}
use Rattle.gr_scopes_stays.proofs.Made.{calls_keep_scopes, traps_keep_scopes, empty_loops_keep_scopes}
use Rattle.gr_scopes_trees.proofs.Steps.{ends_leave_trees, traps_leave_trees, finishes_open_scopes, loops_open_scopes, empty_loops_leave_scopes, passes_leave_scopes}
use Rattle.gr_scopes_tells.specs.Told.{StandsTold}
use Rattle.gr_scopes_tells.proofs.Tasks.{tasks_are_told}
use Rattle.gr_scopes_runs.specs.Leading.{KeepsLeading}
use Rattle.gr_scopes_runs.specs.Laws as laws
use Rattle.gr_scopes_runs.proofs.Leads.{grown, leads_as, leads_none, leads_one, Between, leads_two}
use Rattle.gr_scopes_runs.proofs.Spawns.{spawn_leads}

lower : (i j : ℕ) → i < j → nat_lt i j ≡ true
lower i j l = grind (arith, nat_tests, l)

is_lower : (i j : ℕ) → nat_lt i j ≡ true → i < j
is_lower i j e = grind (arith, nat_tests, e)

module _ (given : Given) (sent : Sent) (names : Names) (w : World) (S : State) (me k : ℕ) (more : List ℕ) (t : Suspended) (sound : IsSound given) (told : StandsTold given names w S)
    (vectors : VectorsStand given w) (first : IsFirst w me k more t) where
  abbrev machine : Machine
  machine = machine_in given

  abbrev a : Body
  a = bodies w me

  abbrev b : Body
  b = without_ready a

  abbrev acting : Outcome
  acting = acts machine me b k t t.action

  abbrev Leads : Type 0
  Leads = KeepsLeading given sent names w S me [] acting

  abbrev fits : SlotFits given S me k t
  fits = told.stands.stands.calls.tasks.slots me k t first.there

  abbrev holder : Holder
  holder = ((told.stands.scopes.cores me).slots k t first.there).held.holder

  held : (tree_of S).holders t.id ≡ Some holder
  held = ((told.stands.scopes.cores me).slots k t first.there).held.there

  next : IsNext given w S me k more t holder
  next = record { here = fits.here; first = first; held = held }

  due_fits : (x : Action) → t.action ≡ x → ActionFits machine x
  due_fits x e =
      let stands : StandsAt S t = first_stands given w S me k more t told.stands.stands first in
      subst (ActionFits machine) (stands.action ∙ e) (told.actions t.id stands.plain stands.there)

  -- ---- calls, ends and traps

  call_leads : (call : Op) → t.action ≡ action.Call call → Leads
  call_leads call due =
      let quiet = calls_run given w S me k more t call sound told.stands.stands fits.here first vectors due (due_fits (action.Call call) due) in
      leads_none given sent names w S me [] acting (ap (λ (o : Outcome). o.marks) (some_same acting quiet.outcome quiet.acts) ∙ quiet.marks)
      (calls_keep_scopes given names w S me k more t call told.stands fits.here first vectors due (due_fits (action.Call call) due))

  trap_leads : (kind : TrapKind) → t.action ≡ action.Trap kind → Leads
  trap_leads kind due =
      leads_one given sent names w S me [] acting (entry.Trap t.id kind) names (tree_of S) (ap (λ (x : Action). (acts machine me b k t x).marks) due) (λ number q f. f)
      (λ T h. traps_leave_trees given S T t.id kind h) (traps_keep_scopes given names w S me k more t kind told.stands fits.here first due)

  end_leads : t.action ≡ action.End → Leads
  end_leads due =
      leads_one given sent names w S me [] acting (entry.End t.id) names (tree_of S)
      (ap (λ (x : Action). (acts machine me b k t x).marks) due ∙ ap (λ (x : Bool). (if x then ends_at b k t else dropped b k).marks) (lower t.origin given.setup.cores fits.counted)) (λ number q f. f)
      (λ T h. ends_leave_trees given S T t.id h) (ends_keep_scopes given names w S me k more t told.stands fits.here first due)

  -- ---- scopes that are opened

  own_grows : NamesGrow names (with_own names S w me)
  own_grows number q f = put_other names (length S.scopes) (Some (own_scope me a)) number (λ e. lt_irrefl number (subst (λ (n : ℕ). number < n) (sym e) (told.stands.scopes.named.opened number q f))) ∙ f

  finish_leads : t.action ≡ action.Finish → Leads
  finish_leads due =
      leads_one given sent names w S me [] acting (entry.Finish t.id) (with_own names S w me) (with_opened (tree_of S) t.id holder)
      (ap (λ (x : Action). (acts machine me b k t x).marks) due ∙ ap (λ (x : Bool). (if x then finishes_in machine b k t (own_scope me a) else dropped b k).marks) (tasks_are_told given names w S me k more t told first).opens)
      own_grows (λ T h. finishes_open_scopes given S T t.id holder held h) (finishes_keep_scopes given names w S me k more t holder told.stands next due)

  module _ (lo hi grain target : ℕ) (args : List ℕ) (due : t.action ≡ action.Loop lo hi grain target args) where
    loop_leads : nat_lt lo hi ≡ true → Leads
    loop_leads some =
        leads_one given sent names w S me [] acting (entry.Loop t.id lo hi grain target args) (with_own names S w me) (with_opened (tree_of S) t.id holder)
        (ap (λ (x : Action). (acts machine me b k t x).marks) due
        ∙ ap (λ (x : Bool). (if x then loops_over me b k t lo hi grain target args else loops_over_nothing machine b k t lo hi grain target args).marks) some
        ∙ ap (λ (x : Bool). (if x then loops_in me b k t lo hi grain target args (own_scope me a) else dropped b k).marks) (tasks_are_told given names w S me k more t told first).opens)
        own_grows (λ T h. loops_open_scopes given S T t.id holder lo hi grain target args held h)
        (loops_keep_scopes given names w S me k more t holder lo hi grain target args told.stands next due (is_lower lo hi some))

    empty_leads : nat_lt lo hi ≡ false → Leads
    empty_leads none T h =
        let is : acting.marks ≡ marked (entry.Loop t.id lo hi grain target args) ++ marked (entry.Pass t.id) =
        ap (λ (x : Action). (acts machine me b k t x).marks) due
        ∙ ap (λ (x : Bool). (if x then loops_over me b k t lo hi grain target args else loops_over_nothing machine b k t lo hi grain target args).marks) none in
        let way : Between given S T (entry.Loop t.id lo hi grain target args) (entry.Pass t.id) = leads_two given sent me S T (entry.Loop t.id lo hi grain target args) (entry.Pass t.id)
        (leads_as given sent names w S me [] acting T (marked (entry.Loop t.id lo hi grain target args) ++ marked (entry.Pass t.id)) is h) in
        grown given sent names w S me [] acting T names (with_empty (tree_of S)) (λ number q f. f)
        (empty_loops_leave_scopes given S way.state T t.id lo hi grain target args way.begins way.follows)
        (empty_loops_keep_scopes given names w S me k more t lo hi grain target args told.stands fits.here first due none)

    any_loop_leads : Leads
    any_loop_leads = by (nat_lt lo hi) refl
      where
        by : (x : Bool) → nat_lt lo hi ≡ x → Leads
        by true e = loop_leads e
        by false e = empty_leads e

  -- ---- the end of a finish

  arrive_leads : t.action ≡ action.Arrive → Leads
  arrive_leads due = by (arrivals_keep_scopes given names w S me k more t holder (record { stands = told.stands; next = next; action = due }))
    where
      by : Arrives given names w S me t holder acting → Leads
      by (inl f) = leads_none given sent names w S me [] acting f.0 f.1
      by (inr f) = leads_one given sent names w S me [] acting (entry.Pass t.id) names (with_passed (tree_of S) t.id holder) f.0 (λ number q x. x)
          (λ T h. passes_leave_scopes given S T t.id holder held h) f.1

  task_leads : (x : Action) → t.action ≡ x → Leads
  task_leads (action.Call call) due = call_leads call due
  task_leads (action.Spawn way target args) due = spawn_leads given sent names w S me k more t told first fits.here way target args due
  task_leads action.Finish due = finish_leads due
  task_leads action.Arrive due = arrive_leads due
  task_leads (action.Loop lo hi grain target args) due = any_loop_leads lo hi grain target args due
  task_leads action.End due = end_leads due
  task_leads (action.Trap kind) due = trap_leads kind due

pub tasks_keep_scopes : laws.TasksKeepScopes
tasks_keep_scopes given sent names w S me k more t sound told vectors first = task_leads given sent names w S me k more t sound told vectors first t.action refl
