-- Serve: a core has left a scope.
use Rattle.std.proofs.Common.{◌≡◌, ◌≢◌, ℕ, ◌<◌, ◌==◌, Bool, true, false, nat_lt, if◌then◌else◌, List, [], ◌∷◌, inl, inr, sym, ◌∙◌, ap, subst, refl, arith, Option, Some, None}
use Rattle.std.proofs.lemmas.Bool.{cases_eq}
use Rattle.std.proofs.lemmas.Bool.Decides.{nat_tests}
use Rattle.gr_lang.specs.declared.action.Entry.TheVariants as entry
use Rattle.gr_lang.specs.States.{State}
use Rattle.gr_msg.specs.declared.message.Msg.TheVariants as msg
use Rattle.gr_msg.specs.declared.message.ScopeId.{ScopeId}
use Rattle.gr_event.specs.Masters.{released, release_of}
use Rattle.gr_event.specs.declared.masters.Master.{Master}
use Rattle.gr_event.specs.declared.masters.Waiter.{Waiter}
use Rattle.gr_event.specs.declared.masters.Waiter.TheVariants as waiter
use Rattle.gr_machine.specs.Machines.{Machine}
use Rattle.gr_machine.specs.States.{Letter, Body}
use Rattle.gr_machine.specs.Outcomes.{Outcome, quietly}
use Rattle.gr_machine.specs.Histories.{Sent}
use Rattle.gr_machine.specs.Serves.{serves}
use Rattle.gr_machine.specs.Slots.{awaits_scope}
use Rattle.gr_machine.specs.ScopeRuns.{with_leave, passes}
use Rattle.gr_machine.specs.ScopeServes.{core_left, left_with, passed_by, over}
use Rattle.gr_stands.specs.Worlds.{Given, World, machine_in, bodies}
use Rattle.gr_stands_calls.specs.Acting.{letter, IsFirstLetter}
use Rattle.gr_stands_outcomes.specs.Inner.{outcome_of}
use Rattle.gr_scopes.specs.Trees.{tree_of, with_passed, with_over, Names}
use Rattle.gr_scopes.specs.Scopes.{IsWaitedForBy, WaiterStands}
use Rattle.gr_scopes.proofs.Counts.{scope_itself}
use Rattle.gr_scopes_opens.specs.Keeping.{StandsWith}
use Rattle.gr_scopes_opens.proofs.Common.{some_same}
use Rattle.gr_scopes_leaves.proofs.Left.{leaves_find_masters, last_leaves_release, leaves_keep_scopes, waiters_pass, runs_end}
use Rattle.gr_scopes_trees.proofs.Steps.{passes_leave_scopes, over_leaves_the_root}
use Rattle.gr_scopes_runs.specs.Leading.{KeepsLeading}
use Rattle.gr_scopes_runs.proofs.Leads.{leads_none, leads_one}
use Rattle.gr_scopes_serves.specs.Laws as laws
use Rattle.gr_scopes_serves.proofs.Served.{leads_made}

equal : (x n : ℕ) → x ≡ n → (x == n) ≡ true
equal x n e = grind (arith, nat_tests)

unequal : (x n : ℕ) → x ≢ n → (x == n) ≡ false
unequal x n ne = grind (arith, nat_tests)

positive : (x : ℕ) → 0 < x → nat_lt 0 x ≡ true
positive x l = grind (arith, nat_tests, l)

module _ (given : Given) (sent : Sent) (names : Names) (w : World) (S : State) (me from : ℕ) (s : ScopeId) (st : StandsWith given names w S) (first : IsFirstLetter given w me from (msg.Leave s))
    (m : Master) (there : (bodies w me).scopes.masters s ≡ Some m) (alive : 0 < m.active) where
  abbrev machine : Machine
  machine = machine_in given

  abbrev a : Body
  a = bodies w me

  abbrev got : List Letter
  got = letter from (msg.Leave s) ∷ []

  abbrev served : Option Outcome
  served = serves machine me a from (msg.Leave s)

  abbrev Leads : Type 0
  Leads = KeepsLeading given sent names w S me got (outcome_of a served)

  serves_as : served ≡ left_with machine a s (release_of (released (Some m)))
  serves_as = ap (core_left machine a s) there ∙ ap (λ (b : Bool). if b then left_with machine a s (release_of (released (Some m))) else None) (positive m.active alive)

  -- Others are active.
  others_lead : m.active ≢ 1 → Leads
  others_lead ne =
      let made = leaves_keep_scopes given names w S me from s m st first there ne in
      let is : served ≡ Some (quietly (with_leave a s)) = serves_as ∙ ap (λ (b : Bool). left_with machine a s (release_of (if b then m.waiter else None))) (unequal m.active 1 ne) in
      leads_made given sent names w S me got a served made.outcome made.acts
      (leads_none given sent names w S me got made.outcome (ap (λ (e : Outcome). e.marks) (some_same made.outcome (quietly (with_leave a s)) (sym made.acts ∙ is))) made.keeps)

  -- It was the last.
  module _ (last : m.active ≡ 1) where
    releases : (x : Waiter) → m.waiter ≡ Some x → served ≡ left_with machine a s (release_of (Some x))
    releases x e =
        serves_as
        ∙ ap (λ (b : Bool). left_with machine a s (release_of (if b then m.waiter else None))) (equal m.active 1 last)
        ∙ ap (λ (o : Option Waiter). left_with machine a s (release_of o)) e

    task_leads : (k : ℕ) → m.waiter ≡ Some (waiter.Task k) → IsWaitedForBy a s k → Leads
    task_leads k waits by =
        let h = ((st.scopes.cores me).slots k by.task by.there).held in
        let made = waiters_pass given names w S me from s m k by.task h.holder st first there last waits by.there h.there in
        let awaits : awaits_scope s by.task.waits ≡ true = ap (awaits_scope s) by.waits ∙ scope_itself s in
        let is : served ≡ Some (passes machine (with_leave a s) k by.task) =
        releases (waiter.Task k) waits
        ∙ ap (passed_by machine a s k) by.there
        ∙ ap (λ (b : Bool). if b then Some (passes machine (with_leave a s) k by.task) else None) awaits in
        leads_made given sent names w S me got a served made.outcome made.acts
        (leads_one given sent names w S me got made.outcome (entry.Pass by.task.id) names (with_passed (tree_of S) by.task.id h.holder)
        (ap (λ (e : Outcome). e.marks) (some_same made.outcome (passes machine (with_leave a s) k by.task) (sym made.acts ∙ is))) (λ number q f. f)
        (λ T g. passes_leave_scopes given S T by.task.id h.holder h.there g) made.keeps)

    root_leads : m.waiter ≡ Some waiter.Root → Leads
    root_leads waits =
        let made = runs_end given names w S me from s m st first there last waits in
        leads_made given sent names w S me got a served made.outcome made.acts
        (leads_one given sent names w S me got made.outcome entry.Over names (with_over (tree_of S))
        (ap (λ (e : Outcome). e.marks) (some_same made.outcome (over a s) (sym made.acts ∙ releases waiter.Root waits))) (λ number q f. f)
        (λ T g. over_leaves_the_root given S T g) made.keeps)

    last_leads : (x : Option Waiter) → m.waiter ≡ x → Leads
    last_leads None e = absurd (last_leaves_release given names w S me from s m st first there last e)
    last_leads (Some (waiter.Task k)) e = task_leads k e (subst (WaiterStands a s) e ((st.scopes.cores me).masters s m there).waiter)
    last_leads (Some waiter.Root) e = root_leads e

  pub leave_leads : Leads
  leave_leads = elim (cases_eq m.active 1) [
    | inl e ↦ last_leads e m.waiter refl
    | inr e ↦ others_lead e
  ]

pub leaves_lead : laws.LeavesLead
leaves_lead given sent names w S me from s st first =
    let f = leaves_find_masters given names w S me from s st first in
    leave_leads given sent names w S me from s st first f.0 f.1 f.2
