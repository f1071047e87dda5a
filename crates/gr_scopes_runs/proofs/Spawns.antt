-- Run: a ready task makes a new one, asks whether its core may count it, waits for that, or is trapped.
use Rattle.std.proofs.Common.{◌≡◌, ◌⊎◌, ℕ, ◌<◌, ◌==◌, ◌&&◌, ◌^◌, Bool, true, false, nat_lt, unwrap_or, if◌then◌else◌, List, [], ◌∷◌, ◌++◌, sym, ◌∙◌, ap, subst, refl, Option, Some, None}
use Rattle.gr_lang.specs.declared.action.Action.TheVariants as action
use Rattle.gr_lang.specs.declared.action.Entry.TheVariants as entry
use Rattle.gr_lang.specs.declared.action.How.{How}
use Rattle.gr_lang.specs.declared.action.How.TheVariants as how
use Rattle.gr_lang.specs.declared.action.TaskId.{TaskId}
use Rattle.gr_lang.specs.declared.action.TrapKind.TheVariants as trap
use Rattle.gr_lang.specs.States.{State, innermost_of}
use Rattle.gr_lang.specs.Steps.{has_core}
use Rattle.gr_msg.specs.declared.message.Msg.TheVariants as msg
use Rattle.gr_msg.specs.declared.message.Unit.{Unit as WorkUnit}
use Rattle.gr_event.specs.Counts.{active_count}
use Rattle.gr_event.specs.declared.counts.LocalCount.{LocalCount}
use Rattle.gr_event.specs.declared.counts.LocalCount.TheVariants as count
use Rattle.gr_machine.specs.declared.mark.Mark.{Mark}
use Rattle.gr_machine.specs.declared.mark.Mark.TheVariants as mark
use Rattle.gr_machine.specs.Machines.{Machine}
use Rattle.gr_machine.specs.States.{Suspended, Body}
use Rattle.gr_machine.specs.Outcomes.{Outcome, to, marked, quietly}
use Rattle.gr_machine.specs.Histories.{Sent}
use Rattle.gr_machine.specs.Slots.{own_id, innermost, dropped}
use Rattle.gr_machine.specs.Spawns.{trapped, private_last, placed, made_in, new_single, with_count, enrols, spawns_under}
use Rattle.gr_machine.specs.Runs.{acts, without_ready}
use Rattle.gr_event.specs.Counts.{enrolled}
use Rattle.gr_stands.specs.Worlds.{Given, World, machine_in, bodies}
use Rattle.gr_stands_calls.specs.Acting.{IsFirst}
use Rattle.gr_scopes.specs.Trees.{Holder, tree_of, with_task, Names}
use Rattle.gr_scopes_opens.specs.Keeping.{IsNext}
use Rattle.gr_scopes_opens.specs.SpawnLaws.{IsSpawning}
use Rattle.gr_scopes_opens.proofs.Spawned.{spawns_keep_scopes, enrolments_are_asked, enrolments_wait}
use Rattle.gr_scopes_stays.proofs.Made.{far_spawns_keep_scopes}
use Rattle.gr_scopes_trees.proofs.Steps.{spawns_make_tasks, traps_leave_trees}
use Rattle.gr_scopes_tells.specs.Told.{StandsTold}
use Rattle.gr_scopes_tells.proofs.Tasks.{tasks_are_told}
use Rattle.gr_scopes_runs.specs.Leading.{KeepsLeading}
use Rattle.gr_scopes_runs.proofs.Leads.{leads_none, leads_one}

pub placed_none : (me : ℕ) (x : Body) (way : How) (work : WorkUnit) → (placed me x way work).marks ≡ []
placed_none me x how.Here work = refl
placed_none me x how.Offer work = refl
placed_none me x (how.At core) work = by (core == me)
  where
    by : (b : Bool) → (if b then quietly (private_last x work) else record { body = x; sends = to core (msg.Spawn work); marks = [] }).marks ≡ []
    by true = refl
    by false = refl

module _ (given : Given) (sent : Sent) (names : Names) (w : World) (S : State) (me k : ℕ) (more : List ℕ) (t : Suspended) (told : StandsTold given names w S) (first : IsFirst w me k more t)
    (here : me < given.setup.cores) (way : How) (target : ℕ) (args : List ℕ) (due : t.action ≡ action.Spawn way target args) where
  abbrev machine : Machine
  machine = machine_in given

  abbrev a : Body
  a = bodies w me

  abbrev b : Body
  b = without_ready a

  abbrev acting : Outcome
  acting = acts machine me b k t t.action

  abbrev holder : Holder
  holder = ((told.stands.scopes.cores me).slots k t first.there).held.holder

  held : (tree_of S).holders t.id ≡ Some holder
  held = ((told.stands.scopes.cores me).slots k t first.there).held.there

  next : IsNext given w S me k more t holder
  next = record { here = here; first = first; held = held }

  abbrev kid : TaskId
  kid = own_id me a

  -- ---- at a core that there is

  module _ (core : has_core given.setup.cores way ≡ true) where
    spawning : IsSpawning given names w S me k more t holder way target args
    spawning = record { stands = told.stands; next = next; action = due; core = core }

    enters : (c : Option LocalCount) → a.scopes.counts (innermost t) ≡ c → acting ≡ enrols machine me b k t way target args c
    enters c e =
        ap (acts machine me b k t) due
        ∙ ap (λ (x : Bool). if x then spawns_under machine me b k t way target args (a.scopes.counts (innermost t)) else trapped b k t trap.Core) core
        ∙ ap (λ (x : Bool). if x then enrols machine me b k t way target args (a.scopes.counts (innermost t)) else dropped b k) (tasks_are_told given names w S me k more t told first).enrols
        ∙ ap (enrols machine me b k t way target args) e

    counts_one : (n : ℕ) → a.scopes.counts (innermost t) ≡ Some (count.Active n) → acting.marks ≡ marked (entry.Spawn t.id way target args kid)
    counts_one n e =
        let x : Body = with_count b (innermost t) (enrolled (Some (count.Active n)) k) in
        ap (λ (o : Outcome). o.marks) (enters (Some (count.Active n)) e)
        ∙ ap (λ (ms : List Mark). mark.Entry (entry.Spawn t.id way target args kid) ∷ ms) (placed_none me (made_in machine me x k t) way (new_single me x t target args))

    by_count : (c : Option LocalCount) → a.scopes.counts (innermost t) ≡ c → KeepsLeading given sent names w S me [] acting
    by_count None e = leads_none given sent names w S me [] acting (ap (λ (o : Outcome). o.marks) (enters None e)) (enrolments_are_asked given names w S me k more t holder way target args spawning e)
    by_count (Some (count.Waits slots)) e =
        leads_none given sent names w S me [] acting (ap (λ (o : Outcome). o.marks) (enters (Some (count.Waits slots)) e)) (enrolments_wait given names w S me k more t holder way target args slots spawning e)
    by_count (Some (count.Active n)) e =
        let fits : nat_lt n (2 ^ 127) ≡ true = sym (ap (λ (c : Option LocalCount). nat_lt (unwrap_or (active_count c) 0) (2 ^ 127)) e) ∙ told.counts me (innermost t) in
        leads_one given sent names w S me [] acting (entry.Spawn t.id way target args kid) names (with_task (tree_of S) kid (innermost_of holder.scope holder.opened)) (counts_one n e) (λ number q f. f)
        (λ T h. spawns_make_tasks given S T t.id holder way target args kid held h)
        (spawns_keep_scopes given names w S me k more t holder way target args n spawning e fits)

  -- ---- at none

  far : has_core given.setup.cores way ≡ false → KeepsLeading given sent names w S me [] acting
  far core =
      let is : acting ≡ trapped b k t trap.Core =
      ap (acts machine me b k t) due ∙ ap (λ (x : Bool). if x then spawns_under machine me b k t way target args (a.scopes.counts (innermost t)) else trapped b k t trap.Core) core in
      leads_one given sent names w S me [] acting (entry.Trap t.id trap.Core) names (tree_of S) (ap (λ (o : Outcome). o.marks) is) (λ number q f. f)
      (λ T h. traps_leave_trees given S T t.id trap.Core h)
      (far_spawns_keep_scopes given names w S me k more t way target args told.stands here first due core)

  pub spawn_leads : KeepsLeading given sent names w S me [] acting
  spawn_leads = by (has_core given.setup.cores way) refl
    where
      by : (x : Bool) → has_core given.setup.cores way ≡ x → KeepsLeading given sent names w S me [] acting
      by true e = by_count e (a.scopes.counts (innermost t)) refl
      by false e = far e
