-- What a ready task must know of scopes to act.
use Rattle.std.proofs.Common.{◌≡◌, ◌≢◌, ◌⊎◌, ℕ, zero, suc, ◌+◌, ◌<◌, ◌≤◌, ◌==◌, ◌&&◌, ◌^◌, Bool, true, false, nat_lt, unwrap_or, if◌then◌else◌, List, [], ◌∷◌, inl, inr, sym, ◌∙◌, ap, subst, refl, arith, lt_irrefl, Option, Some, None, is_none}
use Rattle.std.proofs.lemmas.Bool.{eqb-true}
use Rattle.std.proofs.lemmas.Bool.Decides.{nat_tests}
use Rattle.std.specs.Option.{option_map}
use Rattle.std.specs.FinMap as fin
use Rattle.gr_lang.specs.declared.action.Action.TheVariants as action
use Rattle.gr_lang.specs.States.{Task, State}
use Rattle.gr_msg.specs.declared.message.ScopeId.{ScopeId}
use Rattle.gr_event.specs.Counts.{active_count, left_of}
use Rattle.gr_event.specs.Masters.{wait_for, released, release_of}
use Rattle.gr_event.specs.declared.counts.LocalCount.{LocalCount}
use Rattle.gr_event.specs.declared.counts.LocalCount.TheVariants as count
use Rattle.gr_event.specs.declared.counts.LocalLeft.{LocalLeft}
use Rattle.gr_event.specs.declared.counts.LocalLeft.TheVariants as rest
use Rattle.gr_event.specs.declared.masters.Master.{Master}
use Rattle.gr_event.specs.declared.masters.Waiter.{Waiter}
use Rattle.gr_event.specs.declared.masters.Waiter.TheVariants as waiter
use Rattle.gr_event.specs.declared.masters.Release.TheVariants as release
use Rattle.gr_event.proofs.ScopePuts.{put_scope_at}
use Rattle.gr_machine.specs.Machines.{is_core}
use Rattle.gr_machine.specs.States.{Suspended, Body}
use Rattle.gr_machine.specs.Slots.{innermost}
use Rattle.gr_machine.specs.Spawns.{can_enrol}
use Rattle.gr_machine.specs.ScopeRuns.{own_scope, is_new_scope, arrived}
use Rattle.gr_stands.specs.Worlds.{World, Given, machine_in, bodies}
use Rattle.gr_stands.specs.Calls.{SlotFits}
use Rattle.gr_stands_calls.specs.Acting.{IsFirst}
use Rattle.gr_stands_calls.proofs.Common.{first_goes}
use Rattle.gr_stands_passes.specs.Passing.{CanPass}
use Rattle.gr_stands_runs.specs.Telling.{ArrivalTells}
use Rattle.gr_scopes.specs.Trees.{tree_of, Names, IsScope}
use Rattle.gr_scopes.specs.Sums.{counted}
use Rattle.gr_scopes.specs.Scopes.{SlotStands}
use Rattle.gr_scopes_opens.specs.Keeping.{IsNext}
use Rattle.gr_scopes_opens.proofs.Common.{some_same, innermost_named, no_count}
use Rattle.gr_scopes_leaves.proofs.Arrived.{Inner, inner_is, Found, found, can}
use Rattle.gr_scopes_finished.specs.Counted.{NoneCounted}
use Rattle.gr_scopes_finished.proofs.Last.{last_arrivals_leave_none}
use Rattle.gr_scopes_tells.specs.Told.{StandsTold}
use Rattle.gr_scopes_tells.specs.Laws as laws
use Rattle.gr_scopes_tells.proofs.Passes.{Releases, releases, can_pass}
use Rattle.gr_scopes_tells.proofs.Nothing.{nothing_left}

lower : (i j : ℕ) → i < j → nat_lt i j ≡ true
lower i j l = grind (arith, nat_tests, l)

both_none : {X Y : Type 0} (x : Option X) (y : Option Y) → x ≡ None → y ≡ None → (is_none x && is_none y) ≡ true
both_none x y e f = ap (λ o. is_none o && is_none y) e ∙ ap (λ o. is_none o) f

-- A count of which nothing is left after one.
last_one : (c : Option LocalCount) → left_of c 1 ≡ rest.Zero → counted c ≡ 1
last_one None e = absurd (cc)
last_one (Some (count.Waits slots)) e = absurd (cc)
last_one (Some (count.Active n)) e = by (n == 1) refl e
  where
    by : (b : Bool) → (n == 1) ≡ b → (if b then rest.Zero else rest.More) ≡ rest.Zero → n ≡ 1
    by true q e = eqb-true n 1 q
    by false q e = absurd (cc)

module _ (given : Given) (names : Names) (w : World) (S : State) (me k : ℕ) (more : List ℕ) (t : Suspended) (told : StandsTold given names w S) (first : IsFirst w me k more t) where
  abbrev a : Body
  a = bodies w me

  abbrev fits : SlotFits given S me k t
  fits = told.stands.stands.calls.tasks.slots me k t first.there

  abbrev stood : SlotStands given names (tree_of S) me a k t
  stood = (told.stands.scopes.cores me).slots k t first.there

  enrols : can_enrol (machine_in given) (innermost t) (a.scopes.counts (innermost t)) ≡ true
  enrols =
      let inner : IsScope names (innermost t) = innermost_named names (tree_of S) t.id t.scope t.opened stood.held in
      let home = (told.stands.scopes.named.given_by inner.number (innermost t) inner.named).0 in
      ap (λ (b : Bool). b && nat_lt (unwrap_or (active_count (a.scopes.counts (innermost t))) 0) (2 ^ 127)) (lower (innermost t).core given.setup.cores home)
      ∙ told.counts me (innermost t)

  opens : is_new_scope a (own_scope me a) ≡ true
  opens =
      let own = own_scope me a in
      let none = (told.stands.scopes.cores me).fresh a.scopes.next (omega arith) in
      both_none (a.scopes.counts own) (a.scopes.masters own)
      (no_count given names w (tree_of S) own told.stands.scopes fits.here (λ f. lt_irrefl a.scopes.next (told.stands.scopes.named.given_by f.number own f.named).1) none) none

  module _ (due : t.action ≡ action.Arrive) where
    next : IsNext given w S me k more t stood.held.holder
    next = record { here = fits.here; first = first; held = stood.held.there }

    inner : Inner given names w S me k more t stood.held.holder told.stands next due
    inner = inner_is given names w S me k more t stood.held.holder told.stands next due

    master_at : Found given names w S me k more t stood.held.holder told.stands next due inner.scope inner.outer inner.is
    master_at = found given names w S me k more t stood.held.holder told.stands next due inner.scope inner.outer inner.is

    none : (who : Waiter) → left_of (a.scopes.counts inner.scope) 1 ≡ rest.Zero → release_of (released ((arrived a inner.scope k).scopes.masters inner.scope)) ≡ release.Released who → NoneCounted given w inner.scope
    none who last e =
        let r : Releases ((arrived a inner.scope k).scopes.masters inner.scope) who = releases ((arrived a inner.scope k).scopes.masters inner.scope) who e in
        let there : (arrived a inner.scope k).scopes.masters inner.scope ≡ Some (wait_for (waiter.Task k) master_at.master) =
        put_scope_at a.scopes.masters inner.scope (option_map (wait_for (waiter.Task k)) (a.scopes.masters inner.scope)) ∙ ap (option_map (wait_for (waiter.Task k))) master_at.there in
        let same : r.master ≡ wait_for (waiter.Task k) master_at.master = some_same r.master (wait_for (waiter.Task k) master_at.master) (sym r.there ∙ there) in
        last_arrivals_leave_none given names w S me k t inner.scope inner.outer master_at.master told.stands first.there (first_goes given w S me k more t told.stands.stands first) inner.is
        (last_one (a.scopes.counts inner.scope) last) master_at.there (ap (λ (x : Master). x.active) (sym same) ∙ r.last)

    arrives : ArrivalTells w S me k t
    arrives = record {
      scope = inner.scope;
      outer = inner.outer;
      opened = inner.is;
      can = can given names w S me k more t stood.held.holder told.stands next due inner.scope inner.outer inner.is;
      passes = λ who plain last e there. can_pass given names w S me k t inner.scope inner.outer told first.there inner.is (none who last e) plain there;
    }

pub tasks_are_told : laws.TasksAreTold
tasks_are_told given names w S me k more t told first = record {
  enrols = enrols given names w S me k more t told first;
  opens = opens given names w S me k more t told first;
  arrives = arrives given names w S me k more t told first;
  nothing = λ lo hi grain target args plain due over there. nothing_left given names w S me k more t told first lo hi grain target args plain due over there;
}
