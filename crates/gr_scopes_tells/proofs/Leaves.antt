-- Where the last core leaves a scope, whoever waits there may pass.
use Rattle.std.proofs.Common.{◌≡◌, ◌≢◌, ◌⊎◌, ℕ, zero, suc, Bool, true, false, List, [], ◌∷◌, inl, inr, sym, ◌∙◌, ap, subst, refl, arith, Option, Some, None}
use Rattle.gr_lang.specs.declared.action.Action.{Action}
use Rattle.gr_lang.specs.declared.action.Action.TheVariants as action
use Rattle.gr_lang.specs.States.{State, left}
use Rattle.gr_msg.specs.declared.message.ScopeId.{ScopeId}
use Rattle.gr_msg.specs.declared.message.Msg.TheVariants as msg
use Rattle.gr_event.specs.Masters.{released, release_of}
use Rattle.gr_event.specs.declared.masters.Master.{Master}
use Rattle.gr_event.specs.declared.masters.Waiter.{Waiter}
use Rattle.gr_event.specs.declared.masters.Waiter.TheVariants as waiter
use Rattle.gr_event.specs.declared.masters.Release.TheVariants as release
use Rattle.gr_machine.specs.declared.waits.Waits.{Waits}
use Rattle.gr_machine.specs.declared.waits.Waits.TheVariants as wait
use Rattle.gr_machine.specs.States.{Suspended, Body}
use Rattle.gr_machine.specs.Openings.{root_scope}
use Rattle.gr_stands.specs.Worlds.{World, Given, bodies}
use Rattle.gr_stands.specs.Calls.{mode_of, scope_mode}
use Rattle.gr_stands_calls.specs.Acting.{IsFirstLetter}
use Rattle.gr_stands_passes.specs.Passing.{IsAtEnd}
use Rattle.gr_scopes.specs.Trees.{tree_of, Names}
use Rattle.gr_scopes.specs.Sums.{is_there}
use Rattle.gr_scopes.specs.Scopes.{WaitsThere, IsWaiter, WaitStands, IsWaitedForBy, WaiterStands, MasterStands, one_unless}
use Rattle.gr_scopes_opens.proofs.Common.{some_same}
use Rattle.gr_scopes_leaves.proofs.Letters.{letter_stands}
use Rattle.gr_scopes_finished.specs.Counted.{NoneCounted}
use Rattle.gr_scopes_finished.proofs.Tasks.{scopes_are_finished}
use Rattle.gr_scopes_finished.proofs.Last.{last_leaves_leave_none}
use Rattle.gr_scopes_tells.specs.Told.{StandsTold}
use Rattle.gr_scopes_tells.specs.Laws as laws
use Rattle.gr_scopes_tells.proofs.Passes.{Releases, releases, can_pass}

-- A task that waits at a scope stands at its end.
at_end : (t : Suspended) (s : ScopeId) → t.waits ≡ wait.Scope s → WaitsThere t.action → IsAtEnd t
at_end t s waits z = go t.action refl z
  where
    mode : (x : Action) → t.action ≡ x → mode_of t.waits t.action ≡ scope_mode x
    mode x e = ap (λ (w : Waits). mode_of w t.action) waits ∙ ap scope_mode e

    go : (x : Action) → t.action ≡ x → WaitsThere x → IsAtEnd t
    go action.Arrive e z = inr (mode action.Arrive e, e)
    go (action.Loop lo hi grain target args) e z = inl (mode (action.Loop lo hi grain target args) e)
    go _ e z = absurd z

module _ (given : Given) (names : Names) (w : World) (S : State) (me from : ℕ) (s : ScopeId) (told : StandsTold given names w S) (first : IsFirstLetter given w me from (msg.Leave s)) where
  abbrev a : Body
  a = bodies w me

  stood : (m : Master) (who : Waiter) → a.scopes.masters s ≡ Some m → m.waiter ≡ Some who → WaiterStands a s (Some who)
  stood m who there waits = subst (WaiterStands a s) waits ((told.stands.scopes.cores me).masters s m there).waiter

  none : (m : Master) → a.scopes.masters s ≡ Some m → m.active ≡ 1 → NoneCounted given w s
  none m there last = last_leaves_leave_none given names w S me from s m told.stands first there last

  -- The task that waits there.
  waiter_at : (k : ℕ) (t : Suspended) → IsWaitedForBy a s k → a.tasks.slots k ≡ Some t → (t.waits ≡ wait.Scope s) × IsWaiter a k t s
  waiter_at k t by at =
      let same : by.task ≡ t = some_same by.task t (sym by.there ∙ at) in
      let waits : t.waits ≡ wait.Scope s = ap (λ (x : Suspended). x.waits) (sym same) ∙ by.waits in
      (waits, subst (λ (x : Waits). WaitStands given a k t x) waits ((told.stands.scopes.cores me).slots k t at).waits)

  passed_not : (b : Bool) → one_unless b ≡ 1 → b ≡ false
  passed_not true e = absurd (omega arith)
  passed_not false e = refl

  root_told : (m : Master) → a.scopes.masters s ≡ Some m → m.active ≡ 1 → s ≡ root_scope → (S.passed ≡ false) × (left S 0 ≡ false)
  root_told m there last root =
      let homed : me ≡ s.core = letter_stands given w me from (msg.Leave s) first names (tree_of S) told.stands.scopes in
      let home : me ≡ 0 = homed ∙ ap (λ (x : ScopeId). x.core) root in
      let here : is_there ((bodies w 0).scopes.masters root_scope) ≡ 1 =
      sym (ap (λ (i : ℕ). is_there ((bodies w i).scopes.masters root_scope)) home) ∙ ap (λ (x : ScopeId). is_there (a.scopes.masters x)) (sym root) ∙ ap is_there there in (
        passed_not S.passed (sym told.stands.scopes.root.master ∙ here),
        scopes_are_finished given names w S 0 s told.stands told.valid told.indices (told.stands.scopes.named.root ∙ ap Some (sym root)) (none m there last) (inl refl),
      )

pub leaves_are_told : laws.LeavesAreTold
leaves_are_told given names w S me from s told first = record {
  task = λ k t e at.
      let r : Releases ((bodies w me).scopes.masters s) (waiter.Task k) = releases ((bodies w me).scopes.masters s) (waiter.Task k) e in
      let waits = waiter_at given names w S me from s told first k t (stood given names w S me from s told first r.master (waiter.Task k) r.there r.waiter) at in (
        at_end t s waits.0 waits.1.action,
        can_pass given names w S me k t s waits.1.outer told at waits.1.opened (none given names w S me from s told first r.master r.there r.last),
      );
  root = λ e.
      let r : Releases ((bodies w me).scopes.masters s) waiter.Root = releases ((bodies w me).scopes.masters s) waiter.Root e in
      root_told given names w S me from s told first r.master r.there r.last (stood given names w S me from s told first r.master waiter.Root r.there r.waiter);
}
