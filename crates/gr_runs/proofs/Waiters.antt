-- Masters of scopes at which a task waits.
use Rattle.std.proofs.Common.{◌≡◌, Bool, true, false, Option, Some, None, ap, ◌∙◌, refl, sym, subst}
use Rattle.std.specs.Prelude.{◌&&◌, not}
use Rattle.std.specs.Option.{option_map, IsSome}
use Rattle.gr_msg.specs.declared.message.ScopeId.{ScopeId}
use Rattle.gr_event.specs.Scopes.{put_scope}
use Rattle.gr_event.specs.Masters.{active_of, is_waited, new_master, wait_for}
use Rattle.gr_event.specs.declared.masters.Master.{Master}
use Rattle.gr_event.specs.declared.masters.Waiter.{Waiter}
use Rattle.gr_event.proofs.ScopePuts.{put_scope_at, put_scope_twice}
use Rattle.gr_machine.specs.ScopeRuns.{can_leave}

-- A new master

begun_at : (before begun : ScopeId → Option Master) (scope : ScopeId) → begun ≡ put_scope before scope (Some new_master) → begun scope ≡ Some new_master
begun_at before begun scope so = ap (λ (all : ScopeId → Option Master). all scope) so ∙ put_scope_at before scope (Some new_master)

pub begun_is_there : (before begun : ScopeId → Option Master) (scope : ScopeId) → begun ≡ put_scope before scope (Some new_master) → IsSome (active_of (begun scope))
begun_is_there before begun scope so = subst (λ (master : Option Master). IsSome (active_of master)) (sym (begun_at before begun scope so)) refl

pub begun_is_alone : (before begun : ScopeId → Option Master) (scope : ScopeId) → begun ≡ put_scope before scope (Some new_master) → is_waited (begun scope) ≡ false
begun_is_alone before begun scope so = ap is_waited (begun_at before begun scope so)

pub begun_is_waited : (before begun after : ScopeId → Option Master) (scope : ScopeId) (waiter : Waiter) → begun ≡ put_scope before scope (Some new_master)
    → after ≡ put_scope begun scope (option_map (wait_for waiter) (begun scope)) → after ≡ put_scope before scope (Some (wait_for waiter new_master))
begun_is_waited before begun after scope waiter so waits =
    waits
    ∙ ap (λ (master : Option Master). put_scope begun scope (option_map (wait_for waiter) master)) (begun_at before begun scope so)
    ∙ ap (λ (all : ScopeId → Option Master). put_scope all scope (Some (wait_for waiter new_master))) so
    ∙ put_scope_twice before scope (Some new_master) (Some (wait_for waiter new_master))

-- A task that arrives

pub first_holds : (one two three : Bool) → one && two && not three ≡ true → one ≡ true
first_holds true two three all = refl
first_holds false two three all = all

pub second_holds : (one two three : Bool) → one && two && not three ≡ true → two ≡ true
second_holds true true three all = refl
second_holds true false three all = all
second_holds false two three all = absurd (cc)

pub third_fails : (one two three : Bool) → one && two && not three ≡ true → three ≡ false
third_fails true true true all = absurd (cc)
third_fails true true false all = refl
third_fails true false three all = absurd (cc)
third_fails false two three all = absurd (cc)

-- Whoever waits, as many cores are active.
waited : (waiter : Waiter) (master : Option Master) → can_leave (option_map (wait_for waiter) master) ≡ can_leave master
waited waiter None = refl
waited waiter (Some master) = refl

pub still_leaves : (waiter : Waiter) (masters : ScopeId → Option Master) (scope : ScopeId) → can_leave (masters scope) ≡ true
    → can_leave (put_scope masters scope (option_map (wait_for waiter) (masters scope)) scope) ≡ true
still_leaves waiter masters scope leaves =
    ap can_leave (put_scope_at masters scope (option_map (wait_for waiter) (masters scope))) ∙ waited waiter (masters scope) ∙ leaves

pub ruleset when_arriving = (first_holds, second_holds, third_fails, still_leaves)
