-- A core leaves a scope.
use Rattle.std.proofs.Common.{◌≡◌, ◌≢◌, ◌⊎◌, ℕ, zero, suc, ◌+◌, ◌<◌, ◌==◌, ◌&&◌, Bool, true, false, if◌then◌else◌, List, [], ◌∷◌, inl, inr, sym, ◌∙◌, ap, subst, refl, arith, Option, Some, None}
use Rattle.gr_lang.specs.States.{Task, State}
use Rattle.gr_msg.specs.declared.message.Msg.TheVariants as msg
use Rattle.gr_msg.specs.declared.message.ScopeId.{ScopeId}
use Rattle.gr_event.specs.Masters.{released, release_of}
use Rattle.gr_event.specs.declared.masters.Waiter.{Waiter}
use Rattle.gr_event.specs.declared.masters.Waiter.TheVariants as waiter
use Rattle.gr_event.specs.declared.masters.Release.{Release}
use Rattle.gr_event.specs.declared.masters.Release.TheVariants as release
use Rattle.gr_machine.specs.Machines.{Machine}
use Rattle.gr_machine.specs.declared.waits.Waits.{Waits}
use Rattle.gr_machine.specs.declared.waits.Waits.TheVariants as wait
use Rattle.gr_machine.specs.Slots.{awaits_scope}
use Rattle.gr_machine.specs.States.{Suspended, Body}
use Rattle.gr_machine.specs.Outcomes.{Outcome, quietly}
use Rattle.gr_machine.specs.ScopeRuns.{can_leave, with_leave, passes}
use Rattle.gr_machine.specs.ScopeServes.{passed_by, over, left_with}
use Rattle.gr_stands.specs.Worlds.{Given, machine_in, World, bodies}
use Rattle.gr_stands.specs.Calls.{is_told, is_going, is_asking, of_slot}
use Rattle.gr_stands.specs.Stands.{Stands}
use Rattle.gr_stands_calls.specs.Acting.{letter, ActsWithEntry}
use Rattle.gr_stands_chains.specs.Chains.{ActsWithEntries}
use Rattle.gr_stands_chains.proofs.Follows.{quiet_outcomes_act, entries_act}
use Rattle.gr_stands_changes.proofs.Leaves.{leaves_kept}
use Rattle.gr_stands_passes.specs.Passing.{IsPlaced, LeaveTells}
use Rattle.gr_stands_passes.specs.Laws as laws
use Rattle.gr_stands_passes.proofs.Passes.{passes_act, programs_end}

-- What a task that waits for a scope waits for.
waits_scope : (scope : ScopeId) (w : Waits) → awaits_scope scope w ≡ true → (is_told w ≡ 0) × (is_asking w ≡ 0) × (is_going w ≡ 0)
waits_scope scope (wait.Scope other) e = (refl, refl, refl)
waits_scope scope _ e = absurd (cc)

same_some : (x y : Outcome) → Some x ≡ Some y → x ≡ y
same_some x y e = cc

module _ (given : Given) (w : World) (S : State) (c from : ℕ) (scope : ScopeId) (st : Stands given w S) (here : c < given.setup.cores) (tells : LeaveTells w S c scope) (e : Outcome) where
  abbrev machine : Machine
  machine = machine_in given

  abbrev body : Body
  body = bodies w c

  abbrev Acts : Type 0
  Acts = ActsWithEntries given w S c (letter from (msg.Leave scope) ∷ []) (Some e)

  by_task : (k : ℕ) (o : Option Suspended) → release_of (released (body.scopes.masters scope)) ≡ release.Released (waiter.Task k) → body.tasks.slots k ≡ o
      → passed_by machine body scope k o ≡ Some e → Acts
  by_task k None r there h = absurd (cc)
  by_task k (Some s) r there h = by (awaits_scope scope s.waits) refl h
    where
      by : (b : Bool) → awaits_scope scope s.waits ≡ b → (if b then Some (passes machine (with_leave body scope) k s) else None) ≡ Some e → Acts
      by false q h = absurd (cc)
      by true q h =
          let waits = waits_scope scope s.waits q in
          let known = tells.task k s r there in
          let placed : IsPlaced w c k s (with_leave body scope) = record {
            there = there;
            not_told = waits.0;
            not_asking = waits.1;
            slots = refl;
            next = refl;
            not_ready = st.calls.tasks.ready c k ∙ ap (of_slot is_going) there ∙ waits.2;
            ready = λ other ne. refl;
            work = refl;
            words = refl;
          } in
          let row = passes_act given w S c k (letter from (msg.Leave scope) ∷ []) s (with_leave body scope) st here placed (tt, tt) known.0 known.1 in
          subst (λ (x : Outcome). ActsWithEntries given w S c (letter from (msg.Leave scope) ∷ []) (Some x)) (same_some (passes machine (with_leave body scope) k s) e h)
          (entries_act given w S c (letter from (msg.Leave scope) ∷ []) (Some (passes machine (with_leave body scope) k s)) row)

  by_release : (r : Release) → release_of (released (body.scopes.masters scope)) ≡ r → left_with machine body scope r ≡ Some e → Acts
  by_release release.Held q h =
      subst (λ (x : Outcome). ActsWithEntries given w S c (letter from (msg.Leave scope) ∷ []) (Some x)) (same_some (quietly (with_leave body scope)) e h)
      (quiet_outcomes_act given w S c (letter from (msg.Leave scope) ∷ []) (Some (quietly (with_leave body scope))) (record {
        outcome = quietly (with_leave body scope);
        acts = refl;
        sends = tt;
        marks = refl;
        keeps = leaves_kept given w S c (letter from (msg.Leave scope) ∷ []) (quietly (with_leave body scope)) st here (record { tasks = refl; work = refl; words = refl; letters = (tt, tt); sends = tt });
      }))
  by_release (release.Released (waiter.Task k)) q h = by_task k (body.tasks.slots k) q refl h
  by_release (release.Released waiter.Root) q h =
      let known = tells.root q in
      subst (λ (x : Outcome). ActsWithEntries given w S c (letter from (msg.Leave scope) ∷ []) (Some x)) (same_some (over body scope) e h)
      (entries_act given w S c (letter from (msg.Leave scope) ∷ []) (Some (over body scope)) (programs_end given w S c (letter from (msg.Leave scope) ∷ []) scope st here (tt, tt) known.0 known.1))

pub leaves_are_served : laws.LeavesAreServed
leaves_are_served given w S c from scope e st first tells h = by (can_leave ((bodies w c).scopes.masters scope)) h
  where
    by : (b : Bool) → (if b then left_with (machine_in given) (bodies w c) scope (release_of (released ((bodies w c).scopes.masters scope))) else None) ≡ Some e
        → ActsWithEntries given w S c (letter from (msg.Leave scope) ∷ []) (Some e)
    by false h = absurd (cc)
    by true h = by_release given w S c from scope st first.here tells e (release_of (released ((bodies w c).scopes.masters scope))) refl h
