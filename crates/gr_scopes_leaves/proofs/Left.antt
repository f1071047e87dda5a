-- A core has left a scope: the part of scopes is kept.
use Rattle.std.proofs.Common.{◌≡◌, ◌≢◌, ◌⊎◌, ℕ, zero, suc, ◌+◌, ◌-◌, ◌<◌, ◌≤◌, ◌==◌, Bool, true, false, if◌then◌else◌, List, [], ◌∷◌, map, drop, length, inl, inr, sym, ◌∙◌, ap, subst, refl, arith, Option, Some, None, nat_lt, is_some}
use Rattle.std.proofs.lemmas.Bool.{cases_eq}
use Rattle.std.proofs.lemmas.Bool.Decides.{nat_tests}
use Rattle.gr_lang.specs.declared.action.Action.{Action}
use Rattle.gr_lang.specs.declared.action.Action.TheVariants as action
use Rattle.gr_lang.specs.declared.action.TaskId.{TaskId}
use Rattle.gr_lang.specs.Effects.{nothing}
use Rattle.gr_lang.specs.States.{Mode, going, State}
use Rattle.gr_view.specs.Places.{put}
use Rattle.gr_msg.specs.Scopes.{same_scope}
use Rattle.gr_msg.specs.declared.message.ScopeId.{ScopeId}
use Rattle.gr_msg.specs.declared.message.Msg.TheVariants as msg
use Rattle.gr_event.specs.Scopes.{put_scope}
use Rattle.gr_event.specs.Masters.{active_of, released, release_of, after_leave}
use Rattle.gr_event.specs.declared.counts.LocalCount.{LocalCount}
use Rattle.gr_event.proofs.ScopePuts.{put_scope_at, put_scope_other}
use Rattle.gr_msg.specs.declared.message.Unit.{Unit as WorkUnit}
use Rattle.gr_event.specs.declared.counts.LocalCount.TheVariants as count
use Rattle.gr_event.specs.declared.masters.Master.{Master}
use Rattle.gr_event.specs.declared.masters.Waiter.{Waiter}
use Rattle.gr_event.specs.declared.masters.Waiter.TheVariants as waiter
use Rattle.gr_net.specs.Sums.{total, weigh, Each}
use Rattle.gr_net.proofs.Spreads.{put_same, put_at, total_one, Each-weaker}
use Rattle.gr_work.specs.Queues.{Queues}
use Rattle.gr_machine.specs.declared.waits.Waits.{Waits}
use Rattle.gr_machine.specs.declared.waits.Waits.TheVariants as wait
use Rattle.gr_machine.specs.States.{Letter, Suspended, Scopes, Stops, Body}
use Rattle.gr_machine.specs.Outcomes.{Outcome, Send, quietly}
use Rattle.gr_machine.specs.Openings.{root_scope}
use Rattle.gr_machine.specs.Serves.{serves}
use Rattle.gr_machine.specs.Slots.{awaits_scope, goes_on}
use Rattle.gr_machine.specs.ScopeRuns.{can_leave, with_leave, passes}
use Rattle.gr_machine.specs.ScopeServes.{core_left, left_with, passed_by, over}
use Rattle.gr_stands.specs.Worlds.{Given, machine_in, World, bodies, in_flight, of_letters, of_sends}
use Rattle.gr_stands.specs.Censuses.{of_held, carried, going_on}
use Rattle.gr_stands.specs.Calls.{StandsAt, scope_mode, mode_of, is_told, of_slot, times}
use Rattle.gr_stands.specs.CallActs.{IsOther, IsOtherUnit}
use Rattle.gr_stands.proofs.Places.{cases_id}
use Rattle.gr_stands_calls.specs.Acting.{letter, IsFirstLetter}
use Rattle.gr_scopes.specs.Trees.{Holder, Tree, tree_of, with_passed, with_over, Rises, Names, IsHeld}
use Rattle.gr_scopes.specs.Sums.{if_scope, if_core, counted, is_active, is_waiting, active_at, is_there, one_if_some, is_waited_for, is_enrolling, late_scopes, is_late, late_at, slots_in, of_unit, of_scope, completes, leaves, acks, enrolments}
use Rattle.gr_scopes.specs.Depths.{one_for_loop, at_loop, HasDepth}
use Rattle.gr_scopes.specs.Scopes.{WaitsThere, IsWaiter, WaitStands, SlotStands, IsWaitedForBy, WaiterStands, MasterStands, CountIsSome, CoreStands, UnitStands, MessageStands, NamesStand, RootStands, ScopesStand}
use Rattle.gr_scopes.specs.ScopeActs.{KeepsOthers, AreAway, ScopesAct}
use Rattle.gr_scopes.proofs.Counts.{cases_scope, not_itself, scope_itself, if_scope_self, if_scope_zero, if_core_self, units_weigh}
use Rattle.gr_scopes.proofs.Depths.{depth_after}
use Rattle.gr_scopes.proofs.Kept.{adds_scope, unit_still, scopes_kept}
use Rattle.gr_scopes.proofs.Cores.{keeps_all, named_same, root_same}
use Rattle.gr_scopes_opens.specs.Keeping.{KeepsScopes, StandsWith}
use Rattle.gr_scopes_opens.proofs.Common.{some_same, none_some, none_away, others_here, one_away, waiter_same}
use Rattle.gr_scopes_opens.proofs.Ones.{SlotIs, slot_put, slot_none, ScopeIs, master_here, master_off, put_scope_itself, OneAct, one_core, waiters_stay, OneSums, one_sums}
use Rattle.gr_scopes_leaves.specs.Served.{KeepsMade}
use Rattle.gr_scopes_leaves.specs.Laws as laws
use Rattle.gr_scopes_leaves.proofs.Letters.{letter_weighs, letter_stands, no_slot}
use Rattle.gr_scopes_leaves.proofs.Releases.{IsLeave, ReleaseAct, release_keeps}
use Rattle.gr_scopes_leaves.proofs.Passed.{homes_dropped, gone_on, passed_tree, keeps_passed, held_passed, named_passed, depth_passed}

pub active_if : (c : Option LocalCount) → 0 < counted c → is_active c ≡ 1
active_if None l = absurd (omega arith)
active_if (Some (count.Active n)) l = refl
active_if (Some (count.Waits slots)) l = absurd (omega arith)

equal : (x n : ℕ) → x ≡ n → (x == n) ≡ true
equal x n e = grind (arith, nat_tests)

unequal : (x n : ℕ) → x ≢ n → (x == n) ≡ false
unequal x n ne = grind (arith, nat_tests)

positive : (x : ℕ) → 0 < x → nat_lt 0 x ≡ true
positive x l = grind (arith, nat_tests, l)

module _ (given : Given) (names : Names) (w : World) (S : State) (me from : ℕ) (s : ScopeId) (st : StandsWith given names w S) (first : IsFirstLetter given w me from (msg.Leave s)) where
  abbrev pub a : Body
  a = bodies w me

  abbrev pub tree : Tree
  tree = tree_of S

  abbrev pub got : List Letter
  got = letter from (msg.Leave s) ∷ []

  homed : me ≡ s.core
  homed = letter_stands given w me from (msg.Leave s) first names tree st.scopes

  leaves_now : 1 ≤ in_flight (leaves s) given.setup.cores w
  leaves_now = omega (arith, letter_weighs given w me from (msg.Leave s) first (leaves s), if_scope_self s 1)

  active_here : active_at (a.scopes.masters s) ≡ total given.setup.cores (λ i. is_active ((bodies w i).scopes.counts s)) + in_flight (leaves s) given.setup.cores w + in_flight (acks s) given.setup.cores w
  active_here = ap (λ (i : ℕ). active_at ((bodies w i).scopes.masters s)) homed ∙ st.scopes.active s

  pub finds : (master : Master) × (a.scopes.masters s ≡ Some master) × (0 < master.active)
  finds = go (a.scopes.masters s) refl
    where
      go : (o : Option Master) → a.scopes.masters s ≡ o → (master : Master) × (a.scopes.masters s ≡ Some master) × (0 < master.active)
      go None e = absurd (omega (arith, active_here, leaves_now, ap active_at e))
      go (Some m) e = (m, e, omega (arith, active_here, leaves_now, ap active_at e))

  module _ (master : Master) (there : a.scopes.masters s ≡ Some master) where
    stood : MasterStands me a s master
    stood = (st.scopes.cores me).masters s master there

    pub releases : master.active ≡ 1 → master.waiter ≢ None
    releases one none =
        let late : late_at s given.slots a ≡ 1 = omega (arith, (st.scopes.cores me).owners s, ap is_waited_for there, ap is_there there, ap one_if_some none) in
        let here : is_active (a.scopes.counts s) ≡ 1 = active_if (a.scopes.counts s) (omega (arith, st.scopes.counts s me)) in
        omega (arith, active_here, leaves_now, ap active_at there, total_one (λ i. is_active ((bodies w i).scopes.counts s)) given.setup.cores me first.here)

    leave_letter : IsLeave me s got 1
    leave_letter = record { counts = λ q i. refl; active = λ q. omega arith; enrols = λ q i. refl }

    abbrev LeaveAct : Outcome → ℕ → Option Suspended → Option Master → Tree → List TaskId → Type 0
    LeaveAct e k o m after ids = ReleaseAct given names tree after w me s e k o (a.scopes.counts s) m ids 0 1

    leaves_keep : (e : Outcome) (k : ℕ) (o : Option Suspended) (m : Option Master) (after : Tree) (ids : List TaskId) → LeaveAct e k o m after ids → KeepsScopes given w me got e names after
    leaves_keep e k o m after ids act = release_keeps given names w S after me s got e k o (a.scopes.counts s) m ids 0 1 st first.here leave_letter act

    -- The scope's count stays as it is.
    is_counted : is_there (a.scopes.masters s) ≡ 1
    is_counted = ap is_there there

    abbrev scopes_with : (ScopeId → Option LocalCount) → (ScopeId → Option Master) → Scopes
    scopes_with counts masters = record { counts = counts; masters = masters; next = a.scopes.next }

    counts_scope : (m : Option Master) → after_leave (a.scopes.masters s) ≡ m
        → scopes_with a.scopes.counts (put_scope a.scopes.masters s (after_leave (a.scopes.masters s))) ≡ scopes_with (put_scope a.scopes.counts s (a.scopes.counts s)) (put_scope a.scopes.masters s m)
    counts_scope m h = ap (λ (o : Option Master). scopes_with a.scopes.counts (put_scope a.scopes.masters s o)) h ∙ ap (λ (g : ScopeId → Option LocalCount). scopes_with g (put_scope a.scopes.masters s m)) (put_scope_itself a.scopes.counts s)

    -- ---- others are active

    abbrev one_less : Master
    one_less = record { active = master.active - 1; waiter = master.waiter }

    module _ (ne : master.active ≢ 1) where
      after_is : after_leave (a.scopes.masters s) ≡ Some one_less
      after_is = ap after_leave there ∙ ap (λ (b : Bool). if is_some (if b then master.waiter else None) then None else Some one_less) (unequal master.active 1 ne)

      held_act : LeaveAct (quietly (with_leave a s)) given.slots None (Some one_less) tree []
      held_act =
          let none = no_slot given w S me st.stands.calls in
          let e = quietly (with_leave a s) in
          let masters : e.body.scopes.masters ≡ put_scope a.scopes.masters s (Some one_less) = ap (put_scope a.scopes.masters s) after_is in
          record {
            slot = slot_none given a e.body given.slots none refl;
            scopes = counts_scope (Some one_less) after_is;
            work = refl;
            sends = refl;
            new = λ u h. absurd (none_some u h);
            others = λ l u q h. tt;
            left = λ u q at h. absurd (none_some u (sym none ∙ at));
            stays = λ l u q at f. record {
              outer = f.outer;
              opened = f.opened;
              master = one_less;
              there = ap (λ (g : ScopeId → Option Master). g s) masters ∙ put_scope_at a.scopes.masters s (Some one_less);
              waits = ap (λ (x : Master). x.waiter) (some_same master f.master (sym there ∙ f.there)) ∙ f.waits;
              action = f.action;
            };
            master_is = λ x h. subst (MasterStands me e.body s) (some_same one_less x h) (record { home = stood.home; alive = more master.active stood.alive ne; waiter = waiter_same a e.body s refl master.waiter stood.waiter });
            some = (st.scopes.cores me).counts s;
            there = is_counted;
            same_slots = refl;
            same_waiting = refl;
            owing = omega arith;
            owner = omega (arith, ap is_waited_for there, ap is_there there);
            late = λ q. omega (arith, if_scope_zero q s, ap (of_held (is_late q)) none);
            same_counted = λ q i. sym (ap (of_held (of_scope q i).of_task) none);
            enrols = λ q. sym (ap (of_slot (is_enrolling q)) none);
            less = omega (arith, ap active_at there, stood.alive);
            keeps = keeps_all names tree [];
            away = none_away given w S me st.stands.calls;
            named = named_same given names tree (bodies w) me e.body refl st.scopes.named;
            root = root_same tree (bodies w) me e.body (root_there masters) refl st.scopes.root;
          }
        where
          more : (x : ℕ) → 0 < x → x ≢ 1 → 0 < x - 1
          more x l ne = omega arith

          root_there : {f : ScopeId → Option Master} → f ≡ put_scope a.scopes.masters s (Some one_less) → is_there (f root_scope) ≡ is_there (a.scopes.masters root_scope)
          root_there {f} g = ap (λ (x : ScopeId → Option Master). is_there (x root_scope)) g ∙ elim (cases_scope root_scope s) [
            | inl h ↦ ap (λ (r : ScopeId). is_there (put_scope a.scopes.masters s (Some one_less) r)) h ∙ ap is_there (put_scope_at a.scopes.masters s (Some one_less)) ∙ sym (ap (λ (r : ScopeId). is_there (a.scopes.masters r)) h ∙ ap is_there there)
            | inr h ↦ ap is_there (put_scope_other a.scopes.masters s (Some one_less) root_scope h)
          ]

      pub held : KeepsMade given w me got (serves (machine_in given) me a from (msg.Leave s)) names tree
      held = record {
        outcome = quietly (with_leave a s);
        acts = ap (core_left (machine_in given) a s) there
            ∙ ap (λ (b : Bool). if b then left_with (machine_in given) a s (release_of (released (Some master))) else None) (positive master.active stood.alive)
            ∙ ap (λ (b : Bool). left_with (machine_in given) a s (release_of (if b then master.waiter else None))) (unequal master.active 1 ne);
        sends = tt;
        keeps = leaves_keep (quietly (with_leave a s)) given.slots None (Some one_less) tree [] held_act;
      }

    -- ---- nobody else is active

    module _ (one : master.active ≡ 1) where
      last_less : 0 + (is_active (a.scopes.counts s) + 1) ≡ active_at (a.scopes.masters s) + is_active (a.scopes.counts s)
      last_less = omega (arith, ap active_at there)

      after_last : (x : Waiter) → master.waiter ≡ Some x → after_leave (a.scopes.masters s) ≡ None
      after_last x who = ap after_leave there ∙ ap (λ (b : Bool). if is_some (if b then master.waiter else None) then None else Some one_less) (equal master.active 1 one)
          ∙ ap (λ (o : Option Waiter). if is_some o then None else Some one_less) who

      released_is : (x : Waiter) → master.waiter ≡ Some x → core_left (machine_in given) a s (a.scopes.masters s) ≡ left_with (machine_in given) a s (release_of (Some x))
      released_is x who = ap (core_left (machine_in given) a s) there
          ∙ ap (λ (b : Bool). if b then left_with (machine_in given) a s (release_of (released (Some master))) else None) (positive master.active stood.alive)
          ∙ ap (λ (b : Bool). left_with (machine_in given) a s (release_of (if b then master.waiter else None))) (equal master.active 1 one)
          ∙ ap (λ (o : Option Waiter). left_with (machine_in given) a s (release_of o)) who

      owner_gone : (x : Waiter) → master.waiter ≡ Some x → 0 + is_there (a.scopes.masters s) ≡ is_waited_for (a.scopes.masters s) + 0 + 0
      owner_gone x who = omega (arith, ap is_there there, ap is_waited_for there, ap one_if_some who)

      -- ---- the program has ended

      module _ (who : master.waiter ≡ Some waiter.Root) where
        is_root : s ≡ root_scope
        is_root = subst (WaiterStands a s) who stood.waiter

        at_zero : me ≡ 0
        at_zero = homed ∙ ap (λ (r : ScopeId). r.core) is_root

        over_act : LeaveAct (over a s) given.slots None None (with_over tree) []
        over_act =
            let none = no_slot given w S me st.stands.calls in
            let e = over a s in
            let old = st.scopes.named in
            let gone = after_last waiter.Root who in
            record {
              slot = slot_none given a e.body given.slots none refl;
              scopes = counts_scope None gone;
              work = refl;
              sends = refl;
              new = λ u h. absurd (none_some u h);
              others = λ l u q h. tt;
              left = λ u q at h. absurd (none_some u (sym none ∙ at));
              stays = λ l u q at f. absurd (no_task l (sym who ∙ ap (λ (x : Master). x.waiter) (some_same master f.master (sym there ∙ f.there)) ∙ f.waits));
              master_is = λ x h. absurd (none_some x h);
              some = (st.scopes.cores me).counts s;
              there = is_counted;
              same_slots = refl;
              same_waiting = refl;
              owing = omega arith;
              owner = owner_gone waiter.Root who;
              late = λ q. omega (arith, if_scope_zero q s, ap (of_held (is_late q)) none);
              same_counted = λ q i. sym (ap (of_held (of_scope q i).of_task) none);
              enrols = λ q. sym (ap (of_slot (is_enrolling q)) none);
              less = last_less;
              keeps = record { named = λ number q h. h; held = λ id x other h. h };
              away = none_away given w S me st.stands.calls;
              named = let f = named_same given names tree (bodies w) me e.body refl old in record { root = f.root; apart = f.apart; opened = f.opened; given_by = f.given_by; rises = f.rises };
              root = record {
                master = ap (λ (x : Body). is_there (x.scopes.masters root_scope)) (put_at (bodies w) me e.body 0 (sym at_zero))
                    ∙ ap (λ (m : Option Master). is_there (put_scope a.scopes.masters s m root_scope)) gone
                    ∙ ap (λ (r : ScopeId). is_there (put_scope a.scopes.masters s None r)) (sym is_root) ∙ ap is_there (put_scope_at a.scopes.masters s None);
                passed = ap (λ (x : Body). x.stops.passed) (put_at (bodies w) me e.body 0 (sym at_zero));
              };
            }
          where
            no_task : (l : ℕ) → Some waiter.Root ≡ Some (waiter.Task l) → ⊥
            no_task l e = cc

        pub ended : KeepsMade given w me got (serves (machine_in given) me a from (msg.Leave s)) names (with_over tree)
        ended = record {
          outcome = over a s;
          acts = released_is waiter.Root who;
          sends = tt;
          keeps = leaves_keep (over a s) given.slots None None (with_over tree) [] over_act;
        }

      -- ---- a task passes

      module _ (k : ℕ) (t : Suspended) (holder : Holder) (who : master.waiter ≡ Some (waiter.Task k)) (at : a.tasks.slots k ≡ Some t) (held_as : tree.holders t.id ≡ Some holder) where
        waited : IsWaitedForBy a s k
        waited = subst (WaiterStands a s) who stood.waiter

        waits : t.waits ≡ wait.Scope s
        waits = ap (λ (x : Suspended). x.waits) (some_same t waited.task (sym at ∙ waited.there)) ∙ waited.waits

        abbrev fits : SlotStands given names tree me a k t
        fits = (st.scopes.cores me).slots k t at

        is_waiter : IsWaiter a k t s
        is_waiter = subst (WaitStands given a k t) waits fits.waits

        abbrev gone : Suspended
        gone = gone_on given names w S me k t holder st at held_as

        abbrev after : Tree
        after = passed_tree given names w S me k t holder st at held_as

        abbrev passing : Outcome
        passing = passes (machine_in given) (with_leave a s) k t

        stands : StandsAt S t
        stands = (st.stands.calls.tasks.slots me k t at).stands (ap is_told waits)

        mode : going_on stands.plain.mode ≡ 1
        mode = ap going_on (stands.mode ∙ ap (λ (x : Waits). mode_of x t.action) waits) ∙ unended t.action
          where
            unended : (x : Action) → going_on (scope_mode x) ≡ 1
            unended (action.Loop lo hi grain target args) = refl
            unended _ = refl

        depth : HasDepth given.program gone
        depth = depth_passed given names w S me k t holder st at held_as is_waiter.outer s is_waiter.opened t.action refl is_waiter.action (ap (λ (x : Waits). at_loop x t.action) waits)

        pass_act : LeaveAct passing k (Some gone) None after (t.id ∷ [])
        pass_act =
            let e = passing in
            let nobody = after_last (waiter.Task k) who in
            let low = (st.stands.calls.tasks.slots me k t at).low in
            record {
              slot = slot_put given a e.body k (Some gone) low refl;
              scopes = counts_scope None nobody;
              work = refl;
              sends = refl;
              new = λ u f. subst (SlotStands given names after me e.body k) (some_same gone u f)
                  (record { held = held_passed given names w S me k t holder st at held_as; homes = homes_dropped me t.opened fits.homes; depth = depth; waits = tt });
              others = others_here given w S me k t stands.plain st.stands.calls at stands.there mode;
              left = λ u q there_too f. same_wait q (sym f ∙ ap (λ (x : Suspended). x.waits) (some_same u t (sym there_too ∙ at)) ∙ waits);
              stays = λ l u ne there_too f. absurd (ne (same_task l (sym f.waits ∙ ap (λ (x : Master). x.waiter) (some_same f.master master (sym f.there ∙ there)) ∙ who)));
              master_is = λ x f. absurd (none_some x f);
              some = (st.scopes.cores me).counts s;
              there = is_counted;
              same_slots = refl;
              same_waiting = refl;
              owing = omega arith;
              owner = owner_gone (waiter.Task k) who;
              late = λ q. omega (arith, if_scope_zero q s, ap (of_held (is_late q)) at, ap (λ (x : Waits). weigh (λ other. if_scope q other 1) (late_scopes x t.opened)) waits);
              same_counted = λ q i. sym (ap (of_held (of_scope q i).of_task) at);
              enrols = λ q. sym (ap (of_slot (is_enrolling q)) at ∙ ap (is_enrolling q) waits);
              less = last_less;
              keeps = keeps_passed given names w S me k t holder st at held_as;
              away = one_away given w S me k t stands.plain st.stands.calls at stands.there mode;
              named = named_passed given names w S me k t holder st at held_as e.body refl;
              root = root_passed e.body (ap (put_scope a.scopes.masters s) nobody) refl;
            }
          where
            same_wait : (q : ScopeId) → wait.Scope q ≡ wait.Scope s → q ≡ s
            same_wait q e = cc

            same_task : (l : ℕ) → Some (waiter.Task l) ≡ Some (waiter.Task k) → l ≡ k
            same_task l e = cc

            not_root : same_scope root_scope s ≡ false
            not_root = elim (cases_scope root_scope s) [
              | inl f ↦ absurd (not_itself root_scope (ap (λ (r : ScopeId). same_scope r root_scope) f ∙ waited.inner))
              | inr f ↦ f
            ]

            root_passed : (b : Body) → b.scopes.masters ≡ put_scope a.scopes.masters s None → b.stops ≡ a.stops → RootStands (put (bodies w) me b) after
            root_passed b e f =
                let r = root_same tree (bodies w) me b (ap (λ (g : ScopeId → Option Master). is_there (g root_scope)) e ∙ ap is_there (put_scope_other a.scopes.masters s None root_scope not_root)) (ap (λ (x : Stops). x.passed) f) st.scopes.root in
                record { master = r.master; passed = r.passed }

        pub passed : KeepsMade given w me got (serves (machine_in given) me a from (msg.Leave s)) names after
        passed = record {
          outcome = passing;
          acts = released_is (waiter.Task k) who
              ∙ ap (passed_by (machine_in given) a s k) at
              ∙ ap (λ (b : Bool). if b then Some passing else None) (ap (awaits_scope s) waits ∙ scope_itself s);
          sends = tt;
          keeps = leaves_keep passing k (Some gone) None after (t.id ∷ []) pass_act;
        }

pub leaves_find_masters : laws.LeavesFindMasters
leaves_find_masters given names w S me from s st first = finds given names w S me from s st first

pub last_leaves_release : laws.LastLeavesRelease
last_leaves_release given names w S me from s master st first there one = releases given names w S me from s st first master there one

pub leaves_keep_scopes : laws.LeavesKeepScopes
leaves_keep_scopes given names w S me from s master st first there ne = held given names w S me from s st first master there ne

pub waiters_pass : laws.WaitersPass
waiters_pass given names w S me from s master k t holder st first there one who at held_as = passed given names w S me from s st first master there one k t holder who at held_as

pub runs_end : laws.RunsEnd
runs_end given names w S me from s master st first there one who = ended given names w S me from s st first master there one who
