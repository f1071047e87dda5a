-- A task arrives at the end of its innermost finish: it waits, or passes at once; and the part of scopes is kept.
use Rattle.std.proofs.Common.{◌≡◌, ◌≢◌, ◌⊎◌, ℕ, zero, suc, ◌+◌, ◌-◌, ◌<◌, ◌≤◌, ◌==◌, ◌&&◌, not, Bool, true, false, if◌then◌else◌, List, [], ◌∷◌, drop, length, inl, inr, sym, ◌∙◌, ap, subst, refl, arith, Option, Some, None, nat_lt, nat_le, is_some}
use Rattle.std.specs.Option.{option_map}
use Rattle.std.proofs.lemmas.Bool.{cases_eq}
use Rattle.std.proofs.lemmas.Bool.Decides.{nat_tests}
use Rattle.gr_lang.specs.declared.action.Action.{Action}
use Rattle.gr_lang.specs.declared.action.Action.TheVariants as action
use Rattle.gr_lang.specs.declared.action.TaskId.{TaskId}
use Rattle.gr_lang.specs.Effects.{nothing}
use Rattle.gr_lang.specs.States.{State}
use Rattle.gr_view.specs.Places.{put}
use Rattle.gr_msg.specs.Scopes.{same_scope}
use Rattle.gr_msg.specs.declared.message.ScopeId.{ScopeId}
use Rattle.gr_event.specs.Scopes.{put_scope}
use Rattle.gr_event.specs.Counts.{completed, left_of}
use Rattle.gr_event.specs.Masters.{is_waited, wait_for, released, release_of, after_leave}
use Rattle.gr_event.specs.declared.counts.LocalCount.{LocalCount}
use Rattle.gr_event.specs.declared.counts.LocalCount.TheVariants as count
use Rattle.gr_event.specs.declared.counts.LocalLeft.TheVariants as rest
use Rattle.gr_event.specs.declared.masters.Master.{Master}
use Rattle.gr_event.specs.declared.masters.Waiter.{Waiter}
use Rattle.gr_event.specs.declared.masters.Waiter.TheVariants as waiter
use Rattle.gr_event.proofs.ScopePuts.{put_scope_at, put_scope_other, put_scope_twice}
use Rattle.gr_net.specs.Sums.{total, weigh, Each}
use Rattle.gr_net.proofs.Spreads.{put_same, total_one}
use Rattle.gr_machine.specs.declared.waits.Waits.{Waits}
use Rattle.gr_machine.specs.declared.waits.Waits.TheVariants as wait
use Rattle.gr_machine.specs.States.{Suspended, Tasks, Scopes, Stops, Body}
use Rattle.gr_machine.specs.Outcomes.{Outcome, quietly}
use Rattle.gr_machine.specs.Openings.{root_scope}
use Rattle.gr_machine.specs.Slots.{waiting, dropped}
use Rattle.gr_machine.specs.Runs.{acts, without_ready}
use Rattle.gr_machine.specs.ScopeRuns.{can_arrive, can_complete, can_leave, arrives, arrives_in, arrives_with, arrives_last, arrives_early, arrived, with_leave, passes}
use Rattle.gr_stands.specs.Worlds.{Given, machine_in, World, bodies}
use Rattle.gr_stands.specs.Censuses.{of_held, going_on}
use Rattle.gr_stands.specs.Calls.{StandsAt, of_slot, times}
use Rattle.gr_stands_calls.specs.Acting.{IsFirst}
use Rattle.gr_stands_calls.proofs.Common.{first_goes, first_stands, plain_goes}
use Rattle.gr_scopes.specs.Trees.{Holder, Tree, tree_of, with_passed, Names}
use Rattle.gr_scopes.specs.Sums.{if_scope, if_core, counted, is_active, is_waiting, active_at, is_there, one_if_some, is_waited_for, is_enrolling, late_scopes, is_late, late_at, slots_in, of_scope}
use Rattle.gr_scopes.specs.Depths.{one_for_loop, at_loop, HasDepth}
use Rattle.gr_scopes.specs.Scopes.{WaitsThere, IsWaiter, SlotStands, IsWaitedForBy, WaiterStands, MasterStands, CountIsSome, CoreStands, NamesStand, RootStands, ScopesStand}
use Rattle.gr_scopes.proofs.Counts.{cases_scope, not_itself, if_scope_self, if_scope_zero}
use Rattle.gr_scopes.proofs.Depths.{goes_to, due_first}
use Rattle.gr_scopes.proofs.Cores.{keeps_all, named_same, root_same}
use Rattle.gr_scopes_opens.specs.Keeping.{KeepsScopes, StandsWith, IsNext}
use Rattle.gr_scopes_opens.proofs.Common.{some_same, none_some, none_away, others_here, one_away}
use Rattle.gr_scopes_opens.proofs.Ones.{SlotIs, slot_put}
use Rattle.gr_scopes_leaves.specs.ArrivalLaws as laws
use Rattle.gr_scopes_leaves.specs.ArrivalLaws.{IsArriving, Arrives}
use Rattle.gr_scopes_leaves.proofs.Completed.{Counts, counts_some}
use Rattle.gr_scopes_leaves.proofs.Releases.{IsLeave, ReleaseAct, release_keeps}
use Rattle.gr_scopes_leaves.proofs.Passed.{homes_dropped, gone_on, passed_tree, keeps_passed, held_passed, named_passed, depth_passed}

pub late_one : (q : ScopeId) (m k : ℕ) (b : Body) → k < m → of_held (is_late q) (b.tasks.slots k) ≤ late_at q m b
unfolding late_at
late_one q m k b l = total_one (λ i. of_held (is_late q) (b.tasks.slots i)) m k l

there_once : (o : Option Master) → is_there o ≤ 1
there_once None = omega arith
there_once (Some m) = omega arith

module _ (given : Given) (names : Names) (w : World) (S : State) (me k : ℕ) (more : List ℕ) (t : Suspended) (holder : Holder) (st : StandsWith given names w S) (next : IsNext given w S me k more t holder) (due : t.action ≡ action.Arrive) where
  abbrev a : Body
  a = bodies w me

  abbrev tree : Tree
  tree = tree_of S

  goes : t.waits ≡ wait.Going
  goes = first_goes given w S me k more t st.stands next.first

  low : k < given.slots
  low = (st.stands.calls.tasks.slots me k t next.first.there).low

  abbrev fits : SlotStands given names tree me a k t
  fits = (st.scopes.cores me).slots k t next.first.there

  none_open : at_loop t.waits t.action ≡ 0
  none_open = ap (λ (x : Waits). at_loop x t.action) goes

  -- It has a scope open.
  pub record Inner : Type 0 where
    pub scope : ScopeId
    pub outer : List ScopeId
    pub is : t.opened ≡ scope ∷ outer

  inner_of : (ss : List ScopeId) → t.opened ≡ ss → 0 < length ss → Inner
  inner_of [] e l = absurd (omega arith)
  inner_of (x ∷ ss) e l = record { scope = x; outer = ss; is = e }

  pub inner_is : Inner
  inner_is = inner_of t.opened refl (omega (arith, fits.depth.depth, none_open, (goes_to given.program t.running nothing action.Arrive (due_first given.program t action.Arrive fits.depth due (λ x. x))).arrivals_are))

  module _ (s : ScopeId) (outer : List ScopeId) (is : t.opened ≡ s ∷ outer) where
    late_before : (q : ScopeId) → of_held (is_late q) (a.tasks.slots k) ≡ if_scope q s 1 + weigh (λ other. if_scope q other 1) outer
    late_before q = ap (of_held (is_late q)) next.first.there ∙ ap (λ (x : Waits). weigh (λ other. if_scope q other 1) (late_scopes x t.opened)) goes ∙ ap (λ (x : List ScopeId). weigh (λ other. if_scope q other 1) x) is

    late_dropped : (q : ScopeId) → weigh (λ other. if_scope q other 1) (drop 1 t.opened) ≡ weigh (λ other. if_scope q other 1) outer
    late_dropped q = ap (λ (x : List ScopeId). weigh (λ other. if_scope q other 1) (drop 1 x)) is

    late_here : 1 ≤ late_at s given.slots a
    late_here = omega (arith, late_one s given.slots k a low, late_before s, if_scope_self s 1)

    -- ---- the scope is counted, its master is here, and nobody waits there

    there_is : is_there (a.scopes.masters s) ≡ 1
    there_is = omega (arith, (st.scopes.cores me).owners s, late_here, there_once (a.scopes.masters s))

    unwaited : is_waited_for (a.scopes.masters s) ≡ 0
    unwaited = omega (arith, (st.scopes.cores me).owners s, late_here, there_is)

    pub record Found : Type 0 where
      pub master : Master
      pub there : a.scopes.masters s ≡ Some master
      pub nobody : master.waiter ≡ None

    pub found : Found
    found = go (a.scopes.masters s) refl
      where
        free : (o : Option Waiter) → one_if_some o ≡ 0 → o ≡ None
        free None e = refl
        free (Some x) e = absurd (omega arith)

        go : (o : Option Master) → a.scopes.masters s ≡ o → Found
        go None e = absurd (omega (arith, there_is, ap is_there e))
        go (Some m) e = record { master = m; there = e; nobody = free m.waiter (sym (ap is_waited_for e) ∙ unwaited) }

    abbrev master : Master
    master = found.master

    stood : MasterStands me a s master
    stood = (st.scopes.cores me).masters s master found.there

    not_root : same_scope s root_scope ≡ false
    not_root = subst (WaiterStands a s) found.nobody stood.waiter

    root_not : same_scope root_scope s ≡ false
    root_not = elim (cases_scope root_scope s) [
      | inl f ↦ absurd (not_itself root_scope (ap (λ (r : ScopeId). same_scope r root_scope) f ∙ not_root))
      | inr f ↦ f
    ]

    pub counts_it : Counts (a.scopes.counts s) 1
    counts_it = counts_some (a.scopes.counts s) 1 (omega arith) (omega (arith, st.scopes.counts s me, late_here))

    abbrev tasks : ℕ
    tasks = counts_it.tasks

    abbrev waited : Master
    waited = wait_for (waiter.Task k) master

    abbrev arriving : Body
    arriving = arrived (without_ready a) s k

    nobody_waits : (l : ℕ) (u : Suspended) → IsWaiter a l u s → ⊥
    nobody_waits l u f = none_some (waiter.Task l) (sym found.nobody ∙ ap (λ (x : Master). x.waiter) (some_same master f.master (sym found.there ∙ f.there)) ∙ f.waits)

    not_waiting : (u : Suspended) (q : ScopeId) → a.tasks.slots k ≡ Some u → u.waits ≡ wait.Scope q → ⊥
    not_waiting u q at h = goes_not (sym goes ∙ ap (λ (y : Suspended). y.waits) (some_same t u (sym next.first.there ∙ at)) ∙ h)
      where
        goes_not : wait.Going ≡ wait.Scope q → ⊥
        goes_not e = cc

    no_letter : IsLeave me s [] 0
    no_letter = record { counts = λ q i. refl; active = λ q. sym (if_scope_zero q s); enrols = λ q i. refl }

    -- ---- the count and the master afterwards

    abbrev scopes_with : (ScopeId → Option LocalCount) → (ScopeId → Option Master) → Scopes
    scopes_with counts masters = record { counts = counts; masters = masters; next = a.scopes.next }

    arriving_is : (c : Option LocalCount) → completed (Some (count.Active tasks)) 1 ≡ c → arriving.scopes ≡ scopes_with (put_scope a.scopes.counts s c) (put_scope a.scopes.masters s (Some waited))
    arriving_is c e =
        ap (λ (x : Option LocalCount). scopes_with (put_scope a.scopes.counts s (completed x 1)) (put_scope a.scopes.masters s (option_map (wait_for (waiter.Task k)) (a.scopes.masters s)))) counts_it.is
        ∙ ap (λ (x : Option LocalCount). scopes_with (put_scope a.scopes.counts s x) (put_scope a.scopes.masters s (option_map (wait_for (waiter.Task k)) (a.scopes.masters s)))) e
        ∙ ap (λ (x : Option Master). scopes_with (put_scope a.scopes.counts s c) (put_scope a.scopes.masters s (option_map (wait_for (waiter.Task k)) x))) found.there

    arriving_master : (c : Option LocalCount) → completed (Some (count.Active tasks)) 1 ≡ c → arriving.scopes.masters s ≡ Some waited
    arriving_master c e = ap (λ (x : Scopes). x.masters s) (arriving_is c e) ∙ put_scope_at a.scopes.masters s (Some waited)

    leaving_is : (c : Option LocalCount) (m : Option Master) → completed (Some (count.Active tasks)) 1 ≡ c → after_leave (Some waited) ≡ m
        → (with_leave arriving s).scopes ≡ scopes_with (put_scope a.scopes.counts s c) (put_scope a.scopes.masters s m)
    leaving_is c m e f =
        ap (λ (x : Option Master). scopes_with arriving.scopes.counts (put_scope arriving.scopes.masters s (after_leave x))) (arriving_master c e)
        ∙ ap (λ (x : Option Master). scopes_with arriving.scopes.counts (put_scope arriving.scopes.masters s x)) f
        ∙ ap (λ (x : Scopes). scopes_with x.counts (put_scope x.masters s m)) (arriving_is c e)
        ∙ ap (λ (x : ScopeId → Option Master). scopes_with (put_scope a.scopes.counts s c) x) (put_scope_twice a.scopes.masters s (Some waited) m)

    root_there : (b : Body) (m : Option Master) → b.scopes.masters ≡ put_scope a.scopes.masters s m → b.stops ≡ a.stops → RootStands (put (bodies w) me b) tree
    root_there b m e f = root_same tree (bodies w) me b (ap (λ (g : ScopeId → Option Master). is_there (g root_scope)) e ∙ ap is_there (put_scope_other a.scopes.masters s m root_scope root_not)) (ap (λ (x : Stops). x.passed) f) st.scopes.root

    -- ---- it waits

    abbrev held : Suspended
    held = record t { waits = wait.Scope s }

    waits_keep : (b : Body) (c : Option LocalCount) (x : ℕ) → b.tasks ≡ (waiting (without_ready a) k t (wait.Scope s)).tasks → b.work ≡ a.work → b.stops ≡ a.stops
        → b.scopes ≡ scopes_with (put_scope a.scopes.counts s c) (put_scope a.scopes.masters s (Some (record { active = x; waiter = Some (waiter.Task k) })))
        → CountIsSome c → slots_in c ≡ [] → is_waiting c ≡ 0 → counted c + 1 ≡ tasks → 0 < x → x + 1 ≡ master.active + is_active c
        → KeepsScopes given w me [] (quietly b) names tree
    waits_keep b c x tasks_are work stops scopes some no_slots calm owing alive less =
        let m : Master = record { active = x; waiter = Some (waiter.Task k) } in
        let e = quietly b in
        let masters_is : b.scopes.masters ≡ put_scope a.scopes.masters s (Some m) = ap (λ (y : Scopes). y.masters) scopes in
        let here : b.tasks.slots k ≡ Some held = ap (λ (y : Tasks). y.slots k) tasks_are ∙ put_same a.tasks.slots k (Some held) in
        release_keeps given names w S tree me s [] e k (Some held) c (Some m) [] 1 0 st next.here no_letter (record {
          slot = slot_put given a b k (Some held) low (ap (λ (y : Tasks). y.slots) tasks_are);
          scopes = scopes;
          work = work;
          sends = refl;
          new = λ u h. subst (SlotStands given names tree me b k) (some_same held u h) (record {
            held = fits.held;
            homes = fits.homes;
            depth = record { first = fits.depth.first; depth = omega (arith, fits.depth.depth, none_open, ap one_for_loop due) };
            waits = record {
              outer = outer;
              opened = is;
              master = m;
              there = ap (λ (g : ScopeId → Option Master). g s) masters_is ∙ put_scope_at a.scopes.masters s (Some m);
              waits = refl;
              action = subst WaitsThere (sym due) tt;
            };
          });
          others = λ l u ne h. tt;
          left = λ u q at h. absurd (not_waiting u q at h);
          stays = λ l u ne at f. absurd (nobody_waits l u f);
          some = some;
          master_is = λ y h. subst (MasterStands me b s) (some_same m y h) (record { home = stood.home; alive = alive; waiter = record { task = held; there = here; waits = refl; inner = not_root } });
          there = there_is;
          same_slots = no_slots ∙ sym (ap slots_in counts_it.is);
          same_waiting = calm ∙ sym (ap is_waiting counts_it.is);
          owing = owing ∙ sym (ap counted counts_it.is);
          owner = omega (arith, there_is, unwaited);
          late = λ q. omega (arith, late_before q, late_dropped q);
          same_counted = λ q i. sym (ap (of_held (of_scope q i).of_task) next.first.there);
          enrols = λ q. sym (ap (of_slot (is_enrolling q)) next.first.there ∙ ap (is_enrolling q) goes);
          less = omega (arith, less, ap is_active counts_it.is, ap active_at found.there);
          keeps = keeps_all names tree [];
          away = none_away given w S me st.stands.calls;
          named = named_same given names tree (bodies w) me b (ap (λ (y : Scopes). y.next) scopes) st.scopes.named;
          root = root_there b (Some m) masters_is stops;
        })

    -- ---- it passes

    abbrev plain : StandsAt S t
    plain = first_stands given w S me k more t st.stands next.first

    mode : going_on plain.plain.mode ≡ 1
    mode = ap going_on (plain_goes S t plain goes)

    abbrev gone : Suspended
    gone = gone_on given names w S me k t holder st next.first.there next.held

    abbrev after : Tree
    after = passed_tree given names w S me k t holder st next.first.there next.held

    abbrev passing : Outcome
    passing = passes (machine_in given) (with_leave arriving s) k t

    pass_keeps : tasks ≡ 1 → master.active ≡ 1 → completed (Some (count.Active tasks)) 1 ≡ None → after_leave (Some waited) ≡ None → KeepsScopes given w me [] passing names after
    pass_keeps one alone e f =
        let scopes = leaving_is None None e f in
        release_keeps given names w S after me s [] passing k (Some gone) None None (t.id ∷ []) 1 0 st next.here no_letter (record {
          slot = slot_put given a passing.body k (Some gone) low refl;
          scopes = scopes;
          work = refl;
          sends = refl;
          new = λ u h. subst (SlotStands given names after me passing.body k) (some_same gone u h) (record {
            held = held_passed given names w S me k t holder st next.first.there next.held;
            homes = homes_dropped me t.opened fits.homes;
            depth = depth_passed given names w S me k t holder st next.first.there next.held outer s is action.Arrive due tt none_open;
            waits = tt;
          });
          others = others_here given w S me k t plain.plain st.stands.calls next.first.there plain.there mode;
          left = λ u q at h. absurd (not_waiting u q at h);
          stays = λ l u ne at f. absurd (nobody_waits l u f);
          some = tt;
          master_is = λ y h. absurd (none_some y h);
          there = there_is;
          same_slots = sym (ap slots_in counts_it.is);
          same_waiting = sym (ap is_waiting counts_it.is);
          owing = sym (ap counted counts_it.is ∙ one);
          owner = omega (arith, there_is, unwaited);
          late = λ q. omega (arith, late_before q, late_dropped q);
          same_counted = λ q i. sym (ap (of_held (of_scope q i).of_task) next.first.there);
          enrols = λ q. sym (ap (of_slot (is_enrolling q)) next.first.there ∙ ap (is_enrolling q) goes);
          less = omega (arith, alone, ap is_active counts_it.is, ap active_at found.there);
          keeps = keeps_passed given names w S me k t holder st next.first.there next.held;
          away = one_away given w S me k t plain.plain st.stands.calls next.first.there plain.there mode;
          named = named_passed given names w S me k t holder st next.first.there next.held passing.body refl;
          root = let r = root_there passing.body None (ap (λ (y : Scopes). y.masters) scopes) refl in record { master = r.master; passed = r.passed };
        })

    pub can : can_arrive a s ≡ true
    can = ap (λ (x : Option LocalCount). can_complete x 1 && can_leave (a.scopes.masters s) && not (is_waited (a.scopes.masters s))) counts_it.is
        ∙ ap (λ (x : Option Master). can_complete (Some (count.Active tasks)) 1 && can_leave x && not (is_waited x)) found.there
        ∙ ap (λ (x : Option Waiter). nat_le 1 tasks && nat_lt 0 master.active && not (is_some x)) found.nobody
        ∙ last (nat_le 1 tasks) (nat_lt 0 master.active) (lower_le 1 tasks counts_it.enough) (lower 0 master.active stood.alive)
      where
        lower : (i j : ℕ) → i < j → nat_lt i j ≡ true
        lower i j l = grind (arith, nat_tests, l)

        lower_le : (i j : ℕ) → i ≤ j → nat_le i j ≡ true
        lower_le i j l = grind (arith, nat_tests, l)

        last : (p q : Bool) → p ≡ true → q ≡ true → (p && q && true) ≡ true
        last true true e f = refl
        last true false e f = absurd (cc)
        last false q e f = absurd (cc)

    -- ---- the row

    row : acts (machine_in given) me (without_ready a) k t t.action ≡ arrives_with (machine_in given) arriving k t s (left_of (Some (count.Active tasks)) 1)
    row = ap (acts (machine_in given) me (without_ready a) k t) due
        ∙ ap (arrives (machine_in given) (without_ready a) k t) is
        ∙ ap (λ (b : Bool). if b then arrives_with (machine_in given) arriving k t s (left_of (a.scopes.counts s) 1) else dropped (without_ready a) k) can
        ∙ ap (λ (x : Option LocalCount). arrives_with (machine_in given) arriving k t s (left_of x 1)) counts_it.is

    equal : (x n : ℕ) → x ≡ n → (x == n) ≡ true
    equal x n e = grind (arith, nat_tests)

    unequal : (x n : ℕ) → x ≢ n → (x == n) ≡ false
    unequal x n ne = grind (arith, nat_tests)

    arrival : Arrives given names w S me t holder (acts (machine_in given) me (without_ready a) k t t.action)
    arrival = elim (cases_eq tasks 1) [
      | inl one ↦
          let gone_count : completed (Some (count.Active tasks)) 1 ≡ None = ap (λ (b : Bool). if b then None else Some (count.Active (tasks - 1))) (equal tasks 1 one) in
          let last : acts (machine_in given) me (without_ready a) k t t.action ≡ arrives_last (machine_in given) arriving k t s (release_of (released (Some waited)))
          = row ∙ ap (λ (b : Bool). arrives_with (machine_in given) arriving k t s (if b then rest.Zero else rest.More)) (equal tasks 1 one)
          ∙ ap (λ (x : Option Master). arrives_last (machine_in given) arriving k t s (release_of (released x))) (arriving_master None gone_count) in
          elim (cases_eq master.active 1) [
            | inl alone ↦
                let gone_master : after_leave (Some waited) ≡ None = ap (λ (b : Bool). if is_some (if b then Some (waiter.Task k) else None) then None else Some (record { active = master.active - 1; waiter = Some (waiter.Task k) })) (equal master.active 1 alone) in
                subst (Arrives given names w S me t holder)
                (sym (last ∙ ap (λ (b : Bool). arrives_last (machine_in given) arriving k t s (release_of (if b then Some (waiter.Task k) else None))) (equal master.active 1 alone)))
                (inr (refl, pass_keeps one alone gone_count gone_master))
            | inr others ↦
                let less_master : after_leave (Some waited) ≡ Some (record { active = master.active - 1; waiter = Some (waiter.Task k) })
                = ap (λ (b : Bool). if is_some (if b then Some (waiter.Task k) else None) then None else Some (record { active = master.active - 1; waiter = Some (waiter.Task k) })) (unequal master.active 1 others) in
                subst (Arrives given names w S me t holder)
                (sym (last ∙ ap (λ (b : Bool). arrives_last (machine_in given) arriving k t s (release_of (if b then Some (waiter.Task k) else None))) (unequal master.active 1 others)))
                (inl (
                  refl,
                  waits_keep (waiting (with_leave arriving s) k t (wait.Scope s)) None (master.active - 1) refl refl refl (leaving_is None (Some (record { active = master.active - 1; waiter = Some (waiter.Task k) })) gone_count less_master)
                      tt refl refl (sym one) (fewer master.active stood.alive others) (omega (arith, stood.alive)),
                ))
          ]
      | inr several ↦
          let less_count : completed (Some (count.Active tasks)) 1 ≡ Some (count.Active (tasks - 1)) = ap (λ (b : Bool). if b then None else Some (count.Active (tasks - 1))) (unequal tasks 1 several) in
          subst (Arrives given names w S me t holder)
          (sym (row ∙ ap (λ (b : Bool). arrives_with (machine_in given) arriving k t s (if b then rest.Zero else rest.More)) (unequal tasks 1 several)))
          (inl (
            refl,
            waits_keep (waiting arriving k t (wait.Scope s)) (Some (count.Active (tasks - 1))) master.active refl refl refl (arriving_is (Some (count.Active (tasks - 1))) less_count)
                (fewer tasks counts_it.enough several) refl refl (omega (arith, counts_it.enough)) stood.alive refl,
          ))
    ]
      where
        fewer : (x : ℕ) → 1 ≤ x → x ≢ 1 → 0 < x - 1
        fewer x l ne = omega arith

pub arrivals_keep_scopes : laws.ArrivalsKeepScopes
arrivals_keep_scopes given names w S me k more t holder arr =
    let i = inner_is given names w S me k more t holder arr.stands arr.next arr.action in
    arrival given names w S me k more t holder arr.stands arr.next arr.action i.scope i.outer i.is
