-- Whoever waits for the end of a scope is released in the event in which the last core leaves it.
use Rattle.std.proofs.Common.{◌≡◌, ◌<◌, ◌==◌, ℕ, Bool, true, nat_lt, if◌then◌else◌, List, [], ◌∷◌, sym, ◌∙◌, ap, subst, refl, arith, Option, Some, None}
use Rattle.std.proofs.lemmas.Bool.Decides.{nat_tests}
use Rattle.gr_msg.specs.declared.message.Msg.TheVariants as msg
use Rattle.gr_msg.specs.declared.message.ScopeId.{ScopeId}
use Rattle.gr_msg.specs.declared.message.Unit.{Unit as WorkUnit}
use Rattle.std.specs.Option.{option_map}
use Rattle.gr_event.specs.Masters.{wait_for, released, release_of}
use Rattle.gr_event.specs.Counts.{left_of}
use Rattle.gr_event.specs.declared.counts.LocalLeft.TheVariants as rest
use Rattle.gr_event.proofs.ScopePuts.{put_scope_at}
use Rattle.gr_event.specs.declared.masters.Master.{Master}
use Rattle.gr_event.specs.declared.masters.Waiter.{Waiter}
use Rattle.gr_event.specs.declared.masters.Waiter.TheVariants as waiter
use Rattle.gr_net.specs.Sums.{Each}
use Rattle.gr_net.proofs.Spreads.{put_same}
use Rattle.gr_machine.specs.States.{Letter, Suspended, Body}
use Rattle.gr_machine.specs.Outcomes.{Outcome, Send}
use Rattle.gr_machine.specs.Slots.{dropped, awaits_scope}
use Rattle.gr_machine.specs.Serves.{serves}
use Rattle.gr_machine.specs.ScopeRuns.{with_leave, can_arrive, arrived, arrives, arrives_last, arrives_with, passes}
use Rattle.gr_machine.specs.Runs.{acts, without_ready}
use Rattle.gr_machine.specs.ScopeServes.{core_left, left_with, passed_by, over}
use Rattle.gr_machine.specs.Events.{gifts, gives}
use Rattle.gr_machine.specs.GlobalRuns as runs
use Rattle.gr_machine.specs.Nets.{world_in}
use Rattle.gr_stands.specs.Worlds.{Given, machine_in, World, bodies}
use Rattle.gr_stands.proofs.Worlds.{acted_bodies}
use Rattle.gr_stands_calls.specs.Acting.{letter}
use Rattle.gr_stands_runs.specs.Telling.{ArrivalTells}
use Rattle.gr_stands_events.specs.Laws.{ActsThenGives, WaitersAreCores}
use Rattle.gr_stands_events.proofs.Events.{messages_serve, tasks_run}
use Rattle.gr_scopes.specs.Scopes.{WaiterStands, IsWaitedForBy}
use Rattle.gr_scopes.proofs.Counts.{scope_itself}
use Rattle.gr_scopes_leaves.proofs.Left.{last_leaves_release}
use Rattle.gr_stands_finds.specs.Releasing.{HasPassed, Releases}
use Rattle.gr_stands_finds.specs.Laws as laws
use Rattle.gr_stands_finds.specs.Laws.{LeavesRelease, ArrivalsPass}
use Rattle.gr_stands_finds.proofs.Runs.{HasRun, has_run}
use Rattle.gr_stands_finds.proofs.Messages.{stands}
use Rattle.gr_stands_finds.proofs.Finds.{told}

equal : (x n : ℕ) → x ≡ n → (x == n) ≡ true
equal x n e = grind (arith, nat_tests)

positive : (x : ℕ) → x ≡ 1 → nat_lt 0 x ≡ true
positive x e = grind (arith, nat_tests, e)

gifts_go : (n : ℕ) (cores : List ℕ) (units : List WorkUnit) → Each (λ core. core < n) cores → Each (λ (send : Send). send.to < n) (gifts cores units)
gifts_go n [] units e = tt
gifts_go n (core ∷ cores) [] e = tt
gifts_go n (core ∷ cores) (unit ∷ units) e = (e.0, gifts_go n cores units e.1)

-- ---- the body of a core after an event that sends nothing but gifts

module _ (given : Given) (before after : runs.World) (me clock : ℕ) (got : List Letter) (e : Outcome)
    (a : ActsThenGives (machine_in given) before after me clock got e)
    (sends : Each (λ send. send.to < given.setup.cores) e.sends) (waiters : WaitersAreCores given e.body) where
  middle_is : bodies a.middle me ≡ e.body
  middle_is = ap (λ (b : ℕ → Body). b me) (acted_bodies given.setup.cores (world_in before) a.middle me got e (a.acts sends))
      ∙ put_same (bodies (world_in before)) me e.body

  body_after : bodies (world_in after) me ≡ (gives e.body).body
  body_after =
      let goes = gifts_go given.setup.cores (bodies a.middle me).steals.waiting (bodies a.middle me).work.public
      (subst (λ (b : Body). Each (λ core. core < given.setup.cores) b.steals.waiting) (sym middle_is) waiters) in
      ap (λ (b : ℕ → Body). b me) (acted_bodies given.setup.cores a.middle (world_in after) me [] (gives (bodies a.middle me)) (a.gives goes))
      ∙ put_same (bodies a.middle) me (gives (bodies a.middle me)).body ∙ ap (λ (b : Body). (gives b).body) middle_is

-- A task passes in an event.
passed : (given : Given) (before after : runs.World) (me slot clock : ℕ) (got : List Letter) (body : Body) (task : Suspended)
    → ActsThenGives (machine_in given) before after me clock got (passes (machine_in given) body slot task) → WaitersAreCores given body
    → HasPassed before after me slot clock task
passed given before after me slot clock got body task a waiters =
    let e = passes (machine_in given) body slot task in
    let is = body_after given before after me clock got e a tt waiters in
    record {
      marks = a.marks;
      next = _;
      there = ap (λ (b : Body). b.tasks.slots slot) is ∙ put_same body.tasks.slots slot (Some _);
      named = refl;
      goes = refl;
      ready = (body.tasks.ready, ap (λ (b : Body). b.tasks.ready) is);
    }

-- ---- a core leaves

module _ (given : Given) (before : runs.World) (r : HasRun given (world_in before)) where
  abbrev w : World
  w = world_in before

  leave_releases : LeavesRelease given before
  leave_releases after me from clock slots scope master goes first there one = by master.waiter refl
    where
      served_as : (who : Waiter) → master.waiter ≡ Some who
          → serves (machine_in given) me (bodies w me) from (msg.Leave scope) ≡ left_with (machine_in given) (bodies w me) scope (release_of (Some who))
      served_as who waits =
          ap (core_left (machine_in given) (bodies w me) scope) there
          ∙ ap (λ (b : Bool). if b then left_with (machine_in given) (bodies w me) scope (release_of (released (Some master))) else None)
          (positive master.active one)
          ∙ ap (λ (b : Bool). left_with (machine_in given) (bodies w me) scope (release_of (if b then master.waiter else None))) (equal master.active 1 one)
          ∙ ap (λ (o : Option Waiter). left_with (machine_in given) (bodies w me) scope (release_of o)) waits

      event : (e : Outcome) → serves (machine_in given) me (bodies w me) from (msg.Leave scope) ≡ Some e
          → ActsThenGives (machine_in given) before after me clock (letter from (msg.Leave scope) ∷ []) e
      event e made = messages_serve (machine_in given) before after me clock slots (letter from (msg.Leave scope)) first.core.inbox e goes first.without.inbox
          made (λ body. refl)

      by : (who : Option Waiter) → master.waiter ≡ who → Releases before after me clock master
      by None e = absurd (last_leaves_release given r.parts.names w r.state me from scope master (stands given w r me from (msg.Leave scope) first) first
          there one e)
      by (Some waiter.Root) e = record {
        who = waiter.Root;
        waits = e;
        released =
            let made = event (over (bodies w me) scope) (served_as waiter.Root e) in
            record {
              marks = made.marks;
              halted = ap (λ (b : Body). b.stops.passed) (body_after given before after me clock _ (over (bodies w me) scope) made tt (r.all.waiters me));
            };
      }
      by (Some (waiter.Task slot)) e =
          let f : IsWaitedForBy (bodies w me) scope slot =
          subst (WaiterStands (bodies w me) scope) e ((r.parts.scopes.cores me).masters scope master there).waiter in
          let e_pass = passes (machine_in given) (with_leave (bodies w me) scope) slot f.task in
          let is : serves (machine_in given) me (bodies w me) from (msg.Leave scope) ≡ Some e_pass =
          served_as (waiter.Task slot) e
          ∙ ap (passed_by (machine_in given) (bodies w me) scope slot) f.there
          ∙ ap (λ (b : Bool). if b then Some e_pass else None) (ap (awaits_scope scope) f.waits ∙ scope_itself scope) in
          record {
            who = waiter.Task slot;
            waits = e;
            released = record {
              task = f.task;
              waited = f.there;
              passed = passed given before after me slot clock (letter from (msg.Leave scope) ∷ []) (with_leave (bodies w me) scope) f.task (event e_pass is)
                  (r.all.waiters me);
            };
          }

  -- ---- a task arrives

  module _ (me slot : ℕ) (task : Suspended) (scope : ScopeId) (outer : List ScopeId) (master : Master) (opened : task.opened ≡ scope ∷ outer)
      (last : left_of ((bodies w me).scopes.counts scope) 1 ≡ rest.Zero) (there : (bodies w me).scopes.masters scope ≡ Some master) (one : master.active ≡ 1)
    where
      abbrev body : Body
      body = without_ready (bodies w me)

      abbrev left : Body
      left = arrived body scope slot

      abbrev gone : Outcome
      gone = passes (machine_in given) (with_leave left scope) slot task

      first_same : (one other : ScopeId) (more others : List ScopeId) → one ∷ more ≡ other ∷ others → one ≡ other
      first_same one other more others e = cc

      can : ArrivalTells w r.state me slot task → can_arrive body scope ≡ true
      can a = subst (λ (x : ScopeId). can_arrive body x ≡ true) (first_same a.scope scope a.outer outer (sym a.opened ∙ opened)) a.can

      waited : left.scopes.masters scope ≡ Some (wait_for (waiter.Task slot) master)
      waited = put_scope_at body.scopes.masters scope (option_map (wait_for (waiter.Task slot)) (body.scopes.masters scope))
          ∙ ap (option_map (wait_for (waiter.Task slot))) there

      releases : released (left.scopes.masters scope) ≡ Some (waiter.Task slot)
      releases = ap released waited ∙ ap (λ (b : Bool). if b then Some (waiter.Task slot) else None) (equal master.active 1 one)

      arrives_is : ArrivalTells w r.state me slot task → arrives (machine_in given) body slot task task.opened ≡ gone
      arrives_is a =
          ap (arrives (machine_in given) body slot task) opened
          ∙ ap (λ (b : Bool). if b then arrives_with (machine_in given) left slot task scope (left_of (body.scopes.counts scope) 1) else dropped body slot)
          (can a)
          ∙ ap (arrives_with (machine_in given) left slot task scope) last
          ∙ ap (λ (o : Option Waiter). arrives_last (machine_in given) left slot task scope (release_of o)) releases

  arrival_passes : ArrivalsPass given before
  arrival_passes after me slot clock more slots scope outer master task goes first due opened last there one =
      let ran = tasks_run (machine_in given) before after me clock slot more slots task goes first.ready first.there in
      let a = ((told given w r me ran.here).scopes slot more task first).arrives due in
      let is = ap (acts (machine_in given) me (without_ready (bodies w me)) slot task) due
      ∙ arrives_is me slot task scope outer master opened last there one a in
      passed given before after me slot clock [] (with_leave (left me slot task scope outer master opened last there one) scope) task
      (subst (ActsThenGives (machine_in given) before after me clock []) is ran) (r.all.waiters me)

pub releases_at_once : laws.ReleasesAtOnce
releases_at_once given sound accepted short literals slot steps world low fit goes =
    leave_releases given world (has_run given sound accepted short literals slot steps world low fit goes)

pub arrivals_pass_at_once : laws.ArrivalsPassAtOnce
arrivals_pass_at_once given sound accepted short literals slot steps world low fit goes =
    arrival_passes given world (has_run given sound accepted short literals slot steps world low fit goes)
