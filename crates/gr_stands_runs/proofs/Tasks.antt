-- A ready task acts.
use Rattle.std.proofs.Common.{◌≡◌, ◌≢◌, ◌⊎◌, ℕ, zero, suc, ◌+◌, ◌<◌, ◌&&◌, Bool, true, false, nat_lt, if◌then◌else◌, List, [], ◌∷◌, inl, inr, sym, ◌∙◌, ap, subst, refl, arith, Option, Some, None}
use Rattle.std.proofs.lemmas.Bool.{and_parts}
use Rattle.std.proofs.lemmas.Bool.Decides.{nat_tests}
use Rattle.std.specs.FinMap as fin
use Rattle.gr_lang.specs.declared.action.Action.{Action}
use Rattle.gr_lang.specs.declared.action.Action.TheVariants as action
use Rattle.gr_lang.specs.declared.action.How.{How}
use Rattle.gr_lang.specs.States.{Task, State, going}
use Rattle.gr_lang.specs.Steps.{has_core}
use Rattle.gr_msg.specs.declared.message.ScopeId.{ScopeId}
use Rattle.gr_event.specs.Counts.{active_count, enrolled, enrol_answer, left_of}
use Rattle.gr_event.specs.declared.counts.LocalCount.{LocalCount}
use Rattle.gr_event.specs.declared.counts.LocalCount.TheVariants as count
use Rattle.gr_event.specs.declared.counts.LocalLeft.{LocalLeft}
use Rattle.gr_event.specs.declared.counts.LocalLeft.TheVariants as rest
use Rattle.gr_event.specs.Masters.{released, release_of}
use Rattle.gr_event.specs.declared.masters.Release.{Release}
use Rattle.gr_event.specs.declared.masters.Release.TheVariants as release
use Rattle.gr_machine.specs.Machines.{Machine, is_core}
use Rattle.gr_net.specs.Sums.{Each}
use Rattle.gr_view.specs.Places.{put}
use Rattle.gr_machine.specs.declared.waits.Waits.{Waits}
use Rattle.gr_machine.specs.declared.waits.Waits.TheVariants as wait
use Rattle.gr_machine.specs.States.{Suspended, Tasks, Body}
use Rattle.gr_machine.specs.Outcomes.{Outcome}
use Rattle.gr_machine.specs.Slots.{dropped, innermost}
use Rattle.gr_machine.specs.Spawns.{trapped, planted, with_count, asks_enrolment, waits_enrolment, enrolled_as, enrols, can_enrol, spawns_under}
use Rattle.gr_lang.specs.declared.action.TrapKind.TheVariants as trap
use Rattle.gr_machine.specs.ScopeRuns.{own_scope, finishes_in, loops_in, loops_over, loops_over_nothing, with_leave, arrived, arrives, arrives_early, arrives_last, arrives_with, passes}
use Rattle.gr_machine.specs.Runs.{acts, without_ready}
use Rattle.gr_stands.specs.Worlds.{Given, machine_in, World, bodies}
use Rattle.gr_stands.specs.Actions.{ActionFits}
use Rattle.gr_stands.specs.Calls.{StandsAt, mode_of, scope_mode, is_told, is_asking, times}
use Rattle.gr_stands.specs.Stands.{IsSound, Stands}
use Rattle.gr_stands_calls.specs.Acting.{IsFirst, ActsQuietly, ActsWithEntry}
use Rattle.gr_stands_calls.specs.Rests.{WaitsElsewhere}
use Rattle.gr_stands_calls.proofs.Ended.{tasks_end, tasks_are_trapped}
use Rattle.gr_stands_calls.proofs.Rests.{waits_are_kept}
use Rattle.gr_stands_calls.proofs.Common.{first_goes, first_stands, rest_here, rest_other}
use Rattle.gr_stands_chains.specs.Chains.{ActsWithEntries}
use Rattle.gr_stands_chains.proofs.Follows.{quiet_outcomes_act, entries_act}
use Rattle.gr_stands_births.specs.Turning.{IsTurn}
use Rattle.gr_stands_births.proofs.Turns.{first_turn}
use Rattle.gr_stands_births.proofs.Planted.{spawns_are_made}
use Rattle.gr_stands_births.proofs.Opened.{finishes_open, loops_open}
use Rattle.gr_stands_passes.specs.Passing.{CanPass, IsPlaced}
use Rattle.gr_stands_passes.proofs.Passes.{passes_act, spawns_are_trapped}
use Rattle.gr_stands_runs.specs.Telling.{VectorsStand, ArrivalTells, ScopesTell}
use Rattle.gr_stands_runs.specs.Laws as laws
use Rattle.gr_stands_runs.proofs.Calls.{calls_run}
use Rattle.gr_stands_runs.proofs.Nothing.{over_nothing}

lower : (a b : ℕ) → nat_lt a b ≡ true → a < b
lower a b e = grind (arith, nat_tests, e)

module _ (given : Given) (w : World) (S : State) (c k : ℕ) (more : List ℕ) (s : Suspended) (sound : IsSound given) (st : Stands given w S) (here : c < given.setup.cores)
    (first : IsFirst w c k more s) (vectors : VectorsStand given w) (tells : ScopesTell given w S c k s) where
  abbrev machine : Machine
  machine = machine_in given

  abbrev body : Body
  body = without_ready (bodies w c)

  abbrev Made : Outcome → Type 0
  Made e = ActsWithEntries given w S c [] (Some e)

  abbrev done : Outcome
  done = acts machine c body k s s.action

  of_entry : (e : Outcome) → e ≡ done → ActsWithEntry given w S c [] (Some e) → Made done
  of_entry e is row = subst Made is (entries_act given w S c [] (Some e) row)

  -- The task waits for something.
  of_wait : (e : Outcome) (reason : Waits) → e ≡ done → WaitsElsewhere (bodies w c) k s reason e → Each (λ send. send.to < given.setup.cores) e.sends → e.marks ≡ [] → Made done
  of_wait e reason is rests sends marks = subst Made is (quiet_outcomes_act given w S c [] (Some e) (record {
    outcome = e;
    acts = refl;
    sends = sends;
    marks = marks;
    keeps = waits_are_kept given w S c k more s e reason st here first rests;
  }))

  -- ---- a spawn

  abbrev scope : ScopeId
  scope = innermost s

  turn : (local : Option LocalCount) → IsTurn w c k s (with_count body scope local)
  turn local =
      let t = first_turn given w S c k more s st first in
      record {
        there = t.there;
        not_told = t.not_told;
        not_asking = t.not_asking;
        goes = t.goes;
        slots = t.slots;
        next = t.next;
        not_ready = t.not_ready;
        ready = t.ready;
        work = t.work;
        words = t.words;
      }

  by_count : (way : How) (target : ℕ) (args : List ℕ) → s.action ≡ action.Spawn way target args → ActionFits machine s.action → has_core given.setup.cores way ≡ true
      → (local : Option LocalCount) → enrols machine c body k s way target args local ≡ done → Made done
  by_count way target args due fits core None is =
      of_wait (asks_enrolment (with_count body scope (enrolled None k)) k s scope) (wait.Enrolment scope) is
      (record { tasks = refl; work = refl; words = refl; sends = (tt, tt); not_told = refl; not_going = refl; not_asking = refl; mode = refl })
      (lower scope.core given.setup.cores (and_parts (is_core machine scope.core) _ tells.enrols).0, tt) refl
  by_count way target args due fits core (Some (count.Waits others)) is =
      of_wait (waits_enrolment (with_count body scope (enrolled (Some (count.Waits others)) k)) k s scope) (wait.Enrolment scope) is
      (record { tasks = refl; work = refl; words = refl; sends = tt; not_told = refl; not_going = refl; not_asking = refl; mode = refl }) tt refl
  by_count way target args due fits core (Some (count.Active n)) is =
      of_entry (planted machine c (with_count body scope (enrolled (Some (count.Active n)) k)) k s way target args) is
      (spawns_are_made given w S c k s (with_count body scope (enrolled (Some (count.Active n)) k)) way target args st here (turn (enrolled (Some (count.Active n)) k)) due fits core)

  spawn : (way : How) (target : ℕ) (args : List ℕ) → s.action ≡ action.Spawn way target args → ActionFits machine s.action → (b : Bool) → has_core given.setup.cores way ≡ b → Made done
  spawn way target args due fits true core =
      by_count way target args due fits core (body.scopes.counts scope)
      (sym (ap (acts machine c body k s) due
      ∙ ap (λ (b : Bool). if b then spawns_under machine c body k s way target args (body.scopes.counts scope) else trapped body k s trap.Core) core
      ∙ ap (λ (b : Bool). if b then enrols machine c body k s way target args (body.scopes.counts scope) else dropped body k) tells.enrols))
  spawn way target args due fits false core = entries_act given w S c [] (Some done) (spawns_are_trapped given w S c k more s way target args st here first due core)

  -- ---- scopes

  finish : s.action ≡ action.Finish → Made done
  finish due = of_entry (finishes_in machine body k s (own_scope c body))
      (sym (ap (acts machine c body k s) due ∙ ap (λ (b : Bool). if b then finishes_in machine body k s (own_scope c body) else dropped body k) tells.opens))
      (finishes_open given w S c k s body (own_scope c body) st here (first_turn given w S c k more s st first) due)

  loop : (lo hi grain target : ℕ) (args : List ℕ) → s.action ≡ action.Loop lo hi grain target args → (b : Bool) → nat_lt lo hi ≡ b → Made done
  loop lo hi grain target args due true some =
      of_entry (loops_in c body k s lo hi grain target args (own_scope c body))
      (sym (ap (acts machine c body k s) due
      ∙ ap (λ (b : Bool). if b then loops_over c body k s lo hi grain target args else loops_over_nothing machine body k s lo hi grain target args) some
      ∙ ap (λ (b : Bool). if b then loops_in c body k s lo hi grain target args (own_scope c body) else dropped body k) tells.opens))
      (loops_open given w S c k s body (own_scope c body) lo hi grain target args st here (first_turn given w S c k more s st first) due)
  loop lo hi grain target args due false none =
      subst Made
      (sym (ap (acts machine c body k s) due
      ∙ ap (λ (b : Bool). if b then loops_over c body k s lo hi grain target args else loops_over_nothing machine body k s lo hi grain target args) none))
      (over_nothing given w S c k more s st here first lo hi grain target args due
      (tells.nothing lo hi grain target args (first_stands given w S c k more s st first).plain due none (first_stands given w S c k more s st first).there))

  -- ---- the end of a finish

  early : (inner : ScopeId) (b : Body) → s.action ≡ action.Arrive → arrives_early b k s inner ≡ done → b.tasks ≡ body.tasks → b.work ≡ body.work → b.words ≡ body.words → Made done
  early inner b due is tasks work words = of_wait (arrives_early b k s inner) (wait.Scope inner) is
      (record {
        tasks = ap (λ (t : Tasks). record t { slots = put t.slots k (Some (record s { waits = wait.Scope inner })) }) tasks;
        work = work;
        words = words;
        sends = tt;
        not_told = refl;
        not_going = refl;
        not_asking = refl;
        mode = ap scope_mode due;
      }) tt refl

  arrive : s.action ≡ action.Arrive → Made done
  arrive due = by_left (left_of (body.scopes.counts a.scope) 1) refl
    where
      a : ArrivalTells w S c k s
      a = tells.arrives due

      with_left : arrives_with machine (arrived body a.scope k) k s a.scope (left_of (body.scopes.counts a.scope) 1) ≡ done
      with_left = sym (ap (acts machine c body k s) due ∙ ap (arrives machine body k s) a.opened
          ∙ ap (λ (b : Bool). if b then arrives_with machine (arrived body a.scope k) k s a.scope (left_of (body.scopes.counts a.scope) 1) else dropped body k) a.can)

      by_release : (r : Release) → release_of (released ((arrived body a.scope k).scopes.masters a.scope)) ≡ r → left_of (body.scopes.counts a.scope) 1 ≡ rest.Zero
          → arrives_last machine (arrived body a.scope k) k s a.scope r ≡ done → Made done
      by_release release.Held q last is = early a.scope (with_leave (arrived body a.scope k) a.scope) due is refl refl refl
      by_release (release.Released who) q last is =
          let t = first_turn given w S c k more s st first in
          let b = with_leave (arrived body a.scope k) a.scope in
          let placed : IsPlaced w c k s b = record {
            there = t.there;
            not_told = t.not_told;
            not_asking = t.not_asking;
            slots = t.slots;
            next = t.next;
            not_ready = t.not_ready;
            ready = t.ready;
            work = t.work;
            words = t.words;
          } in
          of_entry (passes machine b k s) is
          (passes_act given w S c k [] s b st here placed tt (inr (t.goes, due)) (λ plain there. a.passes who plain last q there))

      by_left : (l : LocalLeft) → left_of (body.scopes.counts a.scope) 1 ≡ l → Made done
      by_left rest.More q = early a.scope (arrived body a.scope k) due (sym (ap (arrives_with machine (arrived body a.scope k) k s a.scope) q) ∙ with_left) refl refl refl
      by_left rest.Zero q = by_release (release_of (released ((arrived body a.scope k).scopes.masters a.scope))) refl q
          (sym (ap (arrives_with machine (arrived body a.scope k) k s a.scope) q) ∙ with_left)

  -- ---- any action

  any : (x : Action) → s.action ≡ x → ActionFits machine s.action → ActionFits machine x → Made done
  any (action.Call call) due fits has = quiet_outcomes_act given w S c [] (Some done) (calls_run given w S c k more s call sound st here first vectors due has)
  any (action.Spawn way target args) due fits has = spawn way target args due fits (has_core given.setup.cores way) refl
  any action.Finish due fits has = finish due
  any action.Arrive due fits has = arrive due
  any (action.Loop lo hi grain target args) due fits has = loop lo hi grain target args due (nat_lt lo hi) refl
  any action.End due fits has = entries_act given w S c [] (Some done) (tasks_end given w S c k more s sound st here first due)
  any (action.Trap kind) due fits has = entries_act given w S c [] (Some done) (tasks_are_trapped given w S c k more s kind sound st here first due)

pub tasks_run : laws.TasksRun
tasks_run given w S c k more s sound st here first vectors tells fits = any given w S c k more s sound st here first vectors tells s.action refl fits fits
