-- A loop over nothing: it is opened and passed at once.
use Rattle.std.proofs.Common.{◌≡◌, ◌≢◌, ◌⊎◌, ℕ, zero, suc, ◌+◌, ◌<◌, Bool, true, false, not, nat_lt, if◌then◌else◌, List, [], ◌∷◌, ◌++◌, length, inl, inr, sym, ◌∙◌, ap, subst, refl, arith, Option, Some, None}
use Rattle.std.specs.Option.{option_and_then}
use Rattle.std.specs.FinMap as fin
use Rattle.gr_lang.specs.declared.action.Action.TheVariants as action
use Rattle.gr_lang.specs.declared.action.Entry.{Entry}
use Rattle.gr_lang.specs.declared.action.Entry.TheVariants as entry
use Rattle.gr_lang.specs.declared.action.TaskId.{TaskId}
use Rattle.gr_lang.specs.Effects.{nothing}
use Rattle.gr_lang.specs.Next.{Running, next, go_on}
use Rattle.gr_lang.specs.States.{going, at_loop, Task, State, left}
use Rattle.gr_lang.specs.Steps.{step, set_task, open_scope}
use Rattle.gr_lang.specs.Steps as steps
use Rattle.gr_lang.specs.Histories.{after}
use Rattle.gr_view.specs.Places.{put}
use Rattle.gr_machine.specs.Slots as slots
use Rattle.gr_machine.specs.States.{Suspended, Body}
use Rattle.gr_machine.specs.Outcomes.{Outcome}
use Rattle.gr_machine.specs.ScopeRuns.{loops_over_nothing}
use Rattle.gr_machine.specs.Runs.{without_ready}
use Rattle.gr_stands.specs.Worlds.{Given, machine_in, World, bodies}
use Rattle.gr_stands.specs.Censuses.{going_on}
use Rattle.gr_stands.specs.Calls.{StandsAt, is_asking, times}
use Rattle.gr_stands.specs.Stands.{Stands}
use Rattle.gr_stands.proofs.Places.{times_last, times_before, cases_id, get_same, get_other}
use Rattle.gr_stands_calls.specs.Acting.{IsFirst}
use Rattle.gr_stands_calls.proofs.Common.{same_memory, first_goes, rest_here, rest_other, first_stands, plain_goes}
use Rattle.gr_stands_chains.specs.Chains.{ActsWithEntries}
use Rattle.gr_stands_births.proofs.Opened.{range_of, loop_leads}
use Rattle.gr_stands_changes.specs.Changes.{ChangesSlot}
use Rattle.gr_stands_changes.proofs.Slots.{slot_changes_are_kept}
use Rattle.gr_stands_passes.specs.Passing.{CanPass}
use Rattle.gr_stands_passes.proofs.Passes.{pass_leads}

-- Written twice under one name.
twice : (S : State) (id : TaskId) (a b : Task) (q : TaskId) → fin.get (fin.insert (fin.insert S.tasks id a) id b) q ≡ fin.get (fin.insert S.tasks id b) q
twice S id a b q = elim (cases_id q id) [
  | inl e ↦ ap (fin.get (fin.insert (fin.insert S.tasks id a) id b)) e ∙ get_same (fin.insert S.tasks id a) id b ∙ sym (get_same S.tasks id b) ∙ sym (ap (fin.get (fin.insert S.tasks id b)) e)
  | inr e ↦ get_other (fin.insert S.tasks id a) id q b e ∙ get_other S.tasks id q a e ∙ sym (get_other S.tasks id q b e)
]

module _ (given : Given) (w : World) (S : State) (c k : ℕ) (more : List ℕ) (s : Suspended) (st : Stands given w S) (here : c < given.setup.cores) (first : IsFirst w c k more s) where
  abbrev stands : StandsAt S s
  stands = first_stands given w S c k more s st first

  abbrev opened : ℕ → ℕ → ℕ → List ℕ → State
  opened lo hi target args = open_scope S s.id stands.plain (record stands.plain { mode = at_loop }) (Some (range_of lo hi target args))

  abbrev waiting : Task
  waiting = record (record stands.plain { mode = at_loop }) { opened = length S.scopes ∷ stands.plain.opened }

  abbrev went : Task
  went = record (steps.goes_on given.program given.setup.steps waiting nothing) { opened = stands.plain.opened }

  abbrev u : Suspended
  u = slots.goes_on (machine_in given) s nothing

  pub over_nothing : (lo hi grain target : ℕ) (args : List ℕ) → s.action ≡ action.Loop lo hi grain target args → left (opened lo hi target args) (length S.scopes) ≡ false
      → ActsWithEntries given w S c [] (Some (loops_over_nothing (machine_in given) (without_ready (bodies w c)) k s lo hi grain target args))
  over_nothing lo hi grain target args due empty =
      let b = without_ready (bodies w c) in
      let waits = first_goes given w S c k more s st first in
      let mode : stands.plain.mode ≡ going = plain_goes S s stands waits in
      let U = opened lo hi target args in
      let T : State = set_task U s.id went in
      let e : Outcome = loops_over_nothing (machine_in given) b k s lo hi grain target args in
      let can : CanPass U waiting = record { scope = length S.scopes; outer = stands.plain.opened; opened = refl; finished = empty } in
      let one = loop_leads given.program given.setup.cores given.setup.steps S s.id stands.plain lo hi grain target args stands.there mode (stands.action ∙ due) in
      let two = pass_leads given.program given.setup.cores given.setup.steps U s.id waiting (get_same S.tasks s.id waiting) (inl refl) can in
      record {
        outcome = e;
        acts = refl;
        sends = tt;
        entries = entry.Loop s.id lo hi grain target args ∷ entry.Pass s.id ∷ [];
        marks = refl;
        next = T;
        leads = ap (option_and_then (λ (x : State). after given.program given.setup.cores given.setup.steps x (entry.Pass s.id ∷ []))) one
            ∙ ap (option_and_then (λ (x : State). Some x)) two;
        keeps = slot_changes_are_kept given w S T c [] e k s u st here (record {
          there = first.there;
          slots = refl;
          ready = omega (arith, times_last k b.tasks.ready, rest_here given w S c k more s st first);
          others = λ l ne. times_before l k b.tasks.ready ne ∙ rest_other w c k more s first l ne;
          number = refl;
          work = refl;
          words = refl;
          named = refl;
          counted = refl;
          was_not_asking = ap is_asking waits;
          not_asking = refl;
          letters = tt;
          sends = tt;
          memory = same_memory S.objects;
          stands = λ z. record {
            plain = went;
            there = get_same U.tasks s.id went;
            action = ap (λ (r : Running). (next given.program given.setup.steps (go_on r nothing)).0) stands.running;
            running = ap (λ (r : Running). (next given.program given.setup.steps (go_on r nothing)).1) stands.running;
            mode = refl;
          };
          plain = inr (record { old = stands.plain; new = went; there = stands.there; lives = ap going_on mode; lives_on = refl; tasks = twice S s.id waiting went });
        });
      }
