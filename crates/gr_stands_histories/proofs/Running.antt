-- Steps, one after another.
use Rattle.std.proofs.Common.{◌≡◌, ◌<◌, ◌==◌, ℕ, List, [], ◌∷◌, ◌++◌, sym, ◌∙◌, ap, subst, refl}
use Rattle.std.specs.Prelude.{Bool, true, false, if◌then◌else◌, Option, Some, None}
use Rattle.std.specs.Option.{option_and_then}
use Rattle.std.proofs.lemmas.List.{append-nil, append_assoc}
use Rattle.gr_lang.specs.States.{State, opening_state}
use Rattle.gr_lang.specs.Histories.{after}
use Rattle.gr_merge.specs.GlobalRuns.{goes_at, fold_global, of_core}
use Rattle.gr_net.specs.Sums.{Each}
use Rattle.gr_machine.specs.declared.journal.StampedMark.{StampedMark}
use Rattle.gr_machine.specs.Machines.{Machine}
use Rattle.gr_machine.specs.Openings.{opening_core, opening_body, first_tasks, first_scopes, no_tasks, no_scopes, unused}
use Rattle.gr_machine.specs.Histories.{Sent, history_from}
use Rattle.gr_machine.specs.Steppers.{kind_of, stepper, stamped}
use Rattle.gr_machine.specs.GlobalRuns as runs
use Rattle.gr_machine.specs.GlobalRuns.{Step}
use Rattle.gr_machine.specs.Nets.{world_in}
use Rattle.gr_machine.proofs.Clocks.{some_same}
use Rattle.gr_stands.specs.Worlds.{Given, machine_in}
use Rattle.gr_stands.specs.Stands.{IsSound}
use Rattle.gr_stands_opening.proofs.Opening.{openings_stand}
use Rattle.gr_stands_chains.proofs.Senders.{senders_open}
use Rattle.gr_stands_outcomes.specs.Marks.{entries_from, sent_from}
use Rattle.gr_stands_outcomes.proofs.Marks.{histories_go_on, entries_lead_on}
use Rattle.gr_stands_steps.specs.Entries.{StandsAmongCores, StepStands}
use Rattle.gr_stands_steps.proofs.Steps.{steps_stand}
use Rattle.gr_stands_histories.specs.Running.{AllSlotsFit, PartsTellOn, LeadsOn, none_sent}
use Rattle.gr_stands_histories.specs.Laws as laws

-- ---- steps

module _ (given : Given) (sound : IsSound given) where
  abbrev machine : Machine
  machine = machine_in given

  -- What the first step has led to, and the others from there.
  unfoldable pub joined : (sent : Sent) (w m v : runs.World) (S : State) (me clock : ℕ) (first : StepStands given w m me clock S sent)
      → LeadsOn given (sent_from sent me first.marks) m v first.next → LeadsOn given sent w v S
  joined sent w m v S me clock first more = record {
    marks = of_core me (stamped clock first.marks) ++ more.marks;
    longer = more.longer ∙ ap (λ (ms : List (ℕ × StampedMark)). ms ++ more.marks) first.longer ∙ append_assoc w.marks (of_core me (stamped clock first.marks)) more.marks;
    next = more.next;
    leads = ap (after given.program given.setup.cores given.setup.steps S) (histories_go_on sent me clock first.marks more.marks)
        ∙ entries_lead_on given S first.next (entries_from sent me first.marks) (history_from (sent_from sent me first.marks) more.marks) first.leads
        ∙ more.leads;
    stands = more.stands;
  }

  -- No step leads from a world to itself.
  unfoldable pub stays_on : (sent : Sent) (w v : runs.World) (S : State) → StandsAmongCores given (world_in w) S → Some w ≡ Some v → LeadsOn given sent w v S
  stays_on sent w v S st h = record {
    marks = [];
    longer = ap (λ (x : runs.World). x.marks) (sym (some_same h)) ∙ sym (append-nil w.marks);
    next = S;
    leads = refl;
    stands = subst (λ (x : runs.World). StandsAmongCores given (world_in x) S) (some_same h) st;
  }

  -- What holds of the first step, where it is made, and of the others after it.
  pub first_then : (Goal : Type 0) (one : Step) (steps : List Step) (w v : runs.World)
      → ((m : runs.World) → goes_at (stepper machine) (kind_of one.1.event) one.0 w one.1 ≡ Some m → fold_global (stepper machine) m steps ≡ Some v → Goal)
      → fold_global (stepper machine) w (one ∷ steps) ≡ Some v → Goal
  first_then Goal one steps w v more h = by (goes_at (stepper machine) (kind_of one.1.event) one.0 w one.1) refl h
    where
      by : (o : Option runs.World) → goes_at (stepper machine) (kind_of one.1.event) one.0 w one.1 ≡ o → option_and_then (λ next. fold_global (stepper machine) next steps) o ≡ Some v → Goal
      by None e k = absurd (cc)
      by (Some m) e k = more m e k

  lead_on : (steps : List Step) (sent : Sent) (w v : runs.World) (S : State) → StandsAmongCores given (world_in w) S → AllSlotsFit given steps → PartsTellOn given sent w S steps
      → fold_global (stepper machine) w steps ≡ Some v → LeadsOn given sent w v S
  lead_on [] sent w v S st fit tell h = stays_on sent w v S st h
  lead_on (one ∷ steps) sent w v S st fit tell h = first_then (LeadsOn given sent w v S) one steps w v
      (λ m e k.
      let told = tell m e in
      let first : StepStands given w m one.0 one.1.clock S sent = steps_stand given sent w m S one.0 one.1 sound st told.0 fit.0 e in
      joined sent w m v S one.0 one.1.clock first (lead_on steps (sent_from sent one.0 first.marks) m v first.next first.stands fit.1 (told.1 first) k))
      h

pub steps_lead_on : laws.StepsLeadOn
steps_lead_on given sent w v S steps sound st fit tell h = lead_on given sound steps sent w v S st fit tell h

-- ---- the start

none_wait : (given : Given) (slot c : ℕ) → Each (λ core. core < given.setup.cores) (opening_core (machine_in given) slot c).body.steals.waiting
none_wait given slot c = by (c == 0)
  where
    by : (b : Bool) → Each (λ core. core < given.setup.cores)
        (if b then unused (opening_body (machine_in given) 0 (first_tasks (machine_in given) slot) first_scopes) else unused (opening_body (machine_in given) c no_tasks no_scopes)).body.steals.waiting
    by true = tt
    by false = tt

pub openings_stand_among_cores : laws.OpeningsStandAmongCores
openings_stand_among_cores given slot sound low = record {
  stands = openings_stand given slot sound low;
  senders = senders_open given slot;
  waiters = none_wait given slot;
}

pub runs_stand : laws.RunsStand
runs_stand given slot steps world sound low fit tell h =
    let start = openings_stand_among_cores given slot sound low in
    let r : LeadsOn given none_sent (runs.opening_world (machine_in given) slot) world (opening_state given.program given.setup.steps) =
    lead_on given sound steps none_sent (runs.opening_world (machine_in given) slot) world (opening_state given.program given.setup.steps) start fit tell h in
    record {
      state = r.next;
      leads = ap (λ (ms : List (ℕ × StampedMark)). after given.program given.setup.cores given.setup.steps (opening_state given.program given.setup.steps) (history_from none_sent ms)) r.longer ∙ r.leads;
      stands = r.stands;
    }
