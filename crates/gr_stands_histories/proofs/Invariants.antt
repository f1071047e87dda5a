-- What holds at the start and is kept by each step holds after all of them.
use Rattle.std.proofs.Common.{arith, ◌≡◌, ◌+◌, ◌≤◌, ◌<◌, ℕ, List, [], ◌∷◌, length, sym, ◌∙◌, ap, subst, refl, Some}
use Rattle.gr_lang.specs.States.{State, opening_state}
use Rattle.gr_lang.specs.Histories.{after}
use Rattle.gr_merge.specs.GlobalRuns.{fold_global}
use Rattle.gr_machine.specs.declared.journal.StampedMark.{StampedMark}
use Rattle.gr_machine.specs.Machines.{Machine}
use Rattle.gr_machine.specs.Histories.{Sent, history_from}
use Rattle.gr_machine.specs.Steppers.{stepper}
use Rattle.gr_machine.specs.GlobalRuns as runs
use Rattle.gr_machine.specs.GlobalRuns.{Step}
use Rattle.gr_machine.specs.Nets.{world_in}
use Rattle.gr_machine.proofs.Clocks.{some_same}
use Rattle.gr_stands.specs.Worlds.{Given, machine_in, World}
use Rattle.gr_stands.specs.Stands.{IsSound}
use Rattle.gr_stands_outcomes.specs.Marks.{sent_from}
use Rattle.gr_stands_steps.specs.Entries.{StandsAmongCores, StepStands}
use Rattle.gr_stands_steps.proofs.Steps.{steps_stand, steps_are_of_cores}
use Rattle.gr_stands_histories.specs.Running.{AllSlotsFit, LeadsOn, none_sent}
use Rattle.gr_stands_histories.proofs.Running.{joined, stays_on, first_then, openings_stand_among_cores}
use Rattle.gr_stands_made.proofs.Keeping.{pieces_keep}
use Rattle.gr_stands_histories.specs.Invariants.{IsInvariant, InvariantsHold}

module _ (given : Given) (most : ℕ) (Counted : ℕ → World → Type 0) (Holds : Sent → World → State → Type 0) (Between : ℕ → Sent → World → State → Type 0) (sound : IsSound given)
    (inv : IsInvariant given most Counted Holds Between) where
  abbrev machine : Machine
  machine = machine_in given

  -- Steps lead on, and the fact holds at their end, where some batches have gone off.
  record LeadsWith (sent : Sent) (w v : runs.World) (S : State) : Type 0 where
    on : LeadsOn given sent w v S
    gone : Sent
    holds : Holds gone (world_in v) on.next

  few : (n : ℕ) (one : Step) (steps : List Step) → n + length (one ∷ steps) ≤ most → (n < most) × (n + 1 + length steps ≤ most)
  few n one steps l = (omega (arith, l), omega (arith, l))

  lead_with : (steps : List Step) (n : ℕ) (sent : Sent) (w v : runs.World) (S : State) → n + length steps ≤ most
      → StandsAmongCores given (world_in w) S → Counted n (world_in w) → Holds sent (world_in w) S → AllSlotsFit given steps
      → fold_global (stepper machine) w steps ≡ Some v → LeadsWith sent w v S
  unfolding joined stays_on
  lead_with [] n sent w v S low st counted held fit h = record {
    on = stays_on given sound sent w v S st h;
    gone = sent;
    holds = subst (λ (x : runs.World). Holds sent (world_in x) S) (some_same h) held;
  }
  lead_with (one ∷ steps) n sent w v S low st counted held fit h = first_then given sound (LeadsWith sent w v S) one steps w v
      (λ m e k.
      let l = few n one steps low in
      let tells = inv.tells n sent (world_in w) S one.0 l.0 (steps_are_of_cores given w m one.0 one.1 e) st counted held in
      let first : StepStands given w m one.0 one.1.clock S sent = steps_stand given sent w m S one.0 one.1 sound st tells fit.0 e in
      let kept : Holds (sent_from sent one.0 first.marks) (world_in m) first.next =
      pieces_keep given (λ s x t. Counted n x × Holds s x t) Between Holds (inv.keeps n l.0) sent w m S one.0 one.1 sound st tells fit.0 e first (counted, held) in
      let more : LeadsWith (sent_from sent one.0 first.marks) m v first.next =
      lead_with steps (n + 1) (sent_from sent one.0 first.marks) m v first.next l.1 first.stands (inv.counts n sent w m S one.0 one.1 l.0 e st held counted) kept fit.1 k in
      record { on = joined given sound sent w m v S one.0 one.1.clock first more.on; gone = more.gone; holds = more.holds })
      h

pub invariants_hold : InvariantsHold
invariants_hold given most Counted Holds Between sound inv slot steps world low fit short h =
    let open_state : State = opening_state given.program given.setup.steps in
    let start = openings_stand_among_cores given slot sound low in
    let r : LeadsWith given most Counted Holds Between sound inv none_sent (runs.opening_world (machine_in given) slot) world open_state =
    lead_with given most Counted Holds Between sound inv steps 0 none_sent (runs.opening_world (machine_in given) slot) world open_state (omega (arith, short)) start (inv.begins slot low) (inv.opens slot low) fit h in
    record {
      state = r.on.next;
      leads = ap (λ (ms : List (ℕ × StampedMark)). after given.program given.setup.cores given.setup.steps open_state (history_from none_sent ms)) r.on.longer ∙ r.on.leads;
      stands = r.on.stands;
      sent = r.gone;
      holds = r.holds;
    }
