-- What a step of the machine does to its world: a core acts, or messages move. And facts of all worlds of a run.
use Rattle.std.proofs.Common.{◌≡◌, ◌<◌, ◌⊎◌, ℕ, suc, ◌+◌, List, [], ◌∷◌, length, refl, sym, ap, ◌∙◌, subst, arith, inl, inr}
use Rattle.std.specs.Prelude.{Option, Some, None, if◌then◌else◌, is_none}
use Rattle.std.specs.Option.{option_map, option_and_then}
use Rattle.gr_merge.specs.Machines.{inner, quiet, inner_step}
use Rattle.gr_merge.specs.GlobalRuns.{goes_at, world_with, fold_global}
use Rattle.gr_msg.specs.declared.message.Msg.{Msg}
use Rattle.gr_net.specs.Worlds as net
use Rattle.gr_net.proofs.Views.{put_seen}
use Rattle.gr_machine.specs.declared.event.Event.{Event}
use Rattle.gr_machine.specs.declared.event.Event.TheVariants as event
use Rattle.gr_machine.specs.declared.journal.Stamped.{Stamped}
use Rattle.gr_machine.specs.Machines.{Machine}
use Rattle.gr_machine.specs.States.{Body, Core}
use Rattle.gr_machine.specs.Events.{Packet, Transition, happens, ticked, slot_of, are_free, slots_needed, steps_to}
use Rattle.gr_machine.specs.Steppers.{CountedCore, entry_step, went_on, stepper, kind_of}
use Rattle.gr_machine.specs.Steppers as steppers
use Rattle.gr_machine.specs.GlobalRuns as runs
use Rattle.gr_machine.specs.GlobalRuns.{Step, global_run, opening_world}
use Rattle.gr_machine.specs.Nets.{core_in, world_in}
use Rattle.gr_machine.proofs.Clocks.{some_same, some_then, entry_made}
use Rattle.gr_stands.specs.Worlds.{World, Moves}
use Rattle.gr_stands.proofs.Events.{found, ships_move, takes_move}
use Rattle.gr_bounds.specs.Shares.{Steps}
use Rattle.gr_bounds.proofs.Events.{IsInner}

abbrev net_of : (ℕ → ℕ → List Packet) → (ℕ → net.Core Body Msg) → World
net_of transit cores = record { cores = cores; transit = transit }

-- A core acts: it is one that there is, and it comes to what its event makes of it.
pub record IsActing (machine : Machine) (before after : runs.World) (me : ℕ) (entry : Stamped) : Type 0 where
  pub here : me < machine.setup.cores
  pub inner : IsInner entry.event
  pub world : world_in after ≡ net.put_core (world_in before) me
      (core_in (happens machine me (ticked (before.states me).core (before.states me).core.clock) (slot_of entry.slots) entry.event).core)

mapped_to : {X Y : Type 0} (f : X → Y) (o : Option X) (y : Y) → option_map f o ≡ Some y → (x : X) × (o ≡ Some x) × (f x ≡ y)
mapped_to f None y h = absurd (cc)
mapped_to f (Some x) y h = (x, refl, some_same h)

quiet_to : (o : Option steppers.Went) (x : steppers.Went) → quiet o ≡ Some x → o ≡ Some x
quiet_to None x h = absurd (cc)
quiet_to (Some went) x h = some_then (is_none went.packet) (Some went) x h

module _ (machine : Machine) (before after : runs.World) (me clock : ℕ) (slots : List ℕ) (what : Event) where
  abbrev entry : Stamped
  entry = record { clock = clock; event = what; slots = slots }

  abbrev core : Core
  core = (before.states me).core

  abbrev made : Transition
  made = happens machine me (ticked core core.clock) (slot_of slots) what

  acting : IsInner what → steps_to machine me core what slots None ≡ (if are_free core.body (slots_needed machine core what) slots then Some made else None)
      → goes_at (stepper machine) inner me before entry ≡ Some after → IsActing machine before after me entry
  acting i shape h =
      let m = mapped_to (world_with before me before.transit) (inner_step (stepper machine) me (before.states me) entry) after h in
      let e = quiet_to (entry_step machine me (before.states me) entry None) m.0 m.1 in
      let c = entry_made machine me (before.states me) entry None m.0 e in
      let is : made ≡ c.after = some_same (some_then (are_free core.body (slots_needed machine core what) slots) (Some made) c.after (sym shape ∙ c.steps)) in
      let made_went : steppers.Went = went_on machine (before.states me) what made in
      let went : made_went ≡ m.0 = ap (went_on machine (before.states me) what) is ∙ c.same in
      let whole : world_with before me before.transit made_went ≡ after = ap (world_with before me before.transit) went ∙ m.2 in
      record {
        here = (found machine me (before.states me) entry None m.0 e).here;
        inner = i;
        world = ap world_in (sym whole) ∙ ap (net_of before.transit) (put_seen (λ (one : CountedCore). core_in one.core) before.states me made_went.state);
      }

pub stepped : (machine : Machine) (before after : runs.World) (me clock : ℕ) (slots : List ℕ) (what : Event)
    → goes_at (stepper machine) (kind_of what) me before (record { clock = clock; event = what; slots = slots }) ≡ Some after
    → IsActing machine before after me (record { clock = clock; event = what; slots = slots }) ⊎ Moves machine.setup.cores (world_in before) (world_in after)
stepped machine before after me clock slots event.Serve h = inl (acting machine before after me clock slots event.Serve tt refl h)
stepped machine before after me clock slots event.Run h = inl (acting machine before after me clock slots event.Run tt refl h)
stepped machine before after me clock slots (event.Close object) h = inl (acting machine before after me clock slots (event.Close object) tt refl h)
stepped machine before after me clock slots (event.Steal victim) h = inl (acting machine before after me clock slots (event.Steal victim) tt refl h)
stepped machine before after me clock slots (event.Ship dest) h = inr (ships_move machine before after me dest clock slots h)
stepped machine before after me clock slots (event.Take from) h = inr (takes_move machine before after me from clock slots h)

-- What each step keeps, with one more, holds at the end of a run.
module _ (machine : Machine) (Fact : ℕ → runs.World → Type 0)
    (keeps : (before after : runs.World) (me : ℕ) (entry : Stamped) (k : ℕ) → Steps machine before after me entry → Fact k before → Fact (k + 1) after) where
  plus_one : (a b : ℕ) → (a + 1) + b ≡ a + suc b
  plus_one a b = omega arith

  plus_zero : (k : ℕ) → k ≡ k + 0
  plus_zero k = omega arith

  abbrev KeptBy : List Step → runs.World → Type 0
  KeptBy steps end = (k : ℕ) (world : runs.World) → fold_global (stepper machine) world steps ≡ Some end → Fact k world → Fact (k + length steps) end

  rest_kept : (step : Step) (steps : List Step) (k : ℕ) (world end : runs.World) (next : Option runs.World) → KeptBy steps end
      → goes_at (stepper machine) (kind_of step.1.event) step.0 world step.1 ≡ next → option_and_then (λ (after : runs.World). fold_global (stepper machine) after steps) next ≡ Some end
      → Fact k world → Fact (k + length (step ∷ steps)) end
  rest_kept step steps k world end None rest e h fact = absurd (cc)
  rest_kept step steps k world end (Some after) rest e h fact =
      subst (λ (j : ℕ). Fact j end) (plus_one k (length steps)) (rest (k + 1) after h (keeps world after step.0 step.1 k e fact))

  all_kept : (steps : List Step) (end : runs.World) → KeptBy steps end
  all_kept [] end k world h fact = subst (λ (w : runs.World). Fact (k + 0) w) (some_same h) (subst (λ (j : ℕ). Fact j world) (plus_zero k) fact)
  all_kept (step ∷ steps) end k world h fact =
      rest_kept step steps k world end (goes_at (stepper machine) (kind_of step.1.event) step.0 world step.1) (all_kept steps end) refl h fact

  pub run_keeps : (slot : ℕ) (steps : List Step) (k : ℕ) (end : runs.World) → global_run machine slot steps ≡ Some end → Fact k (opening_world machine slot) → Fact (k + length steps) end
  run_keeps slot steps k end h fact = all_kept steps end k (opening_world machine slot) h fact
