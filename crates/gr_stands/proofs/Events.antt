-- A Ship and a Take of the machine move its world; a step is made at a core that there is.
use Rattle.std.proofs.Common.{◌≡◌, ◌<◌, ◌==◌, ◌&&◌, ◌||◌, ℕ, not, max, inl, inr, List, [], ◌∷◌, take, sym, ◌∙◌, ap, subst, refl, arith}
use Rattle.std.specs.Prelude.{Bool, true, false, Option, Some, None, if◌then◌else◌, nat_lt, is_none}
use Rattle.std.specs.Option.{option_and_then, option_map}
use Rattle.std.proofs.lemmas.Bool.Decides.{nat_tests}
use Rattle.gr_merge.specs.Machines.{Went, takes, ships, quiet, shipping, with_first, inner_step, take_step, ship_step}
use Rattle.gr_merge.specs.GlobalRuns.{goes_at, put_pair, world_with}
use Rattle.gr_machine.specs.declared.event.Event.{Event}
use Rattle.gr_machine.specs.declared.event.Event.TheVariants as event
use Rattle.gr_machine.specs.declared.journal.Stamped.{Stamped}
use Rattle.gr_machine.specs.Machines.{Machine, is_core}
use Rattle.gr_machine.specs.States.{Core}
use Rattle.gr_machine.specs.Enabled.{enabled, can, is_other, is_halted}
use Rattle.gr_machine.specs.Events.{Packet, Transition, steps_to, core_step}
use Rattle.gr_machine.specs.Steppers.{CountedCore, entry_step, at_clock, stepper}
use Rattle.gr_machine.specs.Steppers as steppers
use Rattle.gr_machine.specs.Nets.{world_in}
use Rattle.gr_machine.proofs.Clocks.{some_then}
use Rattle.gr_machine.proofs.Nets.{ships_are, takes_are}
use Rattle.gr_stands.specs.Worlds.{Ships, Takes, Moves}
use Rattle.gr_stands.specs.Laws as laws

-- ---- tests

less : (a b : ℕ) → nat_lt a b ≡ true → a < b
less a b e = grind (arith, nat_tests, e)

holds : {X : Type 0} (b : Bool) (o : Option X) (x : X) → (if b then o else None) ≡ Some x → b ≡ true
holds true o x h = refl
holds false o x h = absurd (cc)

both_hold : (a b : Bool) → (a && b) ≡ true → (a ≡ true) × (b ≡ true)
both_hold true true e = (refl, refl)
both_hold true false e = absurd (cc)
both_hold false b e = absurd (cc)

-- ---- what an entry has found

-- Its core is one that there is, and the event was enabled.
pub record Found (machine : Machine) (me : ℕ) (core : Core) (what : Event) : Type 0 where
  pub here : me < machine.setup.cores
  pub can : can machine me core what ≡ true

pub found : (machine : Machine) (me : ℕ) (before : CountedCore) (entry : Stamped) (taken : Option Packet) (went : steppers.Went)
    → entry_step machine me before entry taken ≡ Some went → Found machine me before.core entry.event
found machine me before entry taken went h = record {
  here = less me machine.setup.cores (holds (is_core machine me) (option_and_then (at_clock machine before entry) (core_step machine me before.core entry.event entry.slots taken)) went h);
  can = of_step (core_step machine me before.core entry.event entry.slots taken) refl
      (some_then (is_core machine me) (option_and_then (at_clock machine before entry) (core_step machine me before.core entry.event entry.slots taken)) went h);
}
  where
    of_step : (step : Option Transition) → core_step machine me before.core entry.event entry.slots taken ≡ step
        → option_and_then (at_clock machine before entry) step ≡ Some went → can machine me before.core entry.event ≡ true
    of_step None s k = absurd (cc)
    of_step (Some after) s k =
        (both_hold (not (is_halted before.core) && nat_lt before.core.clock machine.setup.events) (can machine me before.core entry.event)
        (holds (enabled machine me before.core entry.event) (steps_to machine me before.core entry.event entry.slots taken) after s)).1

other_is : (machine : Machine) (me core : ℕ) → is_other machine me core ≡ true → core < machine.setup.cores
other_is machine me core e = less core machine.setup.cores (both_hold (not (core == me)) (is_core machine core) e).1

-- ---- Ships and Takes

shipped_by : {S P M : Type 0} (o : Option (Went S P M)) (x : Went S P M × P) → shipping o ≡ Some x → (went : Went S P M) × (o ≡ Some went)
shipped_by None x h = absurd (cc)
shipped_by (Some went) x h = (went, refl)

quiet_by : {S P M : Type 0} (o : Option (Went S P M)) (x : Went S P M) → quiet o ≡ Some x → (went : Went S P M) × (o ≡ Some went)
quiet_by None x h = absurd (cc)
quiet_by (Some went) x h = (went, refl)

mapped : {X Y : Type 0} (f : X → Y) (o : Option X) (y : Y) → option_map f o ≡ Some y → (x : X) × (o ≡ Some x)
mapped f None y h = absurd (cc)
mapped f (Some x) y h = (x, refl)

pub ships_move : laws.ShipsMove
ships_move machine world next me dest clock slots h =
    let entry : Stamped = record { clock = clock; event = event.Ship dest; slots = slots } in
    let m = mapped _ (ship_step (stepper machine) me (world.states me) entry) next h in
    let s = shipped_by (entry_step machine me (world.states me) entry None) m.0 m.1 in
    let f = found machine me (world.states me) entry None s.0 s.1 in
    inl (record {
      me = me;
      dest = dest;
      here = f.here;
      there = other_is machine me dest (both_hold (is_other machine me dest) _ f.can).0;
      size = machine.setup.limit;
      packet = record { clock = clock; messages = take machine.setup.limit ((world.states me).core.buffers dest) };
      messages = refl;
      world = ships_are machine world next me dest clock slots h;
    })

pub takes_move : laws.TakesMove
takes_move machine world next me from clock slots h = inr (record {
  me = me;
  from = from;
  here = (has (world.transit from me) h).here;
  there = other_is machine me from (has (world.transit from me) h).can;
  packets = world.transit from me;
  under_way = refl;
  world = takes_are machine world next me from clock slots h;
})
  where
    entry : Stamped
    entry = record { clock = clock; event = event.Take from; slots = slots }

    has : (packets : List Packet)
        → with_first packets (λ packet rest. option_map (world_with world me (put_pair world.transit from me rest)) (take_step (stepper machine) me (world.states me) entry packet)) ≡ Some next
        → Found machine me (world.states me).core (event.Take from)
    has [] k = absurd (cc)
    has (packet ∷ packets) k =
        let m = mapped (world_with world me (put_pair world.transit from me packets)) (take_step (stepper machine) me (world.states me) entry packet) next k in
        let q = quiet_by (entry_step machine me (world.states me) entry (Some packet)) m.0 m.1 in
        found machine me (world.states me) entry (Some packet) q.0 q.1
