-- Where a core has tried all events, none can be made.
use Rattle.std.proofs.Common.{◌≡◌, ◌<◌, ◌≤◌, ℕ, refl, arith}
use Rattle.std.specs.Prelude.{Bool, true, false, nat_lt, not, ◌&&◌, ◌==◌, length}
use Rattle.std.proofs.lemmas.Bool.Decides.{nat_tests}
use Rattle.gr_machine.specs.declared.event.Event.{Event}
use Rattle.gr_machine.specs.declared.event.Event.TheVariants as event
use Rattle.gr_machine.specs.Enabled.{can, can_go, enabled, is_halted, is_idle, is_other}
use Rattle.gr_machine.specs.Machines.{is_core}
use Rattle.gr_core.specs.declared.cores.Core.{Core}
use Rattle.gr_core.specs.Cores.{mail_of, run_of}
use Rattle.gr_core.specs.Runs.{Run}
use Rattle.gr_slice.specs.declared.tries.Kind.{Kind}
use Rattle.gr_slice.specs.declared.tries.Kind.TheVariants as kind
use Rattle.gr_slice.specs.Slices.{HasStopped, OnlyAsks}
use Rattle.gr_slice.specs.TryWords.{CanMakeNone, CanMakeNoneBelow, HasNoUrgent, HasNoWork, count_of}

first_true : (a b : Bool) → (a && b) ≡ true → a ≡ true
first_true true b h = refl
first_true false b h = absurd (cc)

second_true : (a b : Bool) → (a && b) ≡ true → b ≡ true
second_true true b h = h
second_true false b h = absurd (cc)

is_below : (a b : ℕ) → nat_lt a b ≡ true → a < b
is_below a b h = grind (arith, nat_tests)

-- What an event needs that is enabled.
can_it : (run : Run) (what : Event) → enabled run.seen.machine run.seen.me run.seen.core what ≡ true → can run.seen.machine run.seen.me run.seen.core what ≡ true
can_it run what h = second_true (not (is_halted run.seen.core) && nat_lt run.seen.core.clock run.seen.machine.setup.events) (can run.seen.machine run.seen.me run.seen.core what) h

other_below : (run : Run) (core : ℕ) → is_other run.seen.machine run.seen.me core ≡ true → core < run.seen.machine.setup.cores
other_below run core h = is_below core run.seen.machine.setup.cores (second_true (not (core == run.seen.me)) (is_core run.seen.machine core) h)

-- No event of a kind has another number.
pub none_of : (kind : Kind) (core : Core) (count : ℕ) → count_of kind (run_of core).seen.machine.setup.cores ≤ count → CanMakeNoneBelow kind core count → CanMakeNone kind core
none_of kind.Serve core count is none number can = none 0 (omega (arith, is)) can
none_of kind.Run core count is none number can = none 0 (omega (arith, is)) can
none_of kind.Take core count is none number can =
    none number (omega (arith, is, other_below (run_of core) number (can_it (run_of core) (event.Take number) can.enabled))) can
none_of kind.Close core count is none number can = none number (omega (arith, is, can.numbered)) can
none_of kind.Ship core count is none number can =
    let run = run_of core in
    none number (omega (
      arith,
      is,
      other_below run number
          (first_true (is_other run.seen.machine run.seen.me number) (can_go run.seen.machine (length (run.seen.core.buffers number)) (is_idle run.seen.machine run.seen.core)) (can_it run (event.Ship number) can.enabled)),
    )) can
none_of kind.Steal core count is none number can =
    let run = run_of core in
    none number (omega (
      arith,
      is,
      other_below run number
          (first_true (is_other run.seen.machine run.seen.me number) (is_idle run.seen.machine run.seen.core)
          (first_true (is_other run.seen.machine run.seen.me number && is_idle run.seen.machine run.seen.core) (not (run.seen.core.body.steals.asked number)) (can_it run (event.Steal number) can.enabled))),
    )) can

-- Nothing but a Steal.
pub only_asks : (core : Core) → HasNoUrgent core → HasNoWork core → OnlyAsks (run_of core) (mail_of core)
only_asks core urgent work event.Serve can = absurd (urgent.serve 0 can)
only_asks core urgent work (event.Take from) can = absurd (urgent.take from can)
only_asks core urgent work event.Run can = absurd (work.run 0 can)
only_asks core urgent work (event.Close object) can = absurd (work.close object can)
only_asks core urgent work (event.Ship dest) can = absurd (work.ship dest can)
only_asks core urgent work (event.Steal victim) can = refl

-- Nor a Steal.
pub has_stopped : (core : Core) → HasNoUrgent core → HasNoWork core → CanMakeNone kind.Steal core → HasStopped (run_of core) (mail_of core)
has_stopped core urgent work asks event.Serve can = urgent.serve 0 can
has_stopped core urgent work asks (event.Take from) can = urgent.take from can
has_stopped core urgent work asks event.Run can = work.run 0 can
has_stopped core urgent work asks (event.Close object) can = work.close object can
has_stopped core urgent work asks (event.Ship dest) can = work.ship dest can
has_stopped core urgent work asks (event.Steal victim) can = asks victim can
