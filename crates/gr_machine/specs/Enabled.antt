-- Which events are enabled at a core.
use Rattle.std.specs.Prelude.{ℕ, zero, suc, ◌==◌, Bool, not, ◌&&◌, ◌||◌, nat_lt, nat_le, length}
use Rattle.gr_syntax.specs.declared.limits.TheConstants.{HEAP}
use Rattle.gr_work.specs.Queues.{is_empty}
use Rattle.gr_machine.specs.declared.event.Event.{Event}
use Rattle.gr_machine.specs.declared.event.Event.TheVariants as event
use Rattle.gr_machine.specs.Machines.{Machine, is_core}
use Rattle.gr_machine.specs.States.{Body, Core}
use Rattle.gr_machine.specs.Closes.{held_count}

-- No slot is ready, and no unit waits.
abbrev pub has_no_work : Body → Bool
has_no_work body = is_empty body.tasks.ready && is_empty body.work.private && is_empty body.work.public

-- Nor does a message.
abbrev pub is_quiet : Core → Bool
is_quiet core = is_empty core.inbox && has_no_work core.body

-- No call waits on the first objects, so many, nor on the heap.
abbrev pub none_held : Body → ℕ → Bool
none_held body zero = held_count body HEAP == 0
none_held body (suc count) = held_count body count == 0 && none_held body count

-- Idle: no message, no work, and no call that waits to be combined.
abbrev pub is_idle : Machine → Core → Bool
is_idle machine core = is_quiet core && none_held core.body (length machine.code.objects.things)

-- Another core, that there is.
abbrev pub is_other : Machine → ℕ → ℕ → Bool
is_other machine me core = not (core == me) && is_core machine core

-- So many things fill a packet; or there is one, and nothing else to do.
abbrev pub can_go : Machine → ℕ → Bool → Bool
can_go machine count calm = nat_le machine.setup.limit count || (nat_lt 0 count && calm)

-- What each event needs.
abbrev pub can : Machine → ℕ → Core → Event → Bool
can machine me core (event.Take from) = is_other machine me from
can machine me core event.Serve = not (is_empty core.inbox)
can machine me core event.Run = not (has_no_work core.body)
can machine me core (event.Ship dest) = is_other machine me dest && can_go machine (length (core.buffers dest)) (is_idle machine core)
can machine me core (event.Close object) = can_go machine (held_count core.body object) (is_quiet core)
can machine me core (event.Steal victim) = is_other machine me victim && is_idle machine core && not (core.body.steals.asked victim)

-- A core is halted once a task of it is trapped, or once it has passed the root scope.
abbrev pub is_halted : Core → Bool
is_halted core = core.body.stops.trapped || core.body.stops.passed

-- The core isn't halted, its clock is below the limit, and there is what the event needs. Whether a packet has come for a Take isn't asked here.
abbrev pub enabled : Machine → ℕ → Core → Event → Bool
enabled machine me core what = not (is_halted core) && nat_lt core.clock machine.setup.events && can machine me core what
