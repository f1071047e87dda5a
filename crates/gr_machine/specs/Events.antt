-- What an event does to a core: the core step.
use Rattle.std.specs.Prelude.{ℕ, zero, suc, ◌+◌, Bool, true, false, ◌&&◌, max, if◌then◌else◌, List, [], ◌∷◌, ◌++◌, map, take, drop, Option, Some, None, is_none}
use Rattle.gr_view.specs.Places.{put}
use Rattle.gr_msg.specs.declared.message.Unit.{Unit as WorkUnit}
use Rattle.gr_msg.specs.declared.message.Msg.{Msg}
use Rattle.gr_msg.specs.declared.message.Msg.TheVariants as msg
use Rattle.gr_msg.specs.declared.opened.Opened.{Opened}
use Rattle.gr_work.specs.Queues.{is_empty}
use Rattle.gr_machine.specs.declared.event.Event.{Event}
use Rattle.gr_machine.specs.declared.event.Event.TheVariants as event
use Rattle.gr_machine.specs.declared.mark.Mark.{Mark}
use Rattle.gr_machine.specs.Machines.{Machine}
use Rattle.gr_machine.specs.States.{Body, Letter, Core}
use Rattle.gr_machine.specs.Outcomes.{Send, Outcome, to, acted, marks_of, sends_of}
use Rattle.gr_machine.specs.Runs.{run_slot, without_ready, run_unit, first_unit, without_unit, slots_for}
use Rattle.gr_machine.specs.Serves.{serves, settles}
use Rattle.gr_machine.specs.Closes.{closes}
use Rattle.gr_machine.specs.Enabled.{enabled}

-- A packet: the clock with which it was shipped, and its messages.
abbrev pub Packet : Type 0
Packet = Opened

-- Outcomes within one event

-- A core in the course of an event, with the messages that it has sent and the marks that it has left in it.
pub record Course : Type 0 where
  pub core : Core
  pub sent : List Send
  pub marks : List Mark

abbrev pub begun : Core → Course
begun core = record { core = core; sent = []; marks = [] }

-- One outcome more.
abbrev pub does : ℕ → Course → Option Outcome → Course
does me course outcome = record { core = acted me course.core outcome; sent = course.sent ++ sends_of outcome; marks = course.marks ++ marks_of outcome }

abbrev pub with_body : Core → Body → Core
with_body core body = record core { body = body }

-- Gifts: while a core waits here and a unit is there that others may take, the first such core gets the first such unit.

abbrev pub gifts : List ℕ → List WorkUnit → List Send
gifts (core ∷ cores) (unit ∷ units) = record { to = core; message = msg.StealGive unit } ∷ gifts cores units
gifts _ _ = []

abbrev pub still_waiting : List ℕ → List WorkUnit → List ℕ
still_waiting (core ∷ cores) (unit ∷ units) = still_waiting cores units
still_waiting cores _ = cores

abbrev pub still_public : List ℕ → List WorkUnit → List WorkUnit
still_public (core ∷ cores) (unit ∷ units) = still_public cores units
still_public _ units = units

abbrev pub gives : Body → Outcome
gives body = record {
  body = record body {
    work = record body.work { public = still_public body.steals.waiting body.work.public };
    steals = record body.steals { waiting = still_waiting body.steals.waiting body.work.public };
  };
  sends = gifts body.steals.waiting body.work.public;
  marks = [];
}

abbrev pub and_gives : ℕ → Course → Course
and_gives me course = does me course (Some (gives course.core.body))

-- Run: the first ready slot, which isn't ready any more, or where none is the next unit, whose task takes this slot; then gifts.

abbrev pub ran_unit : Machine → ℕ → Core → ℕ → Course
ran_unit machine me core slot =
    does me (begun (with_body core (without_unit core.body))) (run_unit machine me (without_unit core.body) slot (first_unit core.body))

abbrev pub ran_first : Machine → ℕ → Core → ℕ → List ℕ → Course
ran_first machine me core slot [] = ran_unit machine me core slot
ran_first machine me core slot (ready ∷ more) =
    does me (begun (with_body core (without_ready core.body))) (run_slot machine me (without_ready core.body) ready (core.body.tasks.slots ready))

abbrev pub ran : Machine → ℕ → Core → ℕ → Course
ran machine me core slot = and_gives me (ran_first machine me core slot core.body.tasks.ready)

-- Serve: the first letter, which is in the inbox no more; then a turn of which nothing is left is finished; then gifts.

abbrev pub and_settles : Machine → ℕ → Msg → Course → Course
and_settles machine me message course = does me course (settles machine course.core.body message)

abbrev pub served_first : Machine → ℕ → Core → List Letter → Course
served_first machine me core [] = begun core
served_first machine me core (letter ∷ letters) =
    and_settles machine me letter.message (does me (begun (record core { inbox = letters })) (serves machine me core.body letter.from letter.message))

abbrev pub served : Machine → ℕ → Core → Course
served machine me core = and_gives me (served_first machine me core core.inbox)

-- Close, and Steal.

abbrev pub closed : Machine → ℕ → Core → ℕ → Course
closed machine me core object = does me (begun core) (Some (closes machine core.body object))

-- The victim is asked, and isn't asked again before it has answered.
abbrev pub asks : ℕ → Body → Outcome
asks victim body = record { body = record body { steals = record body.steals { asked = put body.steals.asked victim true } }; sends = to victim msg.StealAsk; marks = [] }

abbrev pub stolen : ℕ → Core → ℕ → Course
stolen me core victim = does me (begun core) (Some (asks victim core.body))

-- Ship: the first messages for a core go off as a packet with the core's clock, as many as fill one.

abbrev pub shipped : Machine → Core → ℕ → Core
shipped machine core dest = record core { buffers = put core.buffers dest (drop machine.setup.limit (core.buffers dest)) }

abbrev pub packet_to : Machine → Core → ℕ → Packet
packet_to machine core dest = record { clock = core.clock; messages = take machine.setup.limit (core.buffers dest) }

-- Take: the messages of a packet go last into the inbox.
abbrev pub letters_from : ℕ → List Msg → List Letter
letters_from from = map (λ message. record { from = from; message = message })

abbrev pub received : Core → ℕ → List Msg → Core
received core from messages = record core { inbox = core.inbox ++ letters_from from messages }

-- The step

-- What comes of an event: the core after it, its marks, the messages that it sent, and the packet that it shipped.
pub record Transition : Type 0 where
  pub core : Core
  pub marks : List Mark
  pub sent : List Send
  pub packet : Option Packet

abbrev pub came_of : Course → Transition
came_of course = record { core = course.core; marks = course.marks; sent = course.sent; packet = None }

-- Each event but a Take, at a core whose clock has ticked. A task that a unit starts takes this slot.
abbrev pub happens : Machine → ℕ → Core → ℕ → Event → Transition
happens machine me core slot event.Serve = came_of (served machine me core)
happens machine me core slot event.Run = came_of (ran machine me core slot)
happens machine me core slot (event.Close object) = came_of (closed machine me core object)
happens machine me core slot (event.Steal victim) = came_of (stolen me core victim)
happens machine me core slot (event.Ship dest) = record { core = shipped machine core dest; marks = []; sent = []; packet = Some (packet_to machine core dest) }
happens machine me core slot (event.Take from) = came_of (begun core)

-- How many slots the new tasks of an event take. Only a Run takes one, where no slot is ready.
abbrev pub slots_needed : Machine → Core → Event → ℕ
slots_needed machine core event.Run = if is_empty core.body.tasks.ready then slots_for machine (first_unit core.body) else 0
slots_needed machine core _ = 0

-- So many slots, in none of which a task is.
abbrev pub are_free : Body → ℕ → List ℕ → Bool
are_free body zero slots = is_empty slots
are_free body (suc count) [] = false
are_free body (suc count) (slot ∷ slots) = is_none (body.tasks.slots slot) && are_free body count slots

abbrev pub slot_of : List ℕ → ℕ
slot_of [] = 0
slot_of (slot ∷ slots) = slot

-- The clock ticks before all else: by one, and at a Take from the greater of the core's and the packet's.
abbrev pub ticked : Core → ℕ → Core
ticked core clock = record core { clock = clock + 1 }

-- A Take is given the packet that it takes, and no other event one.
abbrev pub steps_to : Machine → ℕ → Core → Event → List ℕ → Option Packet → Option Transition
steps_to machine me core (event.Take from) [] (Some packet) = Some (came_of (begun (received (ticked core (max core.clock packet.clock)) from packet.messages)))
steps_to machine me core (event.Take from) _ _ = None
steps_to machine me core what slots None =
    if are_free core.body (slots_needed machine core what) slots then Some (happens machine me (ticked core core.clock) (slot_of slots) what) else None
steps_to machine me core what slots (Some packet) = None

-- The core step: what comes of an event whose new tasks take these slots. Nothing where the event isn't enabled or the slots don't fit.
abbrev pub core_step : Machine → ℕ → Core → Event → List ℕ → Option Packet → Option Transition
core_step machine me core what slots packet = if enabled machine me core what then steps_to machine me core what slots packet else None
