-- What a core has done, in numbers: what each event adds.
use Rattle.std.specs.Prelude.{◌+◌, Bool, true, false, nat_lt, length, slice_get, count_by}
use Rattle.std.specs.Option.{option_map_or, option_and_then}
use Rattle.gr_lang.specs.Expressions.{number_of}
use Rattle.gr_lang.specs.declared.action.Action.{Action}
use Rattle.gr_lang.specs.declared.action.Action.TheVariants as action
use Rattle.gr_msg.specs.declared.message.Msg.{Msg}
use Rattle.gr_msg.specs.declared.message.Msg.TheVariants as msg
use Rattle.gr_machine.specs.declared.counts.Counts.{Counts}
use Rattle.gr_machine.specs.declared.event.Event.{Event}
use Rattle.gr_machine.specs.declared.event.Event.TheVariants as event
use Rattle.gr_machine.specs.declared.mark.Mark.{Mark}
use Rattle.gr_machine.specs.declared.mark.Mark.TheVariants as mark
use Rattle.gr_machine.specs.Machines.{Machine}
use Rattle.gr_machine.specs.States.{Core}
use Rattle.gr_machine.specs.Events.{Transition}

abbrev pub nothing_done : Counts
nothing_done = record { calls = 0; messages = 0; packets = 0; short = 0; batches = 0; asks = 0; gives = 0 }

abbrev pub is_call : Action → Bool
is_call (action.Call op) = true
is_call _ = false

-- Whether the first ready slot has a task whose next action is a call.
abbrev pub calls_next : Core → Bool
calls_next core = option_map_or (λ task. is_call task.action) (option_and_then core.body.tasks.slots (slice_get core.body.tasks.ready 0)) false

-- Whether an event is a Run that makes a call, or a Steal.
abbrev pub makes_call : Core → Event → Bool
makes_call core event.Run = calls_next core
makes_call core _ = false

abbrev pub is_steal : Event → Bool
is_steal (event.Steal victim) = true
is_steal _ = false

abbrev pub is_closed : Mark → Bool
is_closed (mark.Closed batch calls) = true
is_closed _ = false

abbrev pub is_gift : Msg → Bool
is_gift (msg.StealGive unit) = true
is_gift _ = false

-- One event more, before which the core was this.
abbrev pub counted : Machine → Counts → Core → Event → Transition → Counts
counted machine counts core what after = record {
  calls = counts.calls + number_of (makes_call core what);
  messages = counts.messages + option_map_or (λ packet. length packet.messages) after.packet 0;
  packets = counts.packets + option_map_or (λ packet. 1) after.packet 0;
  short = counts.short + option_map_or (λ packet. number_of (nat_lt (length packet.messages) machine.setup.limit)) after.packet 0;
  batches = counts.batches + count_by is_closed after.marks;
  asks = counts.asks + number_of (is_steal what);
  gives = counts.gives + count_by (λ send. is_gift send.message) after.sent;
}
