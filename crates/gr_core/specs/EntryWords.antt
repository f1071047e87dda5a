-- What the parts of an event make of a core with its journal.
use Rattle.std.specs.Prelude.{ℕ, ◌+◌, Bool, nat_lt, if◌then◌else◌, List, [], ◌∷◌, ◌++◌}
use Rattle.gr_machine.specs.declared.event.Event.{Event}
use Rattle.gr_machine.specs.Events.{Packet, received, shipped}
use Rattle.gr_courses.specs.Seen.{Seen}
use Rattle.gr_core.specs.Runs.{Run}

abbrev pub with_seen : Run → Seen → Run
with_seen run seen = record run { seen = seen }

-- An entry more in the journal, with the clock of the core.
abbrev pub noted : Run → Event → List ℕ → Run
noted run what slots = record run { journal = run.journal ++ record { clock = run.seen.core.clock; event = what; slots = slots } ∷ [] }

-- One call more, if it is one; one core more that was asked; and one packet more of so many messages.
abbrev pub with_calls : Run → Bool → Run
with_calls run is_call = record run {
  seen = record run.seen { counts = record run.seen.counts { calls = if is_call then run.seen.counts.calls + 1 else run.seen.counts.calls } };
}

abbrev pub with_asks : Run → Run
with_asks run = record run { seen = record run.seen { counts = record run.seen.counts { asks = run.seen.counts.asks + 1 } } }

abbrev pub with_packet : Run → ℕ → Run
with_packet run count = record run {
  seen = record run.seen {
    counts = record run.seen.counts {
      messages = run.seen.counts.messages + count;
      packets = run.seen.counts.packets + 1;
      short = if nat_lt count run.seen.machine.setup.limit then run.seen.counts.short + 1 else run.seen.counts.short;
    };
  };
}

-- The messages of a packet from a core are in the inbox; those of the next packet to a core have gone off.
abbrev pub delivered_to : Run → ℕ → Packet → Run
delivered_to run from packet = record run { seen = record run.seen { core = received run.seen.core from packet.messages } }

abbrev pub unloaded : Run → ℕ → Run
unloaded run dest = record run { seen = record run.seen { core = shipped run.seen.machine run.seen.core dest } }
