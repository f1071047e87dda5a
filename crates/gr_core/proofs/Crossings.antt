-- Take and Ship are core steps.
use Rattle.std.proofs.Common.{◌≡◌, ◌+◌, ◌<◌, ◌≤◌, ℕ, List, [], length, ap, ◌∙◌, sym, refl, subst, arith}
use Rattle.std.specs.Prelude.{Bool, true, false, Some, None, if◌then◌else◌, max, nat_lt, nat_le, min, not, ◌&&◌, ◌||◌, ◌==◌}
use Rattle.std.proofs.lemmas.Bool.Decides.{nat_tests}
use Rattle.std.proofs.lemmas.List.{append-nil, length-take}
use Rattle.gr_merge.specs.Machines.{with_last}
use Rattle.gr_lang.specs.Expressions.{number_of}
use Rattle.gr_machine.specs.declared.counts.Counts.{Counts}
use Rattle.gr_machine.specs.declared.event.Event.TheVariants as event
use Rattle.gr_machine.specs.declared.journal.StampedMark.{StampedMark}
use Rattle.gr_machine.specs.States.{Core}
use Rattle.gr_machine.specs.Counting.{counted}
use Rattle.gr_machine.specs.Enabled.{can, can_go, enabled, is_halted, is_idle, is_other}
use Rattle.gr_machine.specs.Machines.{is_core}
use Rattle.gr_msg.specs.declared.opened.TheConstants.{MAX_CLOCK}
use Rattle.gr_posts.specs.Posts.{IsSetup}
use Rattle.gr_machine.specs.Events.{Packet, Transition, begun, came_of, packet_to, received, shipped, ticked}
use Rattle.gr_courses.specs.Seen.{Seen, ticked_to}
use Rattle.gr_courses.proofs.Steps.{counted_is, step_is, take_is}
use Rattle.gr_core.specs.EntryWords.{delivered_to, noted, unloaded, with_packet, with_seen}
use Rattle.gr_core.specs.Runs.{Run, Made, stepped}

-- A Take

pub take_made : (run first second last : Run) (from clock : ℕ) (packet : Packet) (lists : ℕ → List Packet)
    → enabled run.seen.machine run.seen.me run.seen.core (event.Take from) ≡ true
    → clock ≡ max run.seen.core.clock packet.clock
    → first ≡ with_seen run (ticked_to run.seen clock)
    → second ≡ delivered_to first from packet
    → lists ≡ with_last second.received from packet
    → last ≡ noted (record second { received = lists }) (event.Take from) [] → Made run (event.Take from) last
take_made run first second last from clock packet lists can later ticks delivers keeps notes =
    let core : Core = received (ticked run.seen.core (max run.seen.core.clock packet.clock)) from packet.messages in
    let next : Transition = came_of (begun core) in
    let now : second ≡ record run { seen = record run.seen { core = core } } =
    delivers ∙ ap (λ (other : Run). delivered_to other from packet) ticks
    ∙ ap (λ (time : ℕ). delivered_to (with_seen run (ticked_to run.seen time)) from packet) later in
    record {
      slots = [];
      taken = Some packet;
      next = next;
      step = take_is run.seen.machine run.seen.me run.seen.core from packet can;
      run = notes
          ∙ ap (λ (lists : ℕ → List Packet). noted (record second { received = lists }) (event.Take from) []) keeps
          ∙ ap (λ (other : Run). noted (record other { received = with_last other.received from packet }) (event.Take from) []) now
          ∙ ap (λ (marks : List StampedMark). record (stepped run (event.Take from) [] (Some packet) next) { seen = record run.seen { core = core; marks = marks } }) (sym (append-nil run.seen.marks))
          ∙ ap (λ (counts : Counts). record (stepped run (event.Take from) [] (Some packet) next) { seen = record (stepped run (event.Take from) [] (Some packet) next).seen { counts = counts } })
          (sym (counted_is run.seen (event.Take from) (begun core)));
    }

pub take_keeps : (run first second last : Run) (from clock : ℕ) (packet : Packet) (lists : ℕ → List Packet)
    → first ≡ with_seen run (ticked_to run.seen clock) → second ≡ delivered_to first from packet
    → lists ≡ with_last second.received from packet
    → last ≡ noted (record second { received = lists }) (event.Take from) [] → last.received ≡ with_last run.received from packet
take_keeps run first second last from clock packet lists ticks delivers keeps notes =
    ap (λ (other : Run). other.received) notes ∙ keeps
    ∙ ap (λ (other : Run). with_last other.received from packet) (delivers ∙ ap (λ (other : Run). delivered_to other from packet) ticks)

pub take_sends : (run first second last : Run) (from clock : ℕ) (packet : Packet) (lists : ℕ → List Packet)
    → first ≡ with_seen run (ticked_to run.seen clock) → second ≡ delivered_to first from packet
    → last ≡ noted (record second { received = lists }) (event.Take from) [] → last.sent ≡ run.sent
take_sends run first second last from clock packet lists ticks delivers notes =
    ap (λ (other : Run). other.sent) notes ∙ ap (λ (other : Run). other.sent) (delivers ∙ ap (λ (other : Run). delivered_to other from packet) ticks)

-- A Ship

-- One packet more.
one_short : (count : ℕ) (b : Bool) → (if b then count + 1 else count) ≡ count + number_of b
one_short count true = refl
one_short count false = omega arith

same : (count : ℕ) → count ≡ count + 0
same count = omega arith

pub ship_counts : (seen : Seen) (dest count : ℕ) (packet : Packet) (core : Core) → count ≡ length packet.messages
    → (with_packet (record { seen = seen; first = 0; journal = []; received = λ core. []; sent = λ core. [] }) count).seen.counts
    ≡ counted seen.machine seen.counts seen.core (event.Ship dest) (record { core = core; marks = []; sent = []; packet = Some packet })
ship_counts seen dest count packet core many =
    ap (λ (calls : ℕ). record { calls = calls; messages = seen.counts.messages + count; packets = seen.counts.packets + 1; short = if nat_lt count seen.machine.setup.limit then seen.counts.short + 1 else seen.counts.short; batches = seen.counts.batches; asks = seen.counts.asks; gives = seen.counts.gives }) (same seen.counts.calls)
    ∙ ap (λ (batches : ℕ). record { calls = seen.counts.calls + 0; messages = seen.counts.messages + count; packets = seen.counts.packets + 1; short = if nat_lt count seen.machine.setup.limit then seen.counts.short + 1 else seen.counts.short; batches = batches; asks = seen.counts.asks; gives = seen.counts.gives }) (same seen.counts.batches)
    ∙ ap (λ (asks : ℕ). record { calls = seen.counts.calls + 0; messages = seen.counts.messages + count; packets = seen.counts.packets + 1; short = if nat_lt count seen.machine.setup.limit then seen.counts.short + 1 else seen.counts.short; batches = seen.counts.batches + 0; asks = asks; gives = seen.counts.gives }) (same seen.counts.asks)
    ∙ ap (λ (gives : ℕ). record { calls = seen.counts.calls + 0; messages = seen.counts.messages + count; packets = seen.counts.packets + 1; short = if nat_lt count seen.machine.setup.limit then seen.counts.short + 1 else seen.counts.short; batches = seen.counts.batches + 0; asks = seen.counts.asks + 0; gives = gives }) (same seen.counts.gives)
    ∙ ap (λ (short : ℕ). record { calls = seen.counts.calls + 0; messages = seen.counts.messages + count; packets = seen.counts.packets + 1; short = short; batches = seen.counts.batches + 0; asks = seen.counts.asks + 0; gives = seen.counts.gives + 0 }) (one_short seen.counts.short (nat_lt count seen.machine.setup.limit))
    ∙ ap (λ (number : ℕ). record { calls = seen.counts.calls + 0; messages = seen.counts.messages + number; packets = seen.counts.packets + 1; short = seen.counts.short + number_of (nat_lt number seen.machine.setup.limit); batches = seen.counts.batches + 0; asks = seen.counts.asks + 0; gives = seen.counts.gives + 0 }) many

-- The counts alone are others.
abbrev with_counts : Run → Counts → Run
with_counts run counts = record run { seen = record run.seen { counts = counts } }

pub ship_made : (run first second third last : Run) (dest count : ℕ) (packet : Packet) (lists : ℕ → List Packet)
    → enabled run.seen.machine run.seen.me run.seen.core (event.Ship dest) ≡ true
    → packet ≡ packet_to run.seen.machine (ticked run.seen.core run.seen.core.clock) dest
    → count ≡ length packet.messages
    → first ≡ with_packet run count
    → second ≡ with_seen first (ticked_to first.seen first.seen.core.clock)
    → third ≡ unloaded second dest
    → lists ≡ with_last third.sent dest packet
    → last ≡ noted (record third { sent = lists }) (event.Ship dest) [] → Made run (event.Ship dest) last
ship_made run first second third last dest count packet lists can packs many counts ticks unloads keeps notes =
    let core : Core = shipped run.seen.machine (ticked run.seen.core run.seen.core.clock) dest in
    let sent : Packet = packet_to run.seen.machine (ticked run.seen.core run.seen.core.clock) dest in
    let next : Transition = record { core = core; marks = []; sent = []; packet = Some sent } in
    let now : third ≡ with_counts (record run { seen = record run.seen { core = core } }) (with_packet run count).seen.counts =
    unloads ∙ ap (λ (other : Run). unloaded other dest) ticks
    ∙ ap (λ (other : Run). unloaded (with_seen other (ticked_to other.seen other.seen.core.clock)) dest) counts in
    record {
      slots = [];
      taken = None;
      next = next;
      step = step_is run.seen.machine run.seen.me run.seen.core (event.Ship dest) [] (ship_is_no_take dest) can refl;
      run = notes
          ∙ ap (λ (lists : ℕ → List Packet). noted (record third { sent = lists }) (event.Ship dest) []) keeps
          ∙ ap (λ (other : Run). noted (record other { sent = with_last other.sent dest packet }) (event.Ship dest) []) now
          ∙ ap (λ (other : Packet). record (stepped run (event.Ship dest) [] None next) {
            seen = record run.seen { core = core; counts = (with_packet run count).seen.counts };
            sent = with_last run.sent dest other;
          }) packs
          ∙ ap (λ (marks : List StampedMark). record (stepped run (event.Ship dest) [] None next) {
            seen = record run.seen { core = core; marks = marks; counts = (with_packet run count).seen.counts };
          }) (sym (append-nil run.seen.marks))
          ∙ ap (λ (counts : Counts). record (stepped run (event.Ship dest) [] None next) {
            seen = record (stepped run (event.Ship dest) [] None next).seen { counts = counts };
          }) (ship_counts run.seen dest count sent core (many ∙ ap (λ (other : Packet). length other.messages) packs));
    }
  where
    ship_is_no_take : (dest from : ℕ) → event.Ship dest ≡ event.Take from → ⊥
    ship_is_no_take dest from e = cc

pub ship_receives : (run first second third last : Run) (dest count : ℕ) (lists : ℕ → List Packet)
    → first ≡ with_packet run count → second ≡ with_seen first (ticked_to first.seen first.seen.core.clock)
    → third ≡ unloaded second dest
    → last ≡ noted (record third { sent = lists }) (event.Ship dest) [] → last.received ≡ run.received
ship_receives run first second third last dest count lists counts ticks unloads notes =
    ap (λ (other : Run). other.received) (notes ∙ ap (λ (other : Run). noted (record other { sent = lists }) (event.Ship dest) [])
    (unloads ∙ ap (λ (other : Run). unloaded other dest) ticks
    ∙ ap (λ (other : Run). unloaded (with_seen other (ticked_to other.seen other.seen.core.clock)) dest) counts))

pub ship_keeps : (run first second third last : Run) (dest count : ℕ) (packet : Packet) (lists : ℕ → List Packet)
    → first ≡ with_packet run count → second ≡ with_seen first (ticked_to first.seen first.seen.core.clock)
    → third ≡ unloaded second dest → lists ≡ with_last third.sent dest packet
    → last ≡ noted (record third { sent = lists }) (event.Ship dest) [] → last.sent ≡ with_last run.sent dest packet
ship_keeps run first second third last dest count packet lists counts ticks unloads keeps notes =
    ap (λ (other : Run). other.sent) notes ∙ keeps
    ∙ ap (λ (other : Run). with_last other.sent dest packet)
    (unloads ∙ ap (λ (other : Run). unloaded other dest) ticks
    ∙ ap (λ (other : Run). unloaded (with_seen other (ticked_to other.seen other.seen.core.clock)) dest) counts)

-- What a Ship that may be made has

first_true : (a b : Bool) → (a && b) ≡ true → a ≡ true
first_true true b h = refl
first_true false b h = absurd (cc)

second_true : (a b : Bool) → (a && b) ≡ true → b ≡ true
second_true true b h = h
second_true false b h = absurd (cc)

is_below : (a b : ℕ) → nat_lt a b ≡ true → a < b
is_below a b h = grind (arith, nat_tests)

is_some_one : (limit count : ℕ) (calm : Bool) → 1 ≤ limit → (nat_le limit count || (nat_lt 0 count && calm)) ≡ true → 0 < count
is_some_one limit count true some h = grind (arith, nat_tests)
is_some_one limit count false some h = grind (arith, nat_tests)

-- What the event needs.
ship_can : (run : Run) (dest : ℕ) → enabled run.seen.machine run.seen.me run.seen.core (event.Ship dest) ≡ true
    → can run.seen.machine run.seen.me run.seen.core (event.Ship dest) ≡ true
ship_can run dest h = second_true (not (is_halted run.seen.core) && nat_lt run.seen.core.clock run.seen.machine.setup.events) (can run.seen.machine run.seen.me run.seen.core (event.Ship dest)) h

pub ship_core : (run : Run) (dest : ℕ) → enabled run.seen.machine run.seen.me run.seen.core (event.Ship dest) ≡ true → dest < run.seen.machine.setup.cores
ship_core run dest h =
    let other : is_other run.seen.machine run.seen.me dest ≡ true =
    first_true (is_other run.seen.machine run.seen.me dest) (can_go run.seen.machine (length (run.seen.core.buffers dest)) (is_idle run.seen.machine run.seen.core)) (ship_can run dest h) in
    is_below dest run.seen.machine.setup.cores (second_true (not (dest == run.seen.me)) (is_core run.seen.machine dest) other)

pub ship_some : (run : Run) (dest : ℕ) → IsSetup run.seen.machine.setup → enabled run.seen.machine run.seen.me run.seen.core (event.Ship dest) ≡ true
    → 0 < length (run.seen.core.buffers dest)
ship_some run dest setup h =
    is_some_one run.seen.machine.setup.limit (length (run.seen.core.buffers dest)) (is_idle run.seen.machine run.seen.core) setup.message
    (second_true (is_other run.seen.machine run.seen.me dest) (can_go run.seen.machine (length (run.seen.core.buffers dest)) (is_idle run.seen.machine run.seen.core)) (ship_can run dest h))

pub ship_clock : (run : Run) (dest : ℕ) → IsSetup run.seen.machine.setup → enabled run.seen.machine run.seen.me run.seen.core (event.Ship dest) ≡ true
    → run.seen.core.clock + 1 ≤ MAX_CLOCK
ship_clock run dest setup h =
    let some : run.seen.core.clock < run.seen.machine.setup.events = is_below run.seen.core.clock run.seen.machine.setup.events
    (second_true (not (is_halted run.seen.core)) (nat_lt run.seen.core.clock run.seen.machine.setup.events)
    (first_true (not (is_halted run.seen.core) && nat_lt run.seen.core.clock run.seen.machine.setup.events) (can run.seen.machine run.seen.me run.seen.core (event.Ship dest)) h)) in
    omega (arith, some, setup.events)

pub ruleset when_shipped = (ship_core, ship_some, ship_clock)

-- The core that ships, and its messages, are there once it is counted and the clock has ticked.
pub still_core : (run first second : Run) (dest count : ℕ) → first ≡ with_packet run count → second ≡ with_seen first (ticked_to first.seen first.seen.core.clock)
    → enabled run.seen.machine run.seen.me run.seen.core (event.Ship dest) ≡ true → dest < second.seen.machine.setup.cores
still_core run first second dest count counts ticks h =
    subst (λ (other : Run). dest < other.seen.machine.setup.cores) (sym (ticks ∙ ap (λ (other : Run). with_seen other (ticked_to other.seen other.seen.core.clock)) counts)) (ship_core run dest h)

pub still_some : (run first second : Run) (dest count : ℕ) → first ≡ with_packet run count → second ≡ with_seen first (ticked_to first.seen first.seen.core.clock)
    → IsSetup run.seen.machine.setup → enabled run.seen.machine run.seen.me run.seen.core (event.Ship dest) ≡ true → 0 < length (second.seen.core.buffers dest)
still_some run first second dest count counts ticks setup h =
    subst (λ (other : Run). 0 < length (other.seen.core.buffers dest)) (sym (ticks ∙ ap (λ (other : Run). with_seen other (ticked_to other.seen other.seen.core.clock)) counts)) (ship_some run dest setup h)

-- The number of messages of the packet.
pub ship_count : (run : Run) (dest count : ℕ) (packet : Packet) → packet ≡ packet_to run.seen.machine (ticked run.seen.core run.seen.core.clock) dest
    → count ≡ min run.seen.machine.setup.limit (length (run.seen.core.buffers dest)) → count ≡ length packet.messages
ship_count run dest count packet packs counts =
    counts ∙ sym (length-take run.seen.machine.setup.limit (run.seen.core.buffers dest)) ∙ ap (λ (other : Packet). length other.messages) (sym packs)

-- The events by which packets cross.
pub ruleset crossing_events = (take_made, take_keeps, take_sends, ship_made, ship_receives, ship_keeps, still_core, still_some, ship_count)
