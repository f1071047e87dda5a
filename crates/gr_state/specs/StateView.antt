-- What the state of a core stands for.
use Rattle.gr_event.specs.Counts.{counts_of}
use Rattle.gr_event.specs.Masters.{masters_of}
use Rattle.gr_machine.specs.Machines.{machine_of}
use Rattle.gr_machine.specs.States.{Body, Core}
use Rattle.gr_slots.specs.SlotView.{held_in}
use Rattle.gr_posts.specs.PostView.{posts_in}
use Rattle.gr_combining.specs.CombiningView.{batches_in}
use Rattle.gr_turns.specs.LineView.{vectors_in}
use Rattle.gr_store.specs.StoreView.{store_in}
use Rattle.gr_courses.specs.Seen.{Seen}
use Rattle.gr_state.specs.StealView.{steals_in}
use Rattle.gr_state.specs.declared.state.State.{State}

abbrev pub body_in : State → Body
body_in state = record {
  tasks = (held_in state.slots).tasks;
  work = state.work;
  scopes = record { counts = counts_of state.counts; masters = masters_of state.masters; next = state.scopes };
  words = (store_in state.store).words;
  batches = batches_in state.combining;
  vectors = vectors_in state.vectors;
  steals = steals_in state.steals;
  stops = record { trapped = state.trapped; passed = state.passed };
}

abbrev pub core_in : State → Core
core_in state = record {
  clock = state.clock;
  body = body_in state;
  inbox = (posts_in state.posts).inbox;
  buffers = (posts_in state.posts).buffers;
}

abbrev pub seen_of : State → Seen
seen_of state = record {
  machine = machine_of (posts_in state.posts).setup (held_in state.slots).program;
  me = (posts_in state.posts).me;
  heap = (store_in state.store).heap;
  core = core_in state;
  marks = state.marks;
  counts = state.done;
}
