-- What the parts of a plain memory with its tasks stand for.
use Rattle.gr_plain.specs.declared.plain_state.PlainState.TheInside.{Inside}
use Rattle.gr_plain.specs.Held.{Held}

abbrev pub held_of : Inside → Held
held_of inside = record {
  program = inside.table;
  cores = inside.cores;
  steps = inside.steps;
  state = record { objects = inside.memory; tasks = inside.tasks; scopes = inside.scopes.items; passed = inside.passed };
}
