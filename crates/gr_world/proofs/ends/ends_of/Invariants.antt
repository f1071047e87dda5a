use Rattle.std.proofs.Common.{◌≡◌, ◌++◌}
use Rattle.gr_world.specs.Worlds.{AreEndsOf}
use Rattle.gr_world.proofs.ends.ends_of.Given as goal

abbrev pub invariant-loop-core : goal.invariant-loop-core
invariant-loop-core l = record {
  done : AreEndsOf l.yielded l.ends;
  rest : l.yielded ++ l.core-iterator.rest.items ≡ l.fn.cores.items;
}
