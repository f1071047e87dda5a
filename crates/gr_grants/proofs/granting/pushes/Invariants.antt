use Rattle.std.proofs.Common.{◌≡◌, ◌≤◌, ◌+◌, drop, length}
use Rattle.gr_vector.specs.declared.kind.Kind.TheVariants as kind
use Rattle.gr_vector.specs.Groups.{calls_of}
use Rattle.gr_grants.proofs.granting.pushes.Given as goal

abbrev pub invariant-loop-call : goal.invariant-loop-call
invariant-loop-call l = record {
  whole : l.count + length (calls_of kind.Push (drop l.call-index l.calls)) ≡ length (calls_of kind.Push l.calls);
  below : l.count ≤ l.call-index;
}
