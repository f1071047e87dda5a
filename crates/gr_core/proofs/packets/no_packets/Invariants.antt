use Rattle.std.proofs.Common.{◌≡◌, ℕ, List, [], length}
use Rattle.gr_machine.specs.Events.{Packet}
use Rattle.gr_view.specs.Places.{at_place}
use Rattle.gr_core.proofs.packets.no_packets.Given as goal

abbrev pub invariant-cores : goal.invariant-cores
invariant-cores l = record {
  len : length l.lists.items ≡ l.counter;
  empty : ◌≡◌ {A = ℕ → List Packet} (at_place [] l.lists.items) (λ core. []);
}
