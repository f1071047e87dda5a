use Rattle.std.proofs.Common.{◌≡◌, ℕ, List, [], length}
use Rattle.gr_msg.specs.declared.message.Msg.{Msg}
use Rattle.gr_view.specs.Places.{at_place}
use Rattle.gr_agg.proofs.aggregator.empty_buffers.Given as goal

abbrev pub invariant-buffers : goal.invariant-buffers
invariant-buffers l = record {
  len : length l.buffers.items ≡ l.counter;
  empty : ◌≡◌ {A = ℕ → List Msg} (at_place [] l.buffers.items) (λ dest. []);
}
