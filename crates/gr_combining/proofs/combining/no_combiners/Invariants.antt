use Rattle.std.proofs.Common.{◌≡◌, ℕ, List, []}
use Rattle.gr_batch.specs.declared.combiner.Held.{Held}
use Rattle.gr_view.specs.Places.{at_place}
use Rattle.gr_combining.proofs.combining.no_combiners.Given as goal

abbrev pub invariant-combiners : goal.invariant-combiners
invariant-combiners l = ◌≡◌ {A = ℕ → List Held} (at_place [] l.combiners.items) (λ object. [])
