use Rattle.std.proofs.Common.{◌≡◌, false}
use Rattle.gr_view.specs.Places.{at_place}
use Rattle.gr_state.proofs.steals.none_asked.Given as goal

abbrev pub invariant-cores : goal.invariant-cores
invariant-cores l = at_place false l.asked.items ≡ (λ core. false)
