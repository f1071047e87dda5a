use Rattle.std.proofs.Common.{◌≡◌}
use Rattle.gr_machine.specs.Enabled.{none_held}
use Rattle.gr_state.specs.StateView.{seen_of}
use Rattle.gr_state.proofs.state.State.none_held.Given as goal

abbrev pub invariant-objects : goal.invariant-objects
invariant-objects l = none_held (seen_of l.self).core.body l.left ≡ none_held (seen_of l.self).core.body l.count

abbrev pub decreases-objects : goal.decreases-objects
decreases-objects l = l.left
