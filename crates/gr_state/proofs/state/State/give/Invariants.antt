use Rattle.std.proofs.Common.{◌≡◌, length}
use Rattle.gr_courses.specs.Courses.{gives_to}
use Rattle.gr_state.specs.StateView.{seen_of}
use Rattle.gr_state.proofs.state.State.give.Given as goal

abbrev pub invariant-gifts : goal.invariant-gifts
invariant-gifts l = gives_to (seen_of l.self) ≡ gives_to (seen_of l.fn.self)

abbrev pub decreases-gifts : goal.decreases-gifts
decreases-gifts l = length (seen_of l.self).core.body.steals.waiting
