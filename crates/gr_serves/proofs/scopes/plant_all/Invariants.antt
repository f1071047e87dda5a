use Rattle.std.proofs.Common.{◌≡◌, drop}
use Rattle.gr_courses.specs.Folds.{planted_from}
use Rattle.gr_state.specs.StateView.{seen_of}
use Rattle.gr_serves.proofs.scopes.plant_all.Given as goal

abbrev pub invariant-loop-slot : goal.invariant-loop-slot
invariant-loop-slot l = planted_from (seen_of l.state) (drop l.slot-index l.slots) ≡ planted_from (seen_of l.fn.state) l.slots
