use Rattle.std.proofs.Common.{◌≡◌, drop}
use Rattle.gr_machine.specs.TurnServes.{get_sends}
use Rattle.gr_courses.specs.Seen.{sends_to}
use Rattle.gr_state.specs.StateView.{seen_of}
use Rattle.gr_grants.proofs.granting.send_gets.Given as goal

abbrev pub invariant-loop-position : goal.invariant-loop-position
invariant-loop-position l = sends_to (seen_of l.state) (get_sends (seen_of l.state).machine l.vector (drop l.position-index l.gets))
    ≡ sends_to (seen_of l.fn.state) (get_sends (seen_of l.fn.state).machine l.vector l.gets)
