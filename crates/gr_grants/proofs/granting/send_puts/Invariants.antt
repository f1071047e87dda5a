use Rattle.std.proofs.Common.{◌≡◌, drop}
use Rattle.gr_machine.specs.TurnServes.{put_sends}
use Rattle.gr_courses.specs.Seen.{sends_to}
use Rattle.gr_state.specs.StateView.{seen_of}
use Rattle.gr_grants.proofs.granting.send_puts.Given as goal

abbrev pub invariant-loop-put : goal.invariant-loop-put
invariant-loop-put l = sends_to (seen_of l.state) (put_sends (seen_of l.state).machine l.vector (drop l.put-index l.puts))
    ≡ sends_to (seen_of l.fn.state) (put_sends (seen_of l.fn.state).machine l.vector l.puts)
