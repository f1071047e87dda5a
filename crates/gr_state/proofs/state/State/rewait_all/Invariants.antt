use Rattle.std.proofs.Common.{◌≡◌, drop}
use Rattle.gr_machine.specs.Slots.{rewaiting}
use Rattle.gr_courses.specs.Seen.{with_body}
use Rattle.gr_state.specs.StateView.{seen_of}
use Rattle.gr_state.proofs.state.State.rewait_all.Given as goal

abbrev pub invariant-loop-call : goal.invariant-loop-call
invariant-loop-call l = with_body (seen_of l.self) (rewaiting (seen_of l.self).core.body l.reason (drop l.call-index l.calls))
    ≡ with_body (seen_of l.fn.self) (rewaiting (seen_of l.fn.self).core.body l.reason l.calls)
