use Rattle.std.proofs.Common.{◌≡◌, drop}
use Rattle.gr_machine.specs.Slots.{resumed_all}
use Rattle.gr_courses.specs.Seen.{with_body}
use Rattle.gr_state.specs.StateView.{seen_of}
use Rattle.gr_state.proofs.state.State.resume_all.Given as goal

abbrev pub invariant-loop-wake : goal.invariant-loop-wake
invariant-loop-wake l = with_body (seen_of l.self) (resumed_all (seen_of l.self).machine (seen_of l.self).core.body (drop l.wake-index l.wakes))
    ≡ with_body (seen_of l.fn.self) (resumed_all (seen_of l.fn.self).machine (seen_of l.fn.self).core.body l.wakes)
