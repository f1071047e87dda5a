use Rattle.std.proofs.Common.{◌≡◌, drop}
use Rattle.gr_machine.specs.Slots.{resumed_all}
use Rattle.gr_machine.specs.TurnServes.{wakes}
use Rattle.gr_courses.specs.Seen.{with_body}
use Rattle.gr_state.specs.StateView.{seen_of}
use Rattle.gr_grants.proofs.settling.resume_all.Given as goal

abbrev pub invariant-loop-answer : goal.invariant-loop-answer
invariant-loop-answer l = with_body (seen_of l.state) (resumed_all (seen_of l.state).machine (seen_of l.state).core.body (wakes (drop l.answer-index l.answers)))
    ≡ with_body (seen_of l.fn.state) (resumed_all (seen_of l.fn.state).machine (seen_of l.fn.state).core.body (wakes l.answers))
