use Rattle.std.proofs.Common.{◌≡◌, drop}
use Rattle.gr_machine.specs.TurnServes.{call_marks}
use Rattle.gr_courses.specs.Seen.{marks_to}
use Rattle.gr_state.specs.StateView.{seen_of}
use Rattle.gr_grants.proofs.settling.mark_all.Given as goal

abbrev pub invariant-loop-answer : goal.invariant-loop-answer
invariant-loop-answer l = marks_to (seen_of l.state) (call_marks (drop l.answer-index l.answers)) ≡ marks_to (seen_of l.fn.state) (call_marks l.answers)
