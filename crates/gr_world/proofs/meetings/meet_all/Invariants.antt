use Rattle.gr_world.specs.MeetingWords.{HaveMetBefore}
use Rattle.gr_world.proofs.meetings.meet_all.Given as goal

abbrev pub invariant-loop-other : goal.invariant-loop-other
invariant-loop-other l = HaveMetBefore 0 l.other l.fn.cores.items l.cores.items

abbrev pub invariant-loop-one : goal.invariant-loop-one
invariant-loop-one l = HaveMetBefore l.one l.other l.fn.cores.items l.cores.items
