use Rattle.std.proofs.Common.{◌≡◌, ℕ, subst, arith}
use Rattle.gr_world.specs.MeetingWords.{HaveMetBefore}
use Rattle.gr_world.proofs.Pairs.{met_more, row_met}
use Rattle.gr_world.proofs.Stays.{cores_stay}
use Rattle.gr_world.proofs.meetings.meet_all.Goals as goal

pub meet_two-requires-clause-joined : goal.meet_two-requires-clause-joined
meet_two-requires-clause-joined c = λ default.
    let stayed = c.loop-one.invariant.stayed in
    let len = stayed.len in
    let cores = cores_stay c.requires.0 c.args.cores.now.items c.loop-one.cores.items stayed c.requires.1 in
    cores.joined c.loop-one.one c.loop-other.other default (omega arith) (omega arith) (λ same. absurd (omega arith))

pub loop-one-preserved : goal.loop-one-preserved
loop-one-preserved c =
    let len = c.loop-one.invariant.stayed.len in
    met_more c.loop-one.one c.loop-other.other c.args.cores.now.items c.loop-one.cores.items c.meet_two.new.cores.items (omega arith) (omega arith) c.requires c.loop-one.invariant
    c.meet_two.ensures

pub loop-other-preserved : goal.loop-other-preserved
loop-other-preserved c =
    let end : c.loop-one.one ≡ c.loop-other.other = omega arith in
    row_met c.loop-other.other c.args.cores.now.items c.loop-one.cores.items
    (subst (λ (k : ℕ). HaveMetBefore k c.loop-other.other c.args.cores.now.items c.loop-one.cores.items) end c.loop-one.invariant)
