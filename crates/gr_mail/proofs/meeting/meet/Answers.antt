use Rattle.std.proofs.Common.{ℕ, subst}
use Rattle.gr_mail.specs.Rings.{LookedAt, owner}
use Rattle.gr_mail.proofs.Mails.{looked_twice, met_still}
use Rattle.gr_mail.proofs.meeting.meet.Goals as goal

pub returns-clause-one : goal.returns-clause-one
returns-clause-one c =
    let first = c.meet_ring.ensures in
    let second = c.meet_ring-2.ensures in
    looked_twice (owner c.args.other.now) c.args.one.now c.meet_ring.new.one c.meet_ring-2.new.other first.one
    (subst (λ (k : ℕ). LookedAt k c.meet_ring.new.one c.meet_ring-2.new.other) first.other.rings.owner second.other)

pub returns-clause-other : goal.returns-clause-other
returns-clause-other c =
    let first = c.meet_ring.ensures in
    let second = c.meet_ring-2.ensures in
    looked_twice (owner c.args.one.now) c.args.other.now c.meet_ring.new.other c.meet_ring-2.new.one first.other
    (subst (λ (k : ℕ). LookedAt k c.meet_ring.new.other c.meet_ring-2.new.one) first.one.rings.owner second.one)

pub returns-clause-there : goal.returns-clause-there
returns-clause-there c =
    let second = c.meet_ring-2.ensures in
    met_still c.meet_ring.new.one c.meet_ring.new.other c.meet_ring-2.new.other c.meet_ring-2.new.one second.other.rings.owner second.one.rings.owner second.sent second.received c.meet_ring.ensures.met
