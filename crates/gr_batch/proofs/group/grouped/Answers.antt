use Rattle.std.proofs.Common.{arith}
use Rattle.gr_batch.proofs.Groups.{close_done}
use Rattle.gr_batch.proofs.group.grouped.Goals as goal

pub returns-clause-groups : goal.returns-clause-groups
returns-clause-groups g c = (close_done c.loop-one.groups.entries c.loop-one.rest.items c.loop-one.one-index c.args.held.now (omega (arith, c.loop-one-test.false)) c.loop-one.invariant).0

pub returns-clause-rest : goal.returns-clause-rest
returns-clause-rest g c = (close_done c.loop-one.groups.entries c.loop-one.rest.items c.loop-one.one-index c.args.held.now (omega (arith, c.loop-one-test.false)) c.loop-one.invariant).1
