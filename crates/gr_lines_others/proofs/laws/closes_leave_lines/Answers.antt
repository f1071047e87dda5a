use Rattle.gr_lines_others.proofs.Waits.{batches_leave}
use Rattle.gr_lines_others.proofs.Off.{stays}
use Rattle.gr_machine.specs.Events.{gives, asks}
use Rattle.std.proofs.Common.{refl}
use Rattle.gr_lines_others.proofs.laws.closes_leave_lines.Goals as goal

pub returns-clause-batches : goal.returns-clause-batches
returns-clause-batches c = batches_leave

pub returns-clause-gifts : goal.returns-clause-gifts
returns-clause-gifts c given body = stays given body (gives body).body refl refl

pub returns-clause-asks : goal.returns-clause-asks
returns-clause-asks c given victim body = stays given body (asks victim body).body refl refl
