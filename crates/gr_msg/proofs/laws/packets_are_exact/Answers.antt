use Rattle.gr_format.proofs.Exact.{spells_one, spellings_are_apart}
use Rattle.gr_msg.specs.Messages.{packet}
use Rattle.gr_msg.proofs.InRange.{spelled_are_in_range}
use Rattle.gr_msg.proofs.Told.{packets_are_spelled_once}
use Rattle.gr_msg.proofs.laws.packets_are_exact.Goals as goal

pub returns-clause-one : goal.returns-clause-one
returns-clause-one c = spells_one packet

pub returns-clause-once : goal.returns-clause-once
returns-clause-once c = packets_are_spelled_once

pub returns-clause-apart : goal.returns-clause-apart
returns-clause-apart c = spellings_are_apart packet

pub returns-clause-in_range : goal.returns-clause-in_range
returns-clause-in_range c = spelled_are_in_range
