-- What was read and what is still to read is what all of it reads.
use Rattle.std.proofs.Common.{◌≡◌, ◌-◌}
use Rattle.gr_format.specs.Formats.{reading, times}
use Rattle.gr_format.proofs.Loop.{with_front}
use Rattle.gr_msg.specs.Messages.{message}
use Rattle.gr_msg.proofs.kinds.messages.Given as goal

abbrev pub invariant-each : goal.invariant-each
invariant-each l = with_front l.messages (reading (times (l.count - l.counter) message) l.rest) ≡ reading (times l.count message) l.bytes
