-- What was read and what is still to read is what all of it reads.
use Rattle.std.proofs.Common.{◌≡◌, ◌-◌}
use Rattle.gr_format.specs.Formats.{reading, times}
use Rattle.gr_format.proofs.Loop.{with_front}
use Rattle.gr_msg.specs.Parts.{any_word}
use Rattle.gr_msg.proofs.units.words.Given as goal

abbrev pub invariant-each : goal.invariant-each
invariant-each l = with_front l.words (reading (times (l.count - l.counter) any_word) l.rest) ≡ reading (times l.count any_word) l.bytes
