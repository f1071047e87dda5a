use Rattle.std.proofs.Common.{length}
use Rattle.gr_text.proofs.Reading.{Reached}
use Rattle.gr_text.proofs.lexing.tokens.Given as goal

abbrev pub invariant-each : goal.invariant-each
invariant-each l = Reached l.fn.text l.at l.place l.rest l.found

abbrev pub decreases-each : goal.decreases-each
decreases-each l = length l.rest
