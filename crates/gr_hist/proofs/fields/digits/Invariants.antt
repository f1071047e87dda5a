use Rattle.std.proofs.Common.{◌≡◌, drop}
use Rattle.gr_hist.specs.FieldWords.{digits_after}
use Rattle.gr_hist.proofs.fields.digits.Given as goal

abbrev pub invariant-loop-byte : goal.invariant-loop-byte
invariant-loop-byte l = digits_after l.value (drop l.byte-index l.bytes) ≡ digits_after 0 l.bytes
