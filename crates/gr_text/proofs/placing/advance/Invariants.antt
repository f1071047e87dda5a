use Rattle.std.proofs.Common.{◌≡◌, ◌+◌, ◌≤◌, drop}
use Rattle.gr_text.specs.Places.{after_bytes}
use Rattle.gr_text.proofs.placing.advance.Given as goal

abbrev pub invariant-each : goal.invariant-each
invariant-each l = record {
  left : after_bytes l.place (drop l.byte-index l.bytes) ≡ after_bytes l.fn.start l.bytes;
  line : l.place.line ≤ l.fn.start.line + l.byte-index;
  column : l.place.column ≤ l.fn.start.column + l.byte-index;
}
