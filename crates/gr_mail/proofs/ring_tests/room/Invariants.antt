use Rattle.std.proofs.Common.{◌≤◌}
use Rattle.gr_mail.specs.Rings.{SameRings}
use Rattle.gr_mail.proofs.ring_tests.room.Given as goal

abbrev pub invariant-packets : goal.invariant-packets
invariant-packets l = record {
  rings : SameRings l.fn.mail l.mail;
  few : l.count ≤ l.counter;
}
