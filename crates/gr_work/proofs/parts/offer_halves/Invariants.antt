-- What is offered from here on is what is left of what the whole range offers.
use Rattle.std.proofs.Common.{◌≡◌, ◌≤◌, ◌-◌, ◌++◌, map}
use Rattle.gr_work.specs.Parts.{kept_end, offered, part}
use Rattle.gr_work.proofs.parts.offer_halves.Given as goal

abbrev pub invariant-halves : goal.invariant-halves
invariant-halves l = record {
  some : l.lo ≤ l.end;
  same_end : kept_end l.grain l.lo l.end ≡ kept_end l.grain l.lo l.fn.hi;
  same_offers : l.units.items ++ map (part l.chunk) (offered l.grain l.lo l.end) ≡ l.fn.units.items ++ map (part l.chunk) (offered l.grain l.lo l.fn.hi);
}

abbrev pub decreases-halves : goal.decreases-halves
decreases-halves l = l.end - l.lo
