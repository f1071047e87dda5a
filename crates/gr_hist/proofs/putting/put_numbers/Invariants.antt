use Rattle.std.proofs.Common.{◌≡◌, ◌++◌, decimal, drop, map}
use Rattle.gr_hist.specs.WritingWords.{trail}
use Rattle.gr_hist.proofs.putting.put_numbers.Given as goal

abbrev pub invariant-loop-number : goal.invariant-loop-number
invariant-loop-number l = l.out.items ++ trail (map decimal (drop l.number-index l.numbers)) ≡ l.fn.out.items ++ trail (map decimal l.numbers)
