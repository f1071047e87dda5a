use Rattle.std.proofs.Common.{◌≡◌, ◌++◌, drop, map}
use Rattle.gr_plain.proofs.opening.push_numbers.Given as goal

abbrev pub invariant-loop-number : goal.invariant-loop-number
invariant-loop-number l = l.words.items ++ map (λ n. n.value) (drop l.number-index l.numbers) ≡ l.fn.words.items ++ map (λ n. n.value) l.numbers
