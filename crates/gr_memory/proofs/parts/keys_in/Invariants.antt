use Rattle.std.proofs.Common.{◌≡◌, ◌++◌}
use Rattle.gr_memory.proofs.parts.keys_in.Given as goal

abbrev pub invariant-loop-key : goal.invariant-loop-key
invariant-loop-key l = l.words.items ++ l.key-iterator ≡ l.tree.keys
