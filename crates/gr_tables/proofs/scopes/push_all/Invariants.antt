use Rattle.std.proofs.Common.{◌≡◌, ◌++◌, drop}
use Rattle.gr_tables.proofs.scopes.push_all.Given as goal

abbrev pub invariant-loop-word : goal.invariant-loop-word
invariant-loop-word l = l.words ++ drop l.word-index l.more ≡ l.fn.words ++ l.more
