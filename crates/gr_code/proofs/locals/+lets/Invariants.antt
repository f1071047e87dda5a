use Rattle.std.proofs.Common.{◌≡◌, ◌++◌, drop, map}
use Rattle.gr_lang.specs.Next.{lets_of}
use Rattle.gr_code.proofs.locals.+lets.Given as goal

abbrev pub invariant-add_block_lets-loop-stmt : goal.invariant-add_block_lets-loop-stmt
invariant-add_block_lets-loop-stmt l = map (λ n. n.now) l.names.items ++ lets_of (drop l.stmt-index l.block) ≡ map (λ n. n.now) l.fn.names.items ++ lets_of l.block
