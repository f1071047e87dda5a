use Rattle.std.proofs.Common.{arith, ℕ}
use Rattle.gr_turns.proofs.Sets.{none_among, among_more}
use Rattle.gr_turns.proofs.positions.put_positions.Goals as goal

pub loop-pair-init : goal.loop-pair-init
loop-pair-init c = λ position. none_among _ position _ c.new-positions.ensures.empty

pub loop-pair-preserved : goal.loop-pair-preserved
loop-pair-preserved c = among_more (λ (pair : ℕ × ℕ). pair.0) c.args.puts.now c.loop-pair.pair-index (0, 0) _ _ (omega arith) c.in_ok-add.ensures c.loop-pair.invariant
