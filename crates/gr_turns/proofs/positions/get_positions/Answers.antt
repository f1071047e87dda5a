use Rattle.std.proofs.Common.{arith, ℕ}
use Rattle.gr_turns.proofs.Sets.{none_among, among_more}
use Rattle.gr_turns.proofs.positions.get_positions.Goals as goal

pub loop-get-init : goal.loop-get-init
loop-get-init c = λ position. none_among _ position _ c.new-positions.ensures.empty

pub loop-get-preserved : goal.loop-get-preserved
loop-get-preserved c = among_more (λ (position : ℕ). position) c.args.gets.now c.loop-get.get-index 0 _ _ (omega arith) c.in_ok-add.ensures c.loop-get.invariant
