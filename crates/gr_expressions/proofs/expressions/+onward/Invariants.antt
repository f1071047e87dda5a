use Rattle.gr_expressions.proofs.expressions.+onward.Given as goal

abbrev pub decreases-onward : goal.decreases-onward
decreases-onward l = l.below
