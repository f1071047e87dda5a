use Rattle.gr_stands_chains.proofs.Actions as actions
use Rattle.gr_stands_chains.proofs.laws.actions_follow.Goals as goal

pub returns : goal.returns
returns c = actions.actions_follow
