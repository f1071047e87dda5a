use Rattle.gr_round.proofs.Growing.{all_sliced}
use Rattle.gr_round.proofs.rounds.round.Goals as goal

pub returns : goal.returns
returns g c = all_sliced _ _ _ _ c.in_ok-slices.ensures.len c.in_ok-slices.ensures.each c.in_ok-after.ensures
