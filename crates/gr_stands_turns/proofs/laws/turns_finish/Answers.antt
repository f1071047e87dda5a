use Rattle.gr_stands_turns.proofs.Turns as turns
use Rattle.gr_stands_turns.proofs.laws.turns_finish.Goals as goal

pub returns : goal.returns
returns c = turns.turns_finish
