use Rattle.gr_stands_births.proofs.Turns.{first_turn}
use Rattle.gr_stands_births.proofs.Planted.{spawns_are_made}
use Rattle.gr_stands_births.proofs.Started.{singles_start}
use Rattle.gr_stands_births.proofs.laws.tasks_are_born.Goals as goal

pub returns-clause-turn : goal.returns-clause-turn
returns-clause-turn c = first_turn

pub returns-clause-made : goal.returns-clause-made
returns-clause-made c = spawns_are_made

pub returns-clause-started : goal.returns-clause-started
returns-clause-started c = singles_start
