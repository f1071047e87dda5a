use Rattle.gr_scopes_units.proofs.Moved.{spawns_arrive, gifts_arrive, gifts_go_off, steals_go_off}
use Rattle.gr_scopes_units.proofs.laws.units_move.Goals as goal

pub returns-clause-spawns : goal.returns-clause-spawns
returns-clause-spawns c = spawns_arrive

pub returns-clause-gifts : goal.returns-clause-gifts
returns-clause-gifts c = gifts_arrive

pub returns-clause-gives : goal.returns-clause-gives
returns-clause-gives c = gifts_go_off

pub returns-clause-steals : goal.returns-clause-steals
returns-clause-steals c = steals_go_off
