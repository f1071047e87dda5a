use Rattle.gr_shares_tells.proofs.Units.{units_are_sound, units_take_their_slots}
use Rattle.gr_shares_tells.proofs.laws.units_act.Goals as goal

pub returns-clause-sound : goal.returns-clause-sound
returns-clause-sound c = units_are_sound

pub returns-clause-slots : goal.returns-clause-slots
returns-clause-slots c = units_take_their_slots
