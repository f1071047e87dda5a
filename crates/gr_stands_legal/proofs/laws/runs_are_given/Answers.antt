use Rattle.gr_stands_legal.proofs.Given as given
use Rattle.gr_stands_legal.proofs.laws.runs_are_given.Goals as goal

pub returns-clause-sound : goal.returns-clause-sound
returns-clause-sound c = given.setups_sound c.programs_are_sound.ensures

pub returns-clause-few : goal.returns-clause-few
returns-clause-few c = given.few_steps

pub returns-clause-accepted : goal.returns-clause-accepted
returns-clause-accepted c = given.programs_accepted

pub returns-clause-slots : goal.returns-clause-slots
returns-clause-slots c = given.slots_fit

pub returns-clause-fronts : goal.returns-clause-fronts
returns-clause-fronts c = given.fronts_fit
