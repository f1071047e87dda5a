use Rattle.gr_bounds_stands.proofs.Telling as telling
use Rattle.gr_bounds_stands.proofs.laws.bounds_tell.Goals as goal

pub returns-clause-told : goal.returns-clause-told
returns-clause-told c = telling.bounds_told

pub returns-clause-runs : goal.returns-clause-runs
returns-clause-runs c = telling.few_steps

pub returns-clause-spawns : goal.returns-clause-spawns
returns-clause-spawns c = telling.spawns_count

pub returns-clause-enrols : goal.returns-clause-enrols
returns-clause-enrols c = telling.cores_enrol
