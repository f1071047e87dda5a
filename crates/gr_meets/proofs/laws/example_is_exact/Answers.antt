use Rattle.gr_meets.specs.Example.{IsText}
use Rattle.gr_meets.proofs.Examples.{exact}
use Rattle.gr_meets.proofs.FirstFaults.{found, only, first_fault, stops, only_one}
use Rattle.gr_meets.proofs.laws.example_is_exact.Goals as goal

pub returns-clause-found : goal.returns-clause-found
returns-clause-found c = λ limit turns ts rest lines h. found (exact limit) turns ts lines rest h

pub returns-clause-complete : goal.returns-clause-complete
returns-clause-complete c = λ limit turns ts lines h few. (exact limit).reads turns ts lines h few

pub returns-clause-unique : goal.returns-clause-unique
returns-clause-unique c = λ limit ts lines others h k. only (exact limit) ts lines others h k

pub returns-clause-fault : goal.returns-clause-fault
returns-clause-fault c = λ limit turns ts left few h. first_fault (exact limit) turns ts left few h

pub returns-clause-stops : goal.returns-clause-stops
returns-clause-stops c = λ limit turns ts left few h. stops (exact limit) turns ts left few h

pub returns-clause-one : goal.returns-clause-one
returns-clause-one c = λ limit ts here there h k. only_one (IsText limit) ts here there h k
