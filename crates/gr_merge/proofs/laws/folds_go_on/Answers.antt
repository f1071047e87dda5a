use Rattle.gr_merge.proofs.GoingOn.{local_goes_on, global_goes_on}
use Rattle.gr_merge.proofs.laws.folds_go_on.Goals as goal

pub returns-clause-local : goal.returns-clause-local
returns-clause-local g c = λ machine core came entries more. local_goes_on machine core came entries more

pub returns-clause-global : goal.returns-clause-global
returns-clause-global g c = λ machine world steps more. global_goes_on machine world steps more
