use Rattle.gr_merge.proofs.Joins.{runs_join}
use Rattle.gr_merge.proofs.laws.journals_grow.Goals as goal

pub returns : goal.returns
returns g c = λ machine core start middle end received sent later_received later_sent journal later marks later_marks h k.
    runs_join machine core start middle end received sent later_received later_sent journal later marks later_marks h k
