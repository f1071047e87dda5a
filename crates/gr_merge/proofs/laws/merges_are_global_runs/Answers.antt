use Rattle.gr_merge.proofs.Theorem.{merge_runs}
use Rattle.gr_merge.proofs.laws.merges_are_global_runs.Goals as goal

pub returns : goal.returns
returns g c = λ machine time noted clocked journals marks states ends received sent left l h matched.
    merge_runs machine time noted clocked journals marks states ends received sent left l h matched
