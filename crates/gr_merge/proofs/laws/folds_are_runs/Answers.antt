use Rattle.gr_merge.proofs.LocalFolds.{fold_runs, run_folds}
use Rattle.gr_merge.proofs.GlobalFolds.{global_found, global_folded}
use Rattle.gr_merge.specs.GlobalRuns.{opening}
use Rattle.gr_merge.proofs.laws.folds_are_runs.Goals as goal

pub returns-clause-local : goal.returns-clause-local
returns-clause-local g c = λ machine core start end received sent journal marks h. fold_runs machine core start end received sent journal marks h

pub returns-clause-local_back : goal.returns-clause-local_back
returns-clause-local_back g c = λ machine core start end received sent entries l. run_folds machine core start end received sent entries l

pub returns-clause-global : goal.returns-clause-global
returns-clause-global g c = λ machine states steps end h. let r = global_found machine steps (opening states) end h in (r.entries, r.same, r.all_noted, r.runs)

pub returns-clause-global_back : goal.returns-clause-global_back
returns-clause-global_back g c = λ machine states ends left entries l. global_folded machine entries ends left (opening states) l
