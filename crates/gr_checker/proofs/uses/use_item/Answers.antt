use Rattle.gr_checker.specs.MeaningView.{meaning_of}
use Rattle.gr_checker.proofs.Leasts.{faults-begins}
use Rattle.gr_checker.proofs.uses.use_item.Goals as goal

pub returns-in_ok-found-in-Task : goal.returns-in_ok-found-in-Task
returns-in_ok-found-in-Task c = rw c.in-Task.is (cc (
  faults-begins (meaning_of c.args.meanings.now) c.in-Task.name c.in-Task.params,
  c.in_ok-found-in-Task.ensures,
  c.check_params.ensures,
))
