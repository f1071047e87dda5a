use Rattle.gr_merge.proofs.Joins.{inner_goes_on, take_goes_on, ship_goes_on}
use Rattle.gr_merge.proofs.laws.runs_go_on.Goals as goal

pub returns-clause-inner : goal.returns-clause-inner
returns-clause-inner g c = λ machine core start state received sent journal marks entry went h k step.
    inner_goes_on machine core start state received sent journal marks entry went h k step

pub returns-clause-takes : goal.returns-clause-takes
returns-clause-takes g c = λ machine core start state received sent journal marks entry origin packet went h k step.
    take_goes_on machine core start state received sent journal marks entry origin packet went h k step

pub returns-clause-ships : goal.returns-clause-ships
returns-clause-ships g c = λ machine core start state received sent journal marks entry dest packet went h k step.
    ship_goes_on machine core start state received sent journal marks entry dest packet went h k step
