use Rattle.std.proofs.Common.{List, subst}
use Rattle.gr_code.specs.Shapes.{shapes_of}
use Rattle.gr_core.specs.declared.cores.Core.{Core}
use Rattle.gr_machine.specs.Machines.{machine_of}
use Rattle.gr_report.specs.Gathered.{AreGathered}
use Rattle.gr_engine.proofs.Leading.{made_run}
use Rattle.gr_engine.proofs.making.run_code.Goals as goal

pub run-requires-clause-cores : goal.run-requires-clause-cores
run-requires-clause-cores g c κs within = (machine_of c.args.setup c.args.code.now.program, c.in_ok-cores.ensures.cores)

pub finish-requires-clause-cores : goal.finish-requires-clause-cores
finish-requires-clause-cores g c =
    (machine_of c.args.setup c.args.code.now.program, c.in_ok-ran.ensures.cores (machine_of c.args.setup c.args.code.now.program) c.in_ok-cores.ensures.cores)

pub returns : goal.returns
returns g c =
    made_run c.args.setup c.args.code.now.program c.in_ok-cores.cores.items c.in_ok-ran.ran.cores.items c.in_ok-ran.ran.outcome c.in_ok-gathered.gathered
    c.in_ok-ends.ends c.in_ok-history.history c.in_ok-cores.ensures.cores c.in_ok-ran.ensures.cores c.in_ok-ran.ensures.outcome
    (λ e. subst (λ (cores : List Core). AreGathered cores 0 (shapes_of c.args.code.now.program) c.in_ok-gathered.gathered) c.as_slice.ensures.value (c.in_ok-gathered.ensures e))
    c.in_ok-ends.ensures.each c.in_ok-ends.ensures.ends c.in_ok-history.ensures.run
