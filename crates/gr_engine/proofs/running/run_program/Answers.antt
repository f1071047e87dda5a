use Rattle.gr_engine.proofs.Agreeing.{run_agrees, trap_told, legal_told, end_told, ends_told, told_stalled}
use Rattle.gr_engine.proofs.Leading.{ran_stuck}
use Rattle.gr_report.specs.Texts.{first_trap}
use Rattle.gr_engine.proofs.running.run_program.Goals as goal

pub told-requires : goal.told-requires
told-requires g c =
    trap_told c.args.setup c.args.program.now c.in_ok-made.made.outcome c.in_ok-made.made.gathered c.in_ok-made.made.world
    (run_agrees c.runs_agree.ensures c.args.setup c.args.program.now c.in_ok-made.made.outcome c.in_ok-made.made.gathered c.in_ok-made.made.world c.requires.setup c.requires.runnable
    c.in_ok-made.ensures)

pub returns-clause-legal : goal.returns-clause-legal
returns-clause-legal g c =
    legal_told c.args.setup c.args.program.now c.in_ok-made.made.outcome c.in_ok-made.made.gathered c.in_ok-made.made.world
    (run_agrees c.runs_agree.ensures c.args.setup c.args.program.now c.in_ok-made.made.outcome c.in_ok-made.made.gathered c.in_ok-made.made.world c.requires.setup c.requires.runnable
    c.in_ok-made.ensures)
    c.told.result c.told.ensures.world c.told.ensures.ending

pub returns-clause-ends : goal.returns-clause-ends
returns-clause-ends g c =
    ends_told c.args.setup c.args.program.now c.in_ok-made.made.outcome c.in_ok-made.made.gathered c.in_ok-made.made.world
    (run_agrees c.runs_agree.ensures c.args.setup c.args.program.now c.in_ok-made.made.outcome c.in_ok-made.made.gathered c.in_ok-made.made.world c.requires.setup c.requires.runnable
    c.in_ok-made.ensures)
    c.told.result c.told.ensures.world c.told.ensures.ending

pub returns-clause-stuck : goal.returns-clause-stuck
returns-clause-stuck g c =
    ran_stuck c.args.setup c.args.program.now c.in_ok-made.made.outcome c.in_ok-made.made.gathered c.in_ok-made.made.world c.told.result c.in_ok-made.ensures c.told.ensures.world
    (end_told c.args.setup c.args.program.now c.in_ok-made.made.outcome c.in_ok-made.made.gathered c.in_ok-made.made.world
    (run_agrees c.runs_agree.ensures c.args.setup c.args.program.now c.in_ok-made.made.outcome c.in_ok-made.made.gathered c.in_ok-made.made.world c.requires.setup c.requires.runnable
    c.in_ok-made.ensures)
    c.told.result c.told.ensures.world c.told.ensures.ending)
    (told_stalled c.in_ok-made.made.outcome c.in_ok-made.made.gathered (first_trap c.in_ok-made.made.world.history) c.told.result.ending c.told.ensures.ending)
