use Rattle.std.proofs.Common.{ap, ◌∙◌}
use Rattle.gr_syntax.specs.declared.syntax.Program.{Program}
use Rattle.gr_machine.specs.Machines.{has_task, machine_of}
use Rattle.gr_runs.proofs.units.has_task.Goals as goal

pub returns : goal.returns
returns c =
    let setup = c.args.state.now.posts.setup in
    c.has_task.ensures setup ∙ ap (λ (program : Program). has_task (machine_of setup program) c.args.target c.args.count) c.code.ensures
