use Rattle.std.proofs.Common.{rules, arith}
use Rattle.std.proofs.lemmas.Grind.{common_steps}
use Rattle.gr_print.proofs.Texts.{text_task}
use Rattle.gr_print.proofs.declarations.write_task.Goals as goal

pub returns : goal.returns
returns c =
    let parts = text_task c.args.name.now c.args.params.now c.args.body.now in
    first_of (search rules, grind (arith, common_steps))
