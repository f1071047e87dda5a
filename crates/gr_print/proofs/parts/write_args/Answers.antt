use Rattle.std.proofs.Common.{rules, arith}
use Rattle.std.proofs.lemmas.Grind.{common_steps}
use Rattle.gr_print.proofs.Texts.{text_args}
use Rattle.gr_print.proofs.parts.write_args.Goals as goal

pub returns : goal.returns
returns c =
    let parts = text_args c.args.values.now in
    first_of (search rules, grind (arith, common_steps))
