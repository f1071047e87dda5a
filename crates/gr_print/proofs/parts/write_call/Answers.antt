use Rattle.std.proofs.Common.{rules, arith}
use Rattle.std.proofs.lemmas.Grind.{common_steps}
use Rattle.gr_print.proofs.Texts.{text_call}
use Rattle.gr_print.proofs.parts.write_call.Goals as goal

pub returns : goal.returns
returns c =
    let parts = text_call c.args.call.now in
    first_of (search rules, grind (arith, common_steps))
