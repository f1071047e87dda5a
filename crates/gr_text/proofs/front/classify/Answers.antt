use Rattle.std.proofs.Common.{arith}
use Rattle.gr_text.proofs.Found.{blank_fits}
use Rattle.gr_text.proofs.front.classify.Goals as goal

pub returns-then-length-gt0 : goal.returns-then-length-gt0
returns-then-length-gt0 c = (omega arith, omega (arith, blank_fits c.args.text.now, c.blank_len-length.ensures), c.blank_len-length.ensures)
