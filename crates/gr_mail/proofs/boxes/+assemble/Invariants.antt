use Rattle.std.proofs.Common.{vec_len}
use Rattle.gr_mail.proofs.boxes.+assemble.Given as goal

abbrev pub decreases-assemble : goal.decreases-assemble
decreases-assemble l = vec_len l.outs
