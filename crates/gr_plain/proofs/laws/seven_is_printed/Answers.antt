use Rattle.gr_plain.proofs.Printed.{seven_printed}
use Rattle.gr_plain.proofs.laws.seven_is_printed.Goals as goal

pub returns : goal.returns
returns c = seven_printed
