use Rattle.gr_stands_closes.proofs.Closes as closes
use Rattle.gr_stands_closes.proofs.laws.calls_go_off.Goals as goal

pub returns : goal.returns
returns c = closes.calls_go_off
