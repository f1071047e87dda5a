use Rattle.std.proofs.Common.{sym}
use Rattle.gr_state.specs.StateView.{seen_of}
use Rattle.gr_state.proofs.Giving.{nobody_waits, nothing_there}
use Rattle.gr_state.proofs.state.State.give_one.Goals as goal

pub returns-in-None : goal.returns-in-None
returns-in-None c = nobody_waits (seen_of c.args.self.now) (sym c.in-None.ensures)

pub returns-in-None-give : goal.returns-in-None-give
returns-in-None-give c = nothing_there (seen_of c.args.self.now) c.give.new.self (sym c.in-None-give.ensures.unit) c.give.ensures.rest
