use Rattle.gr_work.proofs.Ends.{last_taken}
use Rattle.gr_work.proofs.work.take_last.Goals as goal

pub returns-clause-last : goal.returns-clause-last
returns-clause-last c = last_taken c.args.units.now.items c.pop_back.new.self.items c.pop_back.result c.pop_back.new.self.len c.args.units.now.len c.args.units.now.ok.0 c.pop_back.ensures.items c.pop_back.ensures.cases
