use Rattle.std.proofs.Common.{arith}
use Rattle.gr_reduce.proofs.reducer.Reducer.apply.Goals as goal

pub returns : goal.returns
returns g c = (c.args.self.now.reduces c.args.one c.args.other (omega arith) (omega arith)).1 c.call.result c.call.ensures.0
