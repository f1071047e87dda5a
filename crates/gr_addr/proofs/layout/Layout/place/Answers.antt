use Rattle.std.proofs.Common.{arith}
use Rattle.gr_addr.proofs.Dealt.{place_fits}
use Rattle.gr_addr.proofs.layout.Layout.place.Goals as goal

pub overflow_add-result : goal.overflow_add-result
overflow_add-result c = omega (arith, place_fits c.args.self.now.cores c.args.self.now.block c.args.at)
