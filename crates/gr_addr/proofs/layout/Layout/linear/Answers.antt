use Rattle.std.proofs.Common.{arith}
use Rattle.gr_addr.proofs.Dealt.{linear_fits}
use Rattle.gr_addr.proofs.layout.Layout.linear.Goals as goal

pub overflow_mul-result-2 : goal.overflow_mul-result-2
overflow_mul-result-2 c =
    omega (arith, linear_fits c.args.self.now.cores c.args.self.now.block c.args.self.now.words c.args.core c.args.place c.args.self.now.is_layout c.requires.core c.requires.held)

pub overflow_add-result-2 : goal.overflow_add-result-2
overflow_add-result-2 c =
    omega (arith, linear_fits c.args.self.now.cores c.args.self.now.block c.args.self.now.words c.args.core c.args.place c.args.self.now.is_layout c.requires.core c.requires.held)

pub returns-clause-within : goal.returns-clause-within
returns-clause-within c =
    linear_fits c.args.self.now.cores c.args.self.now.block c.args.self.now.words c.args.core c.args.place c.args.self.now.is_layout c.requires.core c.requires.held
