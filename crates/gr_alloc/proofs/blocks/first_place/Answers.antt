use Rattle.std.proofs.Common.{sym, arith}
use Rattle.gr_alloc.proofs.Starts.{none_over, great_at, inside_at}
use Rattle.gr_alloc.proofs.blocks.first_place.Goals as goal

pub returns-then-count-len-clause-value : goal.returns-then-count-len-clause-value
returns-then-count-len-clause-value c = sym (none_over c.args.cuts.now c.args.holes.now c.args.count c.requires (omega arith))

pub returns-clause-fits : goal.returns-clause-fits
returns-clause-fits c = great_at c.args.holes.now c.args.count c.first_at_least.result c.first_at_least.ensures

pub returns-clause-inside : goal.returns-clause-inside
returns-clause-inside c = inside_at c.args.cuts.now c.args.holes.now c.args.count c.requires (omega arith) c.first_at_least.result c.first_at_least.ensures
