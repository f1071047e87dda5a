use Rattle.std.proofs.Common.{◌∙◌, ap}
use Rattle.std.specs.FinMap as fin
use Rattle.gr_memory.proofs.Trees.{take_pair}
use Rattle.gr_memory.proofs.parts.Pairs.erase.Goals as goal

pub returns : goal.returns
returns c = take_pair c.self.inside.tree.entries c.remove.new.self.entries c.args.key c.remove.ensures.updates.0 ∙ ap (λ m. fin.remove m c.args.key) c.self.view_is
