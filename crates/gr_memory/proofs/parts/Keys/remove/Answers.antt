use Rattle.std.proofs.Common.{◌∙◌, ap}
use Rattle.std.specs.FinSet as set
use Rattle.gr_memory.proofs.Trees.{take_key}
use Rattle.gr_memory.proofs.parts.Keys.remove.Goals as goal

pub returns : goal.returns
returns c = take_key c.self.inside.tree.keys c.remove.new.self.keys c.args.key c.remove.ensures.updates.0 ∙ ap (λ s. set.remove s c.args.key) c.self.view_is
