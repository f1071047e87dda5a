use Rattle.std.proofs.Common.{◌∙◌, sym, ap}
use Rattle.std.specs.FinSet as set
use Rattle.gr_memory.proofs.Trees.{count_keys}
use Rattle.gr_memory.proofs.parts.Keys.len.Goals as goal

pub returns : goal.returns
returns c = c.len.ensures.len ∙ sym (count_keys c.self.inside.tree.keys c.len.ensures.ordered) ∙ ap set.len c.self.view_is
