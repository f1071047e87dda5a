use Rattle.std.proofs.Common.{◌∙◌, sym, ap}
use Rattle.std.specs.FinSet as set
use Rattle.gr_memory.proofs.Trees.{has_key}
use Rattle.gr_memory.proofs.parts.Keys.has.Goals as goal

pub returns : goal.returns
returns c = c.contains.ensures ∙ sym (has_key c.self.inside.tree.keys c.args.key) ∙ ap (λ s. set.contains s c.args.key) c.self.view_is
