use Rattle.std.proofs.Common.{◌∙◌, sym, ap}
use Rattle.std.specs.FinMap as fin
use Rattle.gr_memory.proofs.Trees.{get_key}
use Rattle.gr_memory.proofs.parts.Pairs.get.Goals as goal

pub returns : goal.returns
returns c = c.copied.ensures ∙ c.get.ensures.value ∙ sym (get_key c.self.inside.tree.entries c.args.key) ∙ ap (λ m. fin.get m c.args.key) c.self.view_is
