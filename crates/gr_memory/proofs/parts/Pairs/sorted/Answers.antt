use Rattle.std.proofs.Common.{◌∙◌, sym, ap}
use Rattle.std.specs.FinMap as fin
use Rattle.gr_memory.proofs.Trees.{entries_are}
use Rattle.gr_memory.proofs.parts.Pairs.sorted.Goals as goal

pub returns : goal.returns
returns c =
    c.in_ok-pairs.ensures.listed ∙ sym (entries_are c.self.inside.tree.entries c.pairs_in.ensures.ordered)
    ∙ ap fin.entries c.self.view_is
