use Rattle.std.proofs.Common.{◌∙◌, sym, ap}
use Rattle.std.specs.FinSet as set
use Rattle.gr_memory.specs.Contents.{rising}
use Rattle.gr_memory.proofs.Trees.{keys_are}
use Rattle.gr_memory.proofs.parts.Keys.sorted.Goals as goal

pub returns : goal.returns
returns c =
    c.in_ok-words.ensures.listed ∙ sym (keys_are c.self.inside.tree.keys c.keys_in.ensures.ordered)
    ∙ ap (λ s. rising (set.items s)) c.self.view_is
