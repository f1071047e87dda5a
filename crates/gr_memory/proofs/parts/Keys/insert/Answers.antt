use Rattle.std.proofs.Common.{◌∙◌, ap}
use Rattle.std.specs.FinSet as set
use Rattle.gr_memory.proofs.Trees.{add_key}
use Rattle.gr_memory.proofs.parts.Keys.insert.Goals as goal

pub returns-clause-ok : goal.returns-clause-ok
returns-clause-ok c = add_key c.self.inside.tree.keys c.insert.new.self.keys c.args.key c.in_ok-insert.ensures.updates.0 ∙ ap (λ s. set.insert s c.args.key) c.self.view_is
