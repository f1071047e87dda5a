use Rattle.std.proofs.Common.{◌∙◌, ap}
use Rattle.std.specs.FinMap as fin
use Rattle.gr_memory.proofs.Trees.{put_pair}
use Rattle.gr_memory.proofs.parts.Pairs.put.Goals as goal

pub returns-clause-ok : goal.returns-clause-ok
returns-clause-ok c = put_pair c.self.inside.tree.entries c.insert.new.self.entries c.args.key c.args.word c.in_ok-insert.ensures.updates.0 ∙ ap (λ m. fin.insert m c.args.key c.args.word) c.self.view_is
