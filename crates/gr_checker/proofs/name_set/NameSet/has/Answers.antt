use Rattle.std.proofs.Common.{◌∙◌}
use Rattle.gr_checker.proofs.Texts.{has-map}
use Rattle.gr_checker.proofs.name_set.NameSet.has.Goals as goal

pub returns : goal.returns
returns c = rw (← c.self.view_is, ← c.as_str.ensures) (c.contains.ensures ∙ has-map c.as_str.result.now c.self.inside.names.keys)
