use Rattle.std.proofs.Common.{◌∙◌, ap, map, sym}
use Rattle.std.proofs.lemmas.List.{take-map}
use Rattle.gr_checker.proofs.name_set.NameSet.truncate.Goals as goal

pub returns : goal.returns
returns c = rw (← c.self.view_is) (ap (map (λ k. k.now)) c.truncate.ensures.keys ∙ sym (take-map (λ k. k.now) _ _))
