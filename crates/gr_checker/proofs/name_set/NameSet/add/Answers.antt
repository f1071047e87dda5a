use Rattle.std.proofs.Common.{◌∙◌, ap, map}
use Rattle.gr_checker.proofs.Texts.{add-map}
use Rattle.gr_checker.proofs.name_set.NameSet.add.Goals as goal
use Rattle.gr_checker.proofs.name_set.NameSet.add.Goals.{in-Ok, in-Err}

pub returns : goal.returns
returns c = elim c.match-insert.branch [
  | in-Ok w ↦ rw (w.result-is, ← c.self.view_is, ← c.as_str.ensures) (ap (map (λ k. k.now)) w.in-Ok.ensures.keys ∙ add-map c.as_str.result c.self.inside.names.keys)
  | in-Err w ↦ rw w.result-is tt
]
