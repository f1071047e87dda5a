use Rattle.gr_replay.specs.Judged.{is_legal}
use Rattle.gr_replay.proofs.laws.legal_is_judged.Goals as goal

pub returns : goal.returns
returns c = λ p N L lines history S names is_after. is_legal history S names is_after
