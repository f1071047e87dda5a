use Rattle.std.proofs.Common.{◌∙◌, sym}
use Rattle.gr_replay.proofs.Verdicts.{said}
use Rattle.gr_replay.proofs.laws.judged_once.Goals as goal

pub returns : goal.returns
returns c = λ p N L lines v w is_v is_w. said p N L lines v is_v ∙ sym (said p N L lines w is_w)
