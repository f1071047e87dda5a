use Rattle.std.proofs.Common.{◌∙◌, sym}
use Rattle.gr_hist.proofs.Readings.{reads_once}
use Rattle.gr_replay.specs.Laws.{JudgedOnce}
use Rattle.gr_replay.proofs.Verdicts.{said}
use Rattle.gr_top.proofs.Once.{once}
use Rattle.gr_top.proofs.Exact.{replays_once, due_once}
use Rattle.gr_top.proofs.laws.answers_are_exact.Goals as goal

judged_once : JudgedOnce
judged_once = λ p N L lines v w is_v is_w. said p N L lines v is_v ∙ sym (said p N L lines w is_w)

pub returns-clause-reading : goal.returns-clause-reading
returns-clause-reading c = λ text r q h k. once text r q h k

pub returns-clause-replay : goal.returns-clause-replay
returns-clause-replay c = λ text history x y h k. replays_once reads_once judged_once text history x y h k

pub returns-clause-due : goal.returns-clause-due
returns-clause-due c = λ words bytes world d e h k. due_once reads_once judged_once words bytes world d e h k
