use Rattle.std.proofs.Common.{◌≡◌, drop}
use Rattle.gr_replay.proofs.Verdicts.{verdict_from, verdict_of}
use Rattle.gr_replay.proofs.judging.replay.Given as goal

abbrev pub invariant-loop-at : goal.invariant-loop-at
invariant-loop-at l = record {
  program : l.plain.program ≡ l.fn.program;
  cores : l.plain.cores ≡ l.fn.text.cores;
  steps : l.plain.steps ≡ l.fn.text.steps;
  rest : verdict_from l.plain.program l.plain.cores l.plain.steps l.at l.plain.state (drop l.at l.lines) ≡ verdict_of l.fn.program l.fn.text.cores l.fn.text.steps l.fn.text.lines;
}
