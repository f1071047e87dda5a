use Rattle.std.proofs.Common.{◌+◌, ◌∙◌, Err, ap, sym, subst}
use Rattle.gr_replay.specs.Judged.{JudgedText, SaysError, legal}
use Rattle.gr_replay.proofs.Verdicts.{judged}
use Rattle.gr_replay.proofs.Progress.{further, stops, says, ends}
use Rattle.gr_replay.proofs.judging.replay.Goals as goal

pub returns-in-Err : goal.returns-in-Err
returns-in-Err c =
    subst (SaysError c.args.program.now c.args.text.now) (sym c.replay_error.ensures)
    (says c.args.program.now c.args.text.now (c.loop-at.at + 1) c.in-Err.error
    (λ e. stops c.as_slice-lines.result.now c.loop-at.at c.index-lines-at.result c.loop-at-test.true c.index-lines-at.is c.loop-at.plain _ c.loop-at.invariant.rest (c.advance-taken.ensures.not_legal (c.in-Err.is ∙ ap Err e))))

pub loop-at-preserved : goal.loop-at-preserved
loop-at-preserved c =
    let to = further c.as_slice-lines.result.now c.loop-at.at c.index-lines-at.result c.loop-at-test.true c.index-lines-at.is c.loop-at.plain c.advance-taken.new.plain _ c.loop-at.invariant.rest c.in_default.ensures.ok in
    record { program = to.program ∙ c.loop-at.invariant.program; cores = to.cores ∙ c.loop-at.invariant.cores; steps = to.steps ∙ c.loop-at.invariant.steps; rest = to.same }

pub returns : goal.returns
returns c =
    let all = ends c.loop-at.at c.loop-at.plain c.as_slice-lines.result.now _ c.loop-at-test.false c.loop-at.invariant.rest in
    subst (JudgedText c.args.program.now c.args.text.now) (all ∙ ap legal (sym c.complete.ensures))
    (judged c.args.program.now c.args.text.now.cores c.args.text.now.steps c.args.text.now.lines)
