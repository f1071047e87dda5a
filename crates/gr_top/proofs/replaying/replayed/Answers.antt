use Rattle.std.proofs.Common.{Err, ap, subst, ◌∙◌, is_some}
use Rattle.gr_hist.specs.Grammar.{ReadsText, SaysError}
use Rattle.gr_top.specs.Readings.{ReplaysAs}
use Rattle.gr_top.specs.Due.{bad_line, judged, due_replayed}
use Rattle.gr_top.proofs.Dues.{is_made}
use Rattle.gr_top.proofs.replaying.replayed.Goals as goal

pub returns-in_ok-answer-in-Ok-clause-due : goal.returns-in_ok-answer-in-Ok-clause-due
returns-in_ok-answer-in-Ok-clause-due c = λ text h.
    let d = c.in_ok-answer-in-Ok.ensures.due in (judged d.0, ReplaysAs.of_history h c.in-Ok.ensures.reads d.1, d.2)

pub returns-in_ok-words-in-Err-clause-due : goal.returns-in_ok-words-in-Err-clause-due
returns-in_ok-words-in-Err-clause-due c = λ text h.
    let reads : ReadsText c.args.history.now (Err c.in_ok-line-in-Err.line) = subst (SaysError c.args.history.now) c.in_ok-line-in-Err.ensures.line c.in-Err.ensures.reads in (
      bad_line c.in_ok-line-in-Err.line,
      ReplaysAs.of_line h reads,
      is_made c.told.result (due_replayed (bad_line c.in_ok-line-in-Err.line)) c.told.ensures.0 (c.told.ensures.1 ∙ c.in_ok-words-in-Err.ensures) (ap is_some c.told.ensures.2),
    )
