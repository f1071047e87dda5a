use Rattle.std.proofs.Common.{rules, sym, subst, Ok}
use Rattle.gr_hist.specs.Grammar.{IsSameError, SaysError}
use Rattle.gr_hist.specs.LineWords.{error_at}
use Rattle.gr_hist.proofs.Readings.{headed_error, headed_ok, headless_error, reads_once, same_error}
use Rattle.gr_hist.proofs.reading.read.Goals as goal

pub returns-in_err-lines-in-Ok-clause-reads : goal.returns-in_err-lines-in-Ok-clause-reads
returns-in_err-lines-in-Ok-clause-reads c =
    let says : SaysError c.args.text.now c.in_err-lines-in-Ok.field-0.0 = headed_error c.args.text.now c.in-Ok.rest.now c.in-Ok.cores c.in-Ok.steps c.in_err-lines-in-Ok.field-0.0 (search rules) c.in_err-lines-in-Ok.ensures in
    search (rules, says)

pub returns-in_err-lines-in-Ok-clause-only : goal.returns-in_err-lines-in-Ok-clause-only
returns-in_err-lines-in-Ok-clause-only c = λ r reads.
    let says : SaysError c.args.text.now c.in_err-lines-in-Ok.field-0.0 = headed_error c.args.text.now c.in-Ok.rest.now c.in-Ok.cores c.in-Ok.steps c.in_err-lines-in-Ok.field-0.0 (search rules) c.in_err-lines-in-Ok.ensures in
    let same : IsSameError r c.in_err-lines-in-Ok.field-0.0 = same_error c.args.text.now r c.in_err-lines-in-Ok.field-0.0 reads says in
    search (rules, same)

pub returns-in_ok-lines-in-Ok-clause-reads : goal.returns-in_ok-lines-in-Ok-clause-reads
returns-in_ok-lines-in-Ok-clause-reads c = headed_ok c.args.text.now c.in-Ok.rest.now c.in-Ok.cores c.in-Ok.steps c.in_ok-lines-in-Ok.lines (search rules) (search rules)

pub returns-in_ok-lines-in-Ok-clause-only : goal.returns-in_ok-lines-in-Ok-clause-only
returns-in_ok-lines-in-Ok-clause-only c = λ r reads. reads_once c.args.text.now r (Ok (record { cores = c.in-Ok.cores; steps = c.in-Ok.steps; lines = c.in_ok-lines-in-Ok.lines })) reads
    (headed_ok c.args.text.now c.in-Ok.rest.now c.in-Ok.cores c.in-Ok.steps c.in_ok-lines-in-Ok.lines (search rules) (search rules))

pub returns-in-Err-clause-reads : goal.returns-in-Err-clause-reads
returns-in-Err-clause-reads c = subst (SaysError c.args.text.now) (sym c.at.ensures) (headless_error c.args.text.now c.in-Err.error (search rules))

pub returns-in-Err-clause-only : goal.returns-in-Err-clause-only
returns-in-Err-clause-only c = λ r reads. subst (IsSameError r) (sym c.at.ensures)
    (same_error c.args.text.now r (error_at 1 c.in-Err.error) reads (headless_error c.args.text.now c.in-Err.error (search rules)))
