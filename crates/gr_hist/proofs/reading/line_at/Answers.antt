use Rattle.std.proofs.Common.{rules}
use Rattle.gr_hist.specs.LineWords.{IsNoLine}
use Rattle.gr_hist.proofs.LineBytes.{at_line, at_no_feed, at_no_line}
use Rattle.gr_hist.proofs.reading.line_at.Goals as goal

pub returns-in_err-entry-in-Some : goal.returns-in_err-entry-in-Some
returns-in_err-entry-in-Some c =
    let none : IsNoLine c.args.text.now c.in_err-entry-in-Some.field-0.0 = at_no_line c.args.text.now c.in-Some.line.now c.in-Some.rest.now c.in_err-entry-in-Some.field-0.0 (search rules) c.in_err-entry-in-Some.ensures in
    search (rules, none)

pub returns-in_ok-entry-in-Some : goal.returns-in_ok-entry-in-Some
returns-in_ok-entry-in-Some c = at_line c.args.text.now c.in-Some.line.now c.in-Some.rest.now c.in_ok-entry-in-Some.entry (search rules) (search rules)

pub returns-in-None : goal.returns-in-None
returns-in-None c = at_no_feed c.args.text.now (search rules)
