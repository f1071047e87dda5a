use Rattle.std.proofs.Common.{rules}
use Rattle.gr_hist.specs.LineWords.{IsNoHeader}
use Rattle.gr_hist.proofs.LineBytes.{at_header, at_no_first, at_no_header}
use Rattle.gr_hist.proofs.reading.header_at.Goals as goal

pub returns-in_err-sizes-in-Some : goal.returns-in_err-sizes-in-Some
returns-in_err-sizes-in-Some c =
    let none : IsNoHeader c.args.text.now c.in_err-sizes-in-Some.field-0.0 = at_no_header c.args.text.now c.in-Some.line.now c.in-Some.rest.now c.in_err-sizes-in-Some.field-0.0 (search rules) c.in_err-sizes-in-Some.ensures in
    search (rules, none)

pub returns-in_ok-sizes-in-Some : goal.returns-in_ok-sizes-in-Some
returns-in_ok-sizes-in-Some c = at_header c.args.text.now c.in-Some.line.now c.in-Some.rest.now c.in_ok-sizes-in-Some.sizes (search rules) (search rules)

pub returns-in-None : goal.returns-in-None
returns-in-None c = at_no_first c.args.text.now (search rules)
