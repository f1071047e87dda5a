use Rattle.std.proofs.Common.{rules, arith, ◌∙◌, sym, subst, ap, List, append-nil, Ok, []}
use Rattle.gr_hist.specs.declared.text.NamedEntry.{NamedEntry}
use Rattle.gr_hist.specs.Grammar.{Lines, ReadsLines, with_front}
use Rattle.gr_hist.specs.LineWords.{SaysLine}
use Rattle.gr_hist.proofs.Readings.{after, after_push, bad_step, end_step, line_step, shorter}
use Rattle.gr_hist.proofs.reading.entries.Goals as goal

pub each-preserved : goal.each-preserved
each-preserved c =
    let less = shorter c.each.rest.now c.in-Ok.more.now c.in-Ok.entry (search rules) in
    record {
      place = omega (arith, c.each.invariant.place, less);
      reads = λ r more. subst (λ (o : Lines). ReadsLines 2 c.args.text.now o)
          (after_push c.each.entries c.in-Ok.entry r ∙ ap (λ (l : List NamedEntry). after l r) (search rules))
          (c.each.invariant.reads (with_front c.in-Ok.entry r) (line_step c.each.line c.each.rest.now c.in-Ok.more.now c.in-Ok.entry r (search rules) more));
    }

pub returns-in-Err : goal.returns-in-Err
returns-in-Err c = subst (SaysLine 2 c.args.text.now) (sym c.at.ensures)
    (bad_step c.each.line c.each.rest.now c.args.text.now c.each.entries c.in-Err.error (λ e. search rules) (search rules) c.each.invariant.reads)

pub returns : goal.returns
returns c = subst (λ (l : List NamedEntry). ReadsLines 2 c.args.text.now (Ok l)) (append-nil c.each.entries) (c.each.invariant.reads (Ok []) (end_step c.each.line c.each.rest.now (search rules)))
