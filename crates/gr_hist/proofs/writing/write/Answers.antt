use Rattle.std.proofs.Common.{◌≡◌, rules}
use Rattle.gr_hist.specs.Naming.{history_text}
use Rattle.gr_hist.specs.WritingWords.{HaveNumbers}
use Rattle.gr_hist.proofs.WrittenReads.{text_reads}
use Rattle.gr_hist.proofs.Namables.{legal_namable}
use Rattle.gr_hist.proofs.writing.write.Goals as goal

pub returns-clause-reads : goal.returns-clause-reads
returns-clause-reads c = text_reads c.args.program.now c.args.cores c.args.steps c.args.history.now c.put_entries.new.out.items (search rules) (search rules)

pub returns-clause-reads_legal : goal.returns-clause-reads_legal
returns-clause-reads_legal c =
    let text : c.put_entries.new.out.items ≡ history_text c.args.program.now c.args.cores c.args.steps c.args.history.now = search rules in
    let fits : HaveNumbers c.args.program.now c.args.history.now = search rules in
    let accepted = c.program.ensures.accepted in
    λ names is_legal. text_reads c.args.program.now c.args.cores c.args.steps c.args.history.now c.put_entries.new.out.items text fits
    (legal_namable c.args.program.now c.args.cores c.args.steps c.args.history.now accepted names is_legal)
