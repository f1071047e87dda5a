use Rattle.gr_report.specs.Gathered.{held_by}
use Rattle.gr_report.proofs.Gathers.{held_lists}
use Rattle.gr_report.proofs.gathering.held_by.Goals as goal

pub returns : goal.returns
returns c = held_lists c.new-words.result.entries c.note_cores.new.words.entries c.in_ok-pairs.pairs (held_by c.args.cores.now c.args.object)
    c.new-words.ensures.empty c.in_ok-pairs.ensures.listed c.in_ok-pairs.ensures.ordered c.in_ok-note_cores.ensures
