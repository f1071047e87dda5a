use Rattle.gr_core.specs.Cores.{run_of}
use Rattle.gr_report.proofs.Gathers.{holds_by}
use Rattle.gr_report.proofs.gathering.held_at.Goals as goal

pub returns : goal.returns
returns c =
    let body = (run_of c.args.core.now).seen.core.body in
    holds_by (body.vectors.vectors c.args.object) (body.words.shards c.args.object) c.in_ok-pairs.pairs c.in_ok-pairs.ensures.keys c.in_ok-pairs.ensures.words
