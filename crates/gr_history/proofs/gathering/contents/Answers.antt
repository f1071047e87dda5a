use Rattle.gr_round.specs.declared.outcomes.Outcome.TheVariants as how
use Rattle.gr_history.proofs.gathering.contents.Goals as goal

pub returns-clause-plain : goal.returns-clause-plain
returns-clause-plain c = λ setup ends entries is runnable are of fit told over.
    let agree = c.runs_agree.ensures setup c.args.code.now.program how.Ended c.in_ok-held.held c.args.cores.now ends entries is runnable are of fit told over (λ e. c.in_ok-held.ensures) in
    (agree.state, agree.leads, agree.agrees.0, agree.agrees.1)
