use Rattle.gr_history.proofs.Agreeing as agreeing
use Rattle.gr_history.proofs.laws.runs_agree.Goals as goal

pub returns : goal.returns
returns c =
    agreeing.runs_agree c.runs_merge.ensures.unused c.runs_merge.ensures.merged c.contents_stand.ensures c.runs_are_given.ensures.sound c.runs_are_given.ensures.slots c.runs_are_legal.ensures.given
    c.stops_tell.ensures.tell c.passed_runs_rest.ensures c.runs_put_as_planned.ensures
