use Rattle.std.proofs.Common.{rules}
use Rattle.gr_replay.specs.Division.{program_part}
use Rattle.gr_top.specs.Readings.{ReadsAs, ReplaysAs}
use Rattle.gr_top.specs.Due.{refused, unread}
use Rattle.gr_top.proofs.replaying.replay_source.Goals as goal

pub returns-in_ok-answer-in-Refused-clause-due : goal.returns-in_ok-answer-in-Refused-clause-due
returns-in_ok-answer-in-Refused-clause-due c =
    let h : ReadsAs (program_part c.args.source.now) (refused c.in-Refused.fault) = search rules in
    (unread c.in-Refused.fault, ReplaysAs.of_fault h, c.in_ok-answer-in-Refused.ensures.due)
