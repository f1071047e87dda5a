use Rattle.gr_stands_changes.proofs.Quiet.{quiet_messages_are_served}
use Rattle.gr_stands_changes.proofs.Units.{steals_are_asked, gifts_are_taken, chunks_are_split}
use Rattle.gr_stands_changes.proofs.laws.quiet_messages_are_served.Goals as goal

pub returns-clause-served : goal.returns-clause-served
returns-clause-served c = quiet_messages_are_served

pub returns-clause-steals : goal.returns-clause-steals
returns-clause-steals c = steals_are_asked

pub returns-clause-gift : goal.returns-clause-gift
returns-clause-gift c = gifts_are_taken

pub returns-clause-splits : goal.returns-clause-splits
returns-clause-splits c = chunks_are_split
