use Rattle.gr_shares_steals.proofs.Questions.{gifts_are_expected}
use Rattle.gr_shares_steals.proofs.Gifts.{gifts_keep_shares}
use Rattle.gr_shares_steals.proofs.laws.gifts_share.Goals as goal

pub returns-clause-given : goal.returns-clause-given
returns-clause-given c = gifts_keep_shares

pub returns-clause-taken : goal.returns-clause-taken
returns-clause-taken c = gifts_are_expected
