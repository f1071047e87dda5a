use Rattle.gr_mail.proofs.Mails.{joined_still}
use Rattle.gr_mail.proofs.laws.mails_stay_joined.Goals as goal

pub returns : goal.returns
returns c = joined_still
