use Rattle.gr_mail.proofs.Mails.{known_received, received_first}
use Rattle.gr_mail.proofs.laws.packets_keep_their_order.Goals as goal

pub returns-clause-sent : goal.returns-clause-sent
returns-clause-sent c = received_first

pub returns-clause-known : goal.returns-clause-known
returns-clause-known c = known_received
