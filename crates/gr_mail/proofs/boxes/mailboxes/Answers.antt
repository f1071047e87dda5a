use Rattle.gr_mail.proofs.Making.{are_ends, are_mailboxes}
use Rattle.gr_mail.proofs.boxes.mailboxes.Goals as goal

pub assemble-requires : goal.assemble-requires
assemble-requires c = are_ends _ _ _ c.in_ok-outs.ensures

pub returns : goal.returns
returns c = are_mailboxes _ _ _ c.in_ok-outs.ensures _ c.in_ok-mails.ensures
