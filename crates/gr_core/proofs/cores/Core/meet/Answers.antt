use Rattle.gr_mail.specs.Rings.{owner}
use Rattle.gr_core.specs.Cores.{mail_of}
use Rattle.gr_core.proofs.Keeping.{looked_keeps}
use Rattle.gr_core.proofs.cores.Core.meet.Goals as goal

pub returns-clause-kept : goal.returns-clause-kept
returns-clause-kept c = looked_keeps (mail_of c.args.one.now) c.meet.new.one (owner (mail_of c.args.other.now)) c.meet.ensures.one

pub returns-clause-kept_back : goal.returns-clause-kept_back
returns-clause-kept_back c = looked_keeps (mail_of c.args.other.now) c.meet.new.other (owner (mail_of c.args.one.now)) c.meet.ensures.other
