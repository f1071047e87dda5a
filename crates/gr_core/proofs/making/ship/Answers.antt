use Rattle.gr_core.specs.CoreView.{run_in}
use Rattle.gr_core.proofs.Carrying.{nothing_sent}
use Rattle.gr_core.proofs.making.ship.Goals as goal

pub returns-in-Back-clause-carries : goal.returns-in-Back-clause-carries
returns-in-Back-clause-carries c =
    nothing_sent c.args.mail.now c.send.new.self (run_in c.args.running.now) c.args.dest c.requires.carries
    c.in-Back.ensures.rings c.in-Back.ensures.received c.in-Back.ensures.sent
