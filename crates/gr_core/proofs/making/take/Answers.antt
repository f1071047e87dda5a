use Rattle.gr_core.specs.CoreView.{run_in}
use Rattle.gr_core.proofs.Carrying.{nothing_taken}
use Rattle.gr_core.proofs.Keeping.{none_taken_keeps, taken_keeps}
use Rattle.gr_core.proofs.making.take.Goals as goal

pub returns-in-None-clause-carries : goal.returns-in-None-clause-carries
returns-in-None-clause-carries c =
    nothing_taken c.args.mail.now c.take-found.new.self (run_in c.args.running.now) c.args.from c.requires.carries
    c.in-None.ensures.rings c.in-None.ensures.sent c.in-None.ensures.received

pub returns-in-None-clause-kept : goal.returns-in-None-clause-kept
returns-in-None-clause-kept c =
    none_taken_keeps c.args.mail.now c.take-found.new.self c.args.from c.in-None.ensures.received c.in-None.ensures.known
    c.in-None.ensures.none.0 c.in-None.ensures.none.1

pub returns-in_ok-take-in-Some-clause-kept : goal.returns-in_ok-take-in-Some-clause-kept
returns-in_ok-take-in-Some-clause-kept c =
    taken_keeps c.args.mail.now c.take-found.new.self c.args.from c.in-Some.packet c.in-Some.ensures.received c.in-Some.ensures.known c.in-Some.ensures.next
