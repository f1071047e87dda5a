use Rattle.std.proofs.Common.{ap, subst}
use Rattle.gr_top.specs.Readings.{ReadsAs}
use Rattle.gr_top.specs.Due.{Reading}
use Rattle.gr_top.specs.AnswerView.{reading_of}
use Rattle.gr_top.proofs.Namings.{accepted_named, accepted_runnable}
use Rattle.gr_top.proofs.engine.run_text.Goals as goal

pub accepted-requires-clause-named : goal.accepted-requires-clause-named
accepted-requires-clause-named g c κs within = accepted_named c.args.text.now c.in-Accepted.program (subst (λ (r : Reading). ReadsAs c.args.text.now r) (ap reading_of c.in-Accepted.is) c.in_ok-read.ensures)

pub accepted-requires-clause-runnable : goal.accepted-requires-clause-runnable
accepted-requires-clause-runnable g c κs within =
    accepted_runnable c.texts_are_runnable.ensures c.args.text.now c.in-Accepted.program
    (subst (λ (r : Reading). ReadsAs c.args.text.now r) (ap reading_of c.in-Accepted.is) c.in_ok-read.ensures)
