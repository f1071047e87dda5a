use Rattle.std.proofs.Common.{sym, subst}
use Rattle.gr_syntax.specs.declared.syntax.Program.{Program}
use Rattle.gr_checker.specs.declared.checking.CheckError.{CheckError}
use Rattle.gr_checker.specs.Refusals.{Refuses}
use Rattle.gr_top.specs.Readings.{ReadsAs}
use Rattle.gr_top.specs.Due.{accepted}
use Rattle.gr_top.proofs.reading.checked.Goals as goal

pub returns-in-Ok : goal.returns-in-Ok
returns-in-Ok c =
    subst (λ (p : Program). ReadsAs c.args.text.now (accepted p)) (sym c.in-Ok.ensures.ok.0) (ReadsAs.program c.requires.reads c.requires.spelled c.in-Ok.ensures.ok.1)

pub returns-in_ok-fault-in-Err : goal.returns-in_ok-fault-in-Err
returns-in_ok-fault-in-Err c =
    ReadsAs.checked c.requires.reads c.requires.spelled (subst (λ (e : CheckError). Refuses e c.args.program) c.in_ok-fault-in-Err.ensures.fault c.in-Err.ensures.refused)
