use Rattle.std.proofs.Common.{◌≡◌, ◌∙◌, ap, subst, Some}
use Rattle.std.specs.Prelude.{Option}
use Rattle.gr_report.specs.declared.texts.TrapAt.{TrapAt}
use Rattle.gr_report.specs.Texts.{first_trap}
use Rattle.gr_engine.specs.EndingWords.{told_as}
use Rattle.gr_engine.proofs.running.told.Goals as goal

pub returns-clause-ending : goal.returns-clause-ending
returns-clause-ending c =
    subst (λ (trap : Option TrapAt). told_as c.args.made.outcome c.args.made.gathered trap ≡ Some c.ending-ending.result)
    (c.first_trap-trap.ensures ∙ ap first_trap c.as_slice.ensures) c.ending-ending.ensures
