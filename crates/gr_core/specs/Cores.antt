-- What a core stands for.
use Rattle.gr_mail.specs.declared.mail.Mail.{Mail}
use Rattle.gr_core.specs.CoreView.{run_in}
use Rattle.gr_core.specs.Runs.{Run}
use Rattle.gr_core.specs.declared.cores.Core.{Core}

-- What it has come to, and its rings.
abbrev pub run_of : Core → Run
run_of core = run_in core.running.value

abbrev pub mail_of : Core → Mail
mail_of core = core.mail
