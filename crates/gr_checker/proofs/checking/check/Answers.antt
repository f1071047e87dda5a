use Rattle.std.proofs.Common.{◌∙◌, sym}
use Rattle.gr_accept.specs.Accepted.{faults}
use Rattle.gr_checker.proofs.Firsts.{least-first, least-none}
use Rattle.gr_checker.proofs.checking.check.Goals as goal

pub new-requires : goal.new-requires
new-requires c = record { fit = c.requires; no_faults = least-none (faults c.args.program) (sym c.in_ok-first.ensures ∙ c.in-None.is) }

pub returns-in-Some-clause-refused : goal.returns-in-Some-clause-refused
returns-in-Some-clause-refused c = least-first (faults c.args.program) c.in-Some.fault (sym c.in_ok-first.ensures ∙ c.in-Some.is)
