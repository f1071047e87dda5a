use Rattle.std.proofs.Common.{◌≡◌, drop}
use Rattle.gr_lang.specs.Locals.{word_of}
use Rattle.gr_steps.specs.LocalView.{locals_of}
use Rattle.gr_steps.proofs.locals.LocalWords.get.Given as goal

abbrev pub invariant-loop-local : goal.invariant-loop-local
invariant-loop-local l = word_of (locals_of l.local-items) l.name ≡ word_of (locals_of (drop l.local-index l.local-items)) l.name
