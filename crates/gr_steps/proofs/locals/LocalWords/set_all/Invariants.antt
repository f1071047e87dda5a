use Rattle.std.proofs.Common.{◌≡◌, drop}
use Rattle.gr_lang.specs.Next.{set_all}
use Rattle.gr_steps.proofs.locals.LocalWords.set_all.Given as goal

abbrev pub invariant-loop-name : goal.invariant-loop-name
invariant-loop-name l = set_all l.self (drop l.name-index l.name-items) l.left ≡ set_all l.fn.self l.targets l.words
