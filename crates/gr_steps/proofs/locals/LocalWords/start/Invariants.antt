use Rattle.std.proofs.Common.{◌≡◌, ◌++◌, drop, map}
use Rattle.gr_lang.specs.Next.{given}
use Rattle.gr_steps.specs.LocalView.{locals_of}
use Rattle.gr_steps.proofs.locals.LocalWords.start.Given as goal

abbrev pub invariant-loop-name : goal.invariant-loop-name
invariant-loop-name l = locals_of l.list.items ++ given (map (λ n. n.now) (drop l.name-index l.names)) l.left ≡ given (map (λ n. n.now) l.names) l.words
