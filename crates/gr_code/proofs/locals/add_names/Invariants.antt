use Rattle.std.proofs.Common.{◌≡◌, ◌++◌, drop, map}
use Rattle.gr_syntax.specs.Items.{texts}
use Rattle.gr_code.proofs.locals.add_names.Given as goal

abbrev pub invariant-loop-name : goal.invariant-loop-name
invariant-loop-name l = map (λ n. n.now) l.names.items ++ texts (drop l.name-index l.name-items) ≡ map (λ n. n.now) l.fn.names.items ++ texts l.more
