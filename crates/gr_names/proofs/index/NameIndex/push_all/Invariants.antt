use Rattle.std.proofs.Common.{◌≡◌, ◌++◌, drop}
use Rattle.gr_syntax.specs.Items.{texts}
use Rattle.gr_names.proofs.index.NameIndex.push_all.Given as goal

abbrev pub invariant-loop-name : goal.invariant-loop-name
invariant-loop-name l = l.self ++ texts (drop l.name-index l.names) ≡ l.fn.self ++ texts l.names
