use Rattle.std.proofs.Common.{arith}
use Rattle.std.proofs.lemmas.List.Elements.{All-from_get_or}
use Rattle.gr_hist.specs.Grammar.{IsWord}
use Rattle.gr_hist.proofs.putting.put_numbers.Goals as goal

pub returns-clause-fits : goal.returns-clause-fits
returns-clause-fits c = All-from_get_or IsWord c.args.numbers.now 0 (λ i less. omega (arith, c.type_inv.numbers i))
