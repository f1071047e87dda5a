use Rattle.std.proofs.Common.{◌≡◌, ◌+◌, drop, map}
use Rattle.gr_code.specs.Terms.{number}
use Rattle.gr_code.proofs.terms.number_of.Given as goal

abbrev pub invariant-loop-local : goal.invariant-loop-local
invariant-loop-local l = record {
  at : l.at ≡ l.local-index;
  rest : number (map (λ n. n.now) l.locals) l.name ≡ number (map (λ n. n.now) (drop l.local-index l.locals)) l.name + l.at;
}
