use Rattle.std.proofs.Common.{◌≡◌, ◌++◌}
use Rattle.gr_round.specs.RoundWords.{AreOk}
use Rattle.gr_round.proofs.rounds.collect.Given as goal

abbrev pub invariant-loop-slice : goal.invariant-loop-slice
invariant-loop-slice l = record { ok : AreOk l.yielded l.cores.items; so_far : l.yielded ++ l.slice-iterator.rest.items ≡ l.fn.slices.items }
