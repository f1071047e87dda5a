use Rattle.std.proofs.Common.{◌≡◌, drop}
use Rattle.std.specs.List.{find}
use Rattle.std.specs.Str.{bytes_eq}
use Rattle.gr_lang.specs.Traps.{trap_word}
use Rattle.gr_hist.proofs.words.told_by.Given as goal

abbrev pub invariant-loop-kind : goal.invariant-loop-kind
invariant-loop-kind l =
    find (λ kind. bytes_eq l.word (trap_word kind)) (drop l.kind-index l.kinds) ≡ find (λ kind. bytes_eq l.word (trap_word kind)) l.kinds
