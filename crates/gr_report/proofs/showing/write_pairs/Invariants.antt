use Rattle.std.proofs.Common.{◌≡◌, ◌++◌, drop}
use Rattle.std.specs.Prelude.{string_bytes}
use Rattle.gr_report.specs.Showing.{pairs_text}
use Rattle.gr_report.proofs.showing.write_pairs.Given as goal

abbrev pub invariant-loop-key : goal.invariant-loop-key
invariant-loop-key l = string_bytes l.text ++ pairs_text (drop l.key-index l.pairs) ≡ string_bytes l.fn.text ++ pairs_text l.pairs
