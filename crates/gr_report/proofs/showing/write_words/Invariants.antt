use Rattle.std.proofs.Common.{◌≡◌, ◌++◌, drop}
use Rattle.std.specs.Prelude.{string_bytes}
use Rattle.gr_report.specs.Showing.{words_text}
use Rattle.gr_report.proofs.showing.write_words.Given as goal

abbrev pub invariant-loop-word : goal.invariant-loop-word
invariant-loop-word l = string_bytes l.text ++ words_text (drop l.word-index l.words) ≡ string_bytes l.fn.text ++ words_text l.words
