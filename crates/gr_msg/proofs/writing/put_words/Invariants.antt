-- What is written from here on is what is left to write.
use Rattle.std.proofs.Common.{◌≡◌, ◌++◌, drop}
use Rattle.gr_format.specs.Writing.{spelled}
use Rattle.gr_msg.specs.FieldWords.{words}
use Rattle.gr_msg.proofs.writing.put_words.Given as goal

abbrev pub invariant-loop-word : goal.invariant-loop-word
invariant-loop-word l = l.out.items ++ spelled (words (drop l.word-index l.words)) ≡ l.fn.out.items ++ spelled (words l.words)
