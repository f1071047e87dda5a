use Rattle.std.proofs.Common.{◌≡◌, drop}
use Rattle.gr_lang.specs.Openings.{heap_words}
use Rattle.gr_code.proofs.opening.heap_words_of.Given as goal

abbrev pub invariant-loop-item : goal.invariant-loop-item
invariant-loop-item l = heap_words (drop l.item-index l.items) ≡ heap_words l.items
