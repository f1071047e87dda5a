use Rattle.std.proofs.Common.{◌≡◌, drop}
use Rattle.gr_lang.specs.Openings.{input_of}
use Rattle.gr_plain.proofs.opening.input_in.Given as goal

abbrev pub invariant-loop-item : goal.invariant-loop-item
invariant-loop-item l = input_of (drop l.item-index l.items) l.name ≡ input_of l.items l.name
