use Rattle.std.proofs.Common.{◌≡◌, ◌+◌, ◌++◌, drop}
use Rattle.gr_lang.specs.Openings.{objects_from}
use Rattle.gr_plain.specs.SizeWords.{arrays_in}
use Rattle.gr_plain.proofs.opening.things_in.Given as goal

abbrev pub invariant-loop-item : goal.invariant-loop-item
invariant-loop-item l = record {
  things : l.things.items ++ objects_from l.from (drop l.item-index l.items) ≡ objects_from 0 l.items;
  from : l.from + arrays_in (drop l.item-index l.items) ≡ arrays_in l.items;
}
