-- The worked rows hold, by computation.
use Rattle.std.proofs.Common.{refl, rules}
use Rattle.gr_lang.specs.Openings.{opening}
use Rattle.gr_code.specs.declared.terms.Term.{the_lemmas}
use Rattle.gr_code.specs.Rows as rows

pub difference : rows.DifferenceWraps
difference = search (rules, the_lemmas)

pub zero_divides : rows.ZeroDivides
zero_divides = search (rules, the_lemmas)

pub ends : rows.LoopEnds
ends = search (rules, the_lemmas)

pub shapes : rows.ShapesAreThree
unfolding opening
shapes = refl

pub heap : rows.HeapIsLast
heap = refl
