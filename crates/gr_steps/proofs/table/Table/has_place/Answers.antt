use Rattle.std.proofs.Common.{◌∙◌, sym, arith}
use Rattle.std.proofs.lemmas.Bool.Decides.{nat_tests}
use Rattle.gr_steps.proofs.Reaches.{in_array, in_heap}
use Rattle.gr_steps.proofs.table.Table.has_place.Goals as goal

pub returns-then-object-eq-HEAP : goal.returns-then-object-eq-HEAP
returns-then-object-eq-HEAP c = c.is_in_heap.ensures ∙ sym (in_heap c.args.self.now c.args.object c.args.place (grind (arith, nat_tests)))

pub returns-else-object-eq-HEAP : goal.returns-else-object-eq-HEAP
returns-else-object-eq-HEAP c = c.is_in_array.ensures ∙ sym (in_array c.args.self.now c.args.object c.args.place (grind (arith, nat_tests)))
