use Rattle.std.proofs.Common.{◌∙◌, ap, sym, arith, slice_get}
use Rattle.std.proofs.lemmas.Bool.Decides.{nat_tests}
use Rattle.gr_code.specs.CodeView.{is_in, reaches}
use Rattle.gr_code.proofs.Reaches.{in_array, in_heap}
use Rattle.gr_code.proofs.code.Code.has_place.Goals as goal

pub returns-then-object-eq-HEAP : goal.returns-then-object-eq-HEAP
returns-then-object-eq-HEAP c =
    c.covers.ensures ∙ ap (λ s. is_in s c.args.place) c.heap.ensures ∙ sym (in_heap c.args.self.now.program c.args.object c.args.place (grind (arith, nat_tests)))

pub returns-else-object-eq-HEAP : goal.returns-else-object-eq-HEAP
returns-else-object-eq-HEAP c =
    c.is_in_array.ensures ∙ ap (λ l. reaches (slice_get l c.args.object) c.args.place) (c.as_slice.ensures ∙ c.objects.ensures)
    ∙ sym (in_array c.args.self.now.program c.args.object c.args.place (grind (arith, nat_tests)))
