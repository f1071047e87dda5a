use Rattle.std.proofs.Common.{◌≤◌, ◌^◌, Some, ◌∙◌, ap, arith}
use Rattle.std.specs.Option.{option_and}
use Rattle.std.proofs.lemmas.Bool.Decides.{nat_tests}
use Rattle.gr_lang.specs.Openings.{heap_of}
use Rattle.gr_objects.specs.ShapeWords.{place_by}
use Rattle.gr_objects.proofs.Reaching.{ends_below, in_heap}
use Rattle.gr_objects.proofs.objects.address.Goals as goal

pub address_in-requires : goal.address_in-requires
address_in-requires c =
    let h = rw c.heap-heap.ensures at c.heap-heap.type_inv in
    let below : (heap_of c.args.code.now.program).from ≤ 2 ^ 64 = omega arith in
    ends_below c.args.code.now.program c.args.object (2 ^ 64) c.shape.result c.shape.ensures below

pub returns-then-object-eq-HEAP : goal.returns-then-object-eq-HEAP
returns-then-object-eq-HEAP c =
    c.and.ensures ∙ ap (λ o. option_and o (Some c.args.place)) (c.place_in.ensures ∙ ap (λ s. place_by s c.args.place) c.heap-heap.ensures)
    ∙ in_heap c.args.code.now.program c.args.object c.args.place (grind (arith, nat_tests))
