use Rattle.std.proofs.Common.{List, ap, arith, length}
use Rattle.gr_syntax.specs.declared.syntax.Item.{Item}
use Rattle.gr_plain.proofs.Sizes.{arrays_fit, arrays_lie}
use Rattle.gr_plain.proofs.opening.open_memory.Goals as goal

pub things_in-requires : goal.things_in-requires
things_in-requires c =
    let items : List Item = c.as_slice-items.result.now in
    omega (arith, arrays_fit items items, ap length c.in_ok-words.ensures)

pub new-requires-clause-arrays : goal.new-requires-clause-arrays
new-requires-clause-arrays c = arrays_lie c.as_slice-items.result.now _ _ _ _ c.in_ok-words.ensures c.in_ok-push_zeros.ensures c.in_ok-things.ensures
