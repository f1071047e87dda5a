use Rattle.std.proofs.Common.{◌∙◌, ap, map, refl}
use Rattle.gr_code.specs.OpeningWords.{input_pair, numbers_for}
use Rattle.gr_code.proofs.Words.{array_added, item_skipped}
use Rattle.gr_code.proofs.opening.arrays_in.Goals as goal
use Rattle.gr_code.proofs.opening.arrays_in.Goals.{in-Array+in_ok-push-in-Array, in_default}

pub loop-item-preserved : goal.loop-item-preserved
loop-item-preserved c = elim c.match-item.branch [
  | in-Array+in_ok-push-in-Array w ↦
      array_added _ _ _ _ w.in-Array.name w.in-Array.words c.args.items.now c.loop-item.item-index c.item-item.result _
      c.loop-item-test.true c.item-item.is w.in-Array.is w.in_ok-push-in-Array.ensures.items refl
      (w.numbers_in-first.ensures ∙ ap (λ l. numbers_for (map input_pair l) w.in-Array.name.text) w.deref.ensures.value ∙ ap (λ l. numbers_for l w.in-Array.name.text) c.in_ok-inputs.ensures)
      (ap (λ v. v.items) w.arrays-is) c.loop-item.invariant
  | in_default w ↦
      item_skipped _ _ c.args.items.now c.loop-item.item-index c.item-item.result _ c.loop-item-test.true c.item-item.is w.in_default.not-Array (ap (λ v. v.items) w.arrays-is) c.loop-item.invariant
]
