use Rattle.std.proofs.Common.{◌≡◌, length, ◌∙◌, sym, ap, arith, length-set}
use Rattle.std.proofs.lemmas.List.{with_items_is}
use Rattle.gr_steps.proofs.Hits.{set_word-hit}
use Rattle.gr_lang.specs.Locals.{set_word}
use Rattle.gr_steps.specs.LocalView.{locals_of}
use Rattle.gr_steps.proofs.locals.LocalWords.set.Goals as goal

pub returns-then-is : goal.returns-then-is
returns-then-is c =
    let value : c.deref_mut-local-items.result.now ≡ c.self.inside.list.items = c.deref_mut-local-items.ensures.value in
    ap locals_of (with_items_is c.self.inside.list _ (length-set _ _ _ ∙ c.loop-local.auto.local-items ∙ ap length value ∙ omega arith))
    ∙ set_word-hit c.loop-local.local-items c.loop-local.local-index c.local-item.result c.args.name.now c.args.word (omega arith) (sym c.is.ensures ∙ c.if-is.true)
    ∙ sym c.loop-local.invariant.step
    ∙ ap (λ x. set_word x c.args.name.now c.args.word) (ap locals_of (c.loop-local.invariant.same ∙ value) ∙ c.self.view_is)
