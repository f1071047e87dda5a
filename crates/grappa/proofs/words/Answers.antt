use Rattle.std.proofs.Common.{◌≡◌, ◌∙◌, ap, length, rules}
use Rattle.std.specs.Vec.Iter.{into_iter_items, into_iter_len}
use Rattle.std.proofs.lemmas.Iterator.{items_from_collect}
use Rattle.std.proofs.lemmas.Iterator.Adapters.{YieldsList-from_vec, YieldsList-from_skip}
use Rattle.grappa.proofs.words.Goals as goal

pub returns-in-Ok-clause-all : goal.returns-in-Ok-clause-all
returns-in-Ok-clause-all c =
    let all = into_iter_items c.in-Ok.args in
    let counted : into_iter_len c.in-Ok.args ≡ length all = search rules in
    rw c.in-Ok.is (items_from_collect _ c.collect.ensures.ran
    (YieldsList-from_skip 1
    (YieldsList-from_vec all (ap into_iter_items c.skip.ensures.source)
    (ap into_iter_len c.skip.ensures.source ∙ counted))
    c.skip.ensures.count))
