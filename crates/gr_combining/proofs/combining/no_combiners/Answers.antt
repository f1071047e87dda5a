use Rattle.std.proofs.Common.{◌++◌, ◌∷◌, [], ◌∙◌, List, ap}
use Rattle.gr_batch.specs.declared.combiner.Held.{Held}
use Rattle.gr_view.specs.Places.{at_place}
use Rattle.gr_agg.proofs.Lists.{more_lists, no_lists}
use Rattle.gr_combining.proofs.combining.no_combiners.Goals as goal

pub combiners-init : goal.combiners-init
combiners-init c = ap (λ (xs : List (List Held)). at_place [] xs) c.new-combiners.ensures.items ∙ no_lists

pub combiners-preserved : goal.combiners-preserved
combiners-preserved c =
    let before = c.combiners.combiners.items in
    ap (λ (xs : List (List Held)). at_place [] xs) c.in_ok-push.ensures.items
    ∙ ap (λ (x : List Held). at_place [] (before ++ x ∷ [])) c.new.ensures ∙ more_lists before c.combiners.invariant
