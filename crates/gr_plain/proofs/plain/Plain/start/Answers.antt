use Rattle.std.proofs.Common.{◌∙◌, ◌∷◌, ◌++◌, [], ap}
use Rattle.gr_plain.proofs.Kept.{start_held}
use Rattle.gr_plain.proofs.plain.Plain.start.Goals as goal

pub invariant_of-result : goal.invariant_of-result
invariant_of-result c = λ _. start_held c.states_stay_valid.ensures.opens _ _ _ _ _ c.in_ok-held.ensures (c.in_ok-push.ensures.items ∙ ap (λ xs. xs ++ 1 ∷ []) c.new-unended.ensures.items)
