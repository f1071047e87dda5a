use Rattle.gr_accept.specs.Accepted.{faults}
use Rattle.std.proofs.Common.{⊎_elim, inl, inr}
use Rattle.gr_checker.proofs.Firsts.{first-unique, first-some, none-or-first}
use Rattle.gr_checker.proofs.laws.refusals_are_exact.Goals as goal

pub returns-clause-at_most_one : goal.returns-clause-at_most_one
returns-clause-at_most_one c = λ p f g a b. first-unique (faults p) f g a b

pub returns-clause-none_if_accepted : goal.returns-clause-none_if_accepted
returns-clause-none_if_accepted c = λ p f a accepted. first-some (faults p) f a accepted.no_faults

pub returns-clause-one_unless_accepted : goal.returns-clause-one_unless_accepted
returns-clause-one_unless_accepted c = λ p fit. ⊎_elim (λ none. inl (record { fit = fit; no_faults = none })) (λ first. inr first) (none-or-first (faults p))
