-- Questions for work: one at a time, and answered at once where there are units.
use Rattle.std.proofs.Common.{◌≡◌, ℕ, ◌≤◌, Bool, true, false, List, [], ◌∷◌, ◌++◌, inl, inr, sym, ◌∙◌, ap, arith}
use Rattle.gr_msg.specs.declared.message.Unit.{Unit as WorkUnit}
use Rattle.gr_machine.specs.States.{Body}
use Rattle.gr_machine.specs.Events.{gifts, still_waiting}
use Rattle.gr_stands.specs.Worlds.{bodies}
use Rattle.gr_shares.specs.Shares.{one_if, KeepsNothing}
use Rattle.gr_shares_tells.specs.Laws as laws

at_most_one : (b : Bool) → one_if b ≤ 1
at_most_one true = omega arith
at_most_one false = omega arith

pub questions_are_single : laws.QuestionsAreSingle
questions_are_single given names w loops asker victim hold = omega (arith, hold.questions asker victim, at_most_one ((bodies w asker).steals.asked victim))

none_some : (u : WorkUnit) (us : List WorkUnit) → [] ≡ u ∷ us → ⊥
none_some u us e = cc

-- Nobody waits where there are units.
nobody : (b : Body) (u : WorkUnit) (us : List WorkUnit) → KeepsNothing b → b.work.public ≡ u ∷ us → b.steals.waiting ≡ []
nobody b u us (inl none) e = none
nobody b u us (inr none) e = absurd (none_some u us (sym none ∙ e))

pub units_are_given_at_once : laws.UnitsAreGivenAtOnce
units_are_given_at_once given names w loops me from first more stands public =
    let free = nobody (bodies w me) first more (stands.gives me) public in (
      ap (λ (xs : List ℕ). gifts (xs ++ from ∷ []) (bodies w me).work.public) free ∙ ap (gifts (from ∷ [])) public,
      ap (λ (xs : List ℕ). still_waiting (xs ++ from ∷ []) (bodies w me).work.public) free ∙ ap (still_waiting (from ∷ [])) public,
    )
