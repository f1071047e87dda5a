-- Tasks that make the units for which they waited.
use Rattle.std.proofs.Common.{◌≡◌, ℕ, List, Option, Some, ap, ◌∙◌, sym}
use Rattle.std.specs.Prelude.{Result, OnOk}
use Rattle.std.specs.Option.{option_map}
use Rattle.std.proofs.lemmas.Result.{on_ok_weaker}
use Rattle.gr_machine.specs.States.{Body}
use Rattle.gr_machine.specs.Outcomes.{quietly}
use Rattle.gr_machine.specs.ScopeServes.{planted_all}
use Rattle.gr_courses.specs.Seen.{Seen, does_to, with_body}
use Rattle.gr_courses.specs.Folds.{planted_from}
use Rattle.gr_courses.proofs.Doing.{does_quietly}
use Rattle.gr_courses.proofs.Folds.{units_go}

-- The body is new, and then the tasks in these slots make their units.
pub units_made : {T E : Type 0} (result : Result T E) (seen next last : Seen) (body : Body) (waiting : Option (List ℕ)) (slots : List ℕ)
    → waiting ≡ Some slots → next ≡ with_body seen body → OnOk result (last ≡ planted_from next slots)
    → OnOk result (last ≡ does_to seen (option_map (planted_all seen.machine seen.me (quietly body)) waiting))
units_made result seen next last body waiting slots some new = on_ok_weaker result (λ made.
    made
    ∙ ap (λ (first : Seen). planted_from first slots) (new ∙ sym (does_quietly seen body))
    ∙ sym (units_go seen (quietly body) slots)
    ∙ ap (λ (all : Option (List ℕ)). does_to seen (option_map (planted_all seen.machine seen.me (quietly body)) all)) (sym some))
