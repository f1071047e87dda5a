-- Taking out a task that isn't there.
use Rattle.std.proofs.Common.{◌≡◌, None, refl, sym, ◌∙◌, cond}
use Rattle.std.specs.Ordering.{eq_by_cmp}
use Rattle.std.specs.declared.cmp.Ordering.{Ordering}
use Rattle.std.specs.declared.cmp.Ordering.TheVariants.{Less, Equal, Greater}
use Rattle.std.specs.FinMap.{FinMap, get, get-remove, get_tied, remove, same_map}
use Rattle.gr_lang.proofs.TaskIds.{ids_exact, ids_total}
use Rattle.gr_lang.specs.declared.action.TaskId.{TaskId}
use Rattle.gr_lang.specs.States.{id_cmp}

module _ {X : Type 0} where
  at_other : (m : FinMap id_cmp X) (id q : TaskId) (o : Ordering) → id_cmp q id ≡ o → get m id ≡ None → cond (eq_by_cmp id_cmp q id) None (get m q) ≡ get m q
  at_other m id q Less e none = rw e refl
  at_other m id q Greater e none = rw e refl
  at_other m id q Equal e none = rw e (sym (sym (get_tied ids_total m q id e) ∙ none))

  pub remove_absent : (m : FinMap id_cmp X) (id : TaskId) → get m id ≡ None → remove m id ≡ m
  remove_absent m id none = same_map ids_total ids_exact _ _ (λ q. get-remove ids_total m id q ∙ at_other m id q (id_cmp q id) refl none)
