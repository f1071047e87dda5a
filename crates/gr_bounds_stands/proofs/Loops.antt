-- The loops to which tasks in slots come next are those of the plain state.
use Rattle.std.proofs.Common.{◌≡◌, ◌⊎◌, ◌^◌, refl, subst, sym, inl, inr}
use Rattle.gr_lang.specs.States.{State}
use Rattle.gr_machine.specs.declared.waits.Waits.{Waits}
use Rattle.gr_machine.specs.declared.waits.Waits.TheVariants as wait
use Rattle.gr_machine.specs.States.{Suspended}
use Rattle.gr_stands.specs.Calls.{is_told, StandsAt}
use Rattle.gr_bounds_counts.specs.Counts.{LoopFits}
use Rattle.gr_bounds_stands.specs.Telling.{PlainLoopsFit, MakesCall}
use Rattle.gr_bounds_stands.specs.Laws as laws

told_or_not : (waits : Waits) → (is_told waits ≡ 0) ⊎ (is_told waits ≡ 1)
told_or_not wait.Reply = inr refl
told_or_not (wait.Batch batch) = inr refl
told_or_not _ = inl refl

of_plain : (state : State) (task : Suspended) → PlainLoopsFit state → StandsAt state task → LoopFits (2 ^ 64) task.action
of_plain state task fit s = subst (LoopFits (2 ^ 64)) s.action (fit task.id s.plain s.there)

of_call : (task : Suspended) → MakesCall task → LoopFits (2 ^ 64) task.action
of_call task m = subst (LoopFits (2 ^ 64)) (sym m.due) tt

pub loops_told : laws.LoopsAreTold
loops_told given world state stands fit call core l slot task there = elim (told_or_not task.waits) [
  | inl e ↦ of_plain state task fit ((stands.calls.tasks.slots core slot task there).stands e)
  | inr e ↦ of_call task (call core slot task there e)
]
