-- The next action, by one pure step at a time.
use Rattle.std.proofs.Common.{◌≡◌, ℕ, zero, suc, ◌-◌, ◌<◌, Option, Some, None, refl, arith, ap}
use Rattle.gr_syntax.specs.declared.syntax.Program.{Program}
use Rattle.gr_lang.specs.declared.action.Action.{Action}
use Rattle.gr_lang.specs.declared.action.Action.TheVariants as a
use Rattle.gr_lang.specs.declared.action.TrapKind.TheVariants as trap
use Rattle.gr_lang.specs.Next.{Running, look, next, pure, acts}

pub next-moved : (p : Program) (left : ℕ) (t u : Running) → 0 < left → look p t ≡ pure (Some u) → next p left t ≡ next p (left - 1) u
unfolding next
next-moved p zero t u lt e = absurd (omega arith)
next-moved p (suc n) t u lt e = rw e (ap (λ k. next p k u) (omega arith))

pub next-divided : (p : Program) (left : ℕ) (t : Running) → 0 < left → look p t ≡ pure None → next p left t ≡ (a.Trap trap.Div, t)
unfolding next
next-divided p zero t lt e = absurd (omega arith)
next-divided p (suc n) t lt e = rw e refl

pub next-limit : (p : Program) (t : Running) (u : Option Running) → look p t ≡ pure u → next p 0 t ≡ (a.Trap trap.Steps, t)
unfolding next
next-limit p t u e = rw e refl

pub next-acts : (p : Program) (left : ℕ) (t : Running) (action : Action) → look p t ≡ acts action → next p left t ≡ (action, t)
unfolding next
next-acts p zero t action e = rw e refl
next-acts p (suc n) t action e = rw e refl

pub ruleset nexts = (next-moved, next-divided, next-limit, next-acts)
