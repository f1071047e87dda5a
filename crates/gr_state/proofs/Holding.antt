-- Objects on which no call waits, from the last down to the first.
use Rattle.std.proofs.Common.{◌≡◌, ◌≢◌, ◌<◌, ◌-◌, ◌==◌, ℕ, zero, suc, Bool, false, ap, ◌∙◌, arith, eq-eqb, ne_eqb}
use Rattle.std.specs.Prelude.{◌&&◌}
use Rattle.gr_machine.specs.States.{Body}
use Rattle.gr_machine.specs.Closes.{held_count}
use Rattle.gr_machine.specs.Enabled.{none_held}

one_less : (body : Body) (left : ℕ) → 0 < left → none_held body left ≡ (held_count body (left - 1) == 0 && none_held body (left - 1))
one_less body zero some = absurd (omega arith)
one_less body (suc left) some = let same : left ≡ suc left - 1 = omega arith in ap (λ (object : ℕ). held_count body object == 0 && none_held body object) same

pub none_held_here : (body : Body) (left : ℕ) → 0 < left → held_count body (left - 1) ≡ 0 → none_held body left ≡ none_held body (left - 1)
none_held_here body left some none = one_less body left some ∙ ap (λ (here : Bool). here && none_held body (left - 1)) (eq-eqb (held_count body (left - 1)) 0 none)

pub some_held_here : (body : Body) (left : ℕ) → 0 < left → held_count body (left - 1) ≢ 0 → none_held body left ≡ false
some_held_here body left some held = one_less body left some ∙ ap (λ (here : Bool). here && none_held body (left - 1)) (ne_eqb (held_count body (left - 1)) 0 held)

pub ruleset when_held = (none_held_here, some_held_here)
