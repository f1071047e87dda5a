-- The marks of a step are those of its outcome.
use Rattle.std.proofs.Common.{◌≡◌, ℕ, List, [], ◌∷◌, ◌++◌, sym, ◌∙◌, ap, refl}
use Rattle.std.proofs.lemmas.List.{append_cancel_left}
use Rattle.gr_merge.specs.GlobalRuns.{of_core}
use Rattle.gr_machine.specs.declared.mark.Mark.{Mark}
use Rattle.gr_machine.specs.declared.journal.StampedMark.{StampedMark}
use Rattle.gr_machine.specs.Steppers.{stamped}

-- A mark with the clock and the core of its event.
abbrev at_core : ℕ → ℕ → Mark → ℕ × StampedMark
at_core me clock m = (me, record { clock = clock; mark = m })

abbrev mark_first : Mark → List (ℕ × StampedMark) → Mark
mark_first m [] = m
mark_first m (p ∷ ps) = p.1.mark

heads_same : (me clock : ℕ) (x y : Mark) (xs ys : List (ℕ × StampedMark)) → at_core me clock x ∷ xs ≡ at_core me clock y ∷ ys → (x ≡ y) × (xs ≡ ys)
heads_same me clock x y xs ys e = (ap (mark_first x) e, cc)

none_some : (y : ℕ × StampedMark) (ys : List (ℕ × StampedMark)) → [] ≡ y ∷ ys → ⊥
none_some y ys e = cc

same_marks : (me clock : ℕ) (xs ys : List Mark) → of_core me (stamped clock xs) ≡ of_core me (stamped clock ys) → xs ≡ ys
same_marks me clock [] [] e = refl
same_marks me clock [] (y ∷ ys) e = absurd (none_some (at_core me clock y) (of_core me (stamped clock ys)) e)
same_marks me clock (x ∷ xs) [] e = absurd (none_some (at_core me clock x) (of_core me (stamped clock xs)) (sym e))
same_marks me clock (x ∷ xs) (y ∷ ys) e =
    let r = heads_same me clock x y (of_core me (stamped clock xs)) (of_core me (stamped clock ys)) e in
    ap (λ (m : Mark). m ∷ xs) r.0 ∙ ap (λ (ms : List Mark). y ∷ ms) (same_marks me clock xs ys r.1)

-- What a step left and what its outcome left, after the same marks.
pub marks_are : (me clock : ℕ) (before later : List (ℕ × StampedMark)) (xs ys : List Mark)
    → later ≡ before ++ of_core me (stamped clock xs) → later ≡ before ++ of_core me (stamped clock ys) → xs ≡ ys
marks_are me clock before later xs ys a b = same_marks me clock xs ys (append_cancel_left before (of_core me (stamped clock xs)) (of_core me (stamped clock ys)) (sym a ∙ b))
