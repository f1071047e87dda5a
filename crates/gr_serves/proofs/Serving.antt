-- The first letter, served and settled.
use Rattle.std.proofs.Common.{◌≡◌, ℕ, List, [], ◌∷◌, Option, Some, drop, slice_get, ap, ◌∙◌, sym}
use Rattle.std.specs.Prelude.{Result, OnOk}
use Rattle.std.proofs.lemmas.Result.{on_ok_weaker}
use Rattle.gr_machine.specs.States.{Letter}
use Rattle.gr_machine.specs.Outcomes.{Outcome}
use Rattle.gr_machine.specs.Serves.{serves}
use Rattle.gr_courses.specs.Seen.{Seen, does_to}
use Rattle.gr_courses.specs.Courses.{served_from, settled_by, settles_to, settling, without_letter}
use Rattle.gr_courses.proofs.Courses.{settles_is}

-- What a letter does.
abbrev serves_to : Seen → Letter → Seen
serves_to seen letter = does_to seen (serves seen.machine seen.me seen.core.body letter.from letter.message)

-- The first letter is taken and served, and a turn is settled.
pub served_so : {T E : Type 0} (result : Result T E) (seen first next last : Seen) (letters : List Letter) (letter : Letter) (vector : Option ℕ)
    → Some letter ≡ slice_get letters 0 → first ≡ without_letter seen (drop 1 letters) → next ≡ serves_to first letter → vector ≡ settling letter.message
    → OnOk result (last ≡ does_to next (settled_by next.machine next.core.body vector)) → OnOk result (last ≡ served_from seen letters)
served_so result seen first next last [] letter vector there taken served at = absurd (cc)
served_so result seen first next last (other ∷ letters) letter vector there taken served at = on_ok_weaker result (λ settled.
    settled
    ∙ ap (λ (there : Option ℕ). does_to next (settled_by next.machine next.core.body there)) at
    ∙ ap (λ (what : Option Outcome). does_to next what) (sym (settles_is next.machine next.core.body letter.message))
    ∙ ap (λ (then : Seen). settles_to then letter.message) served
    ∙ ap (λ (then : Seen). settles_to (serves_to then letter) letter.message) taken
    ∙ ap (λ (one : Letter). settles_to (serves_to (without_letter seen letters) one) one.message) same)
  where
    same : letter ≡ other
    same = cc
