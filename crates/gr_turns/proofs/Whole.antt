-- A change of one of the vectors, or of the turns at one, as a change of the whole.
use Rattle.std.proofs.Common.{◌≡◌, ℕ, Option, Some, None, refl, ap, ◌∙◌}
use Rattle.gr_vector.specs.Turns.{Turns}
use Rattle.gr_machine.specs.States.{Vector, Vectors}
use Rattle.gr_turns.specs.LineWords.{changed_there, changed_at}
use Rattle.gr_turns.specs.Lines.{changed_by, changed, turned_by, turned}

changed_with : (change : Vector → Vector) (vectors : ℕ → Option Vector) (masters : ℕ → Option Turns) (number : ℕ) (there : Option Vector)
    → record { vectors = changed_there change vectors number there; masters = masters } ≡ changed_by change (record { vectors = vectors; masters = masters }) number there
changed_with change vectors masters number None = refl
changed_with change vectors masters number (Some vector) = refl

pub changed_is : (change : Vector → Vector) (now vectors : ℕ → Option Vector) (masters : ℕ → Option Turns) (number : ℕ) → now ≡ changed_at change vectors number
    → record { vectors = now; masters = masters } ≡ changed change (record { vectors = vectors; masters = masters }) number
changed_is change now vectors masters number e =
    let whole : (ℕ → Option Vector) → Vectors = λ held. record { vectors = held; masters = masters } in
    ap whole e ∙ changed_with change vectors masters number (vectors number)

turned_with : (change : Turns → Turns) (vectors : ℕ → Option Vector) (masters : ℕ → Option Turns) (number : ℕ) (there : Option Turns)
    → record { vectors = vectors; masters = changed_there change masters number there } ≡ turned_by change (record { vectors = vectors; masters = masters }) number there
turned_with change vectors masters number None = refl
turned_with change vectors masters number (Some turns) = refl

pub turned_is : (change : Turns → Turns) (vectors : ℕ → Option Vector) (now masters : ℕ → Option Turns) (number : ℕ) → now ≡ changed_at change masters number
    → record { vectors = vectors; masters = now } ≡ turned change (record { vectors = vectors; masters = masters }) number
turned_is change vectors now masters number e =
    let whole : (ℕ → Option Turns) → Vectors = λ held. record { vectors = vectors; masters = held } in
    ap whole e ∙ turned_with change vectors masters number (masters number)

pub ruleset at_whole = (changed_is, turned_is)
