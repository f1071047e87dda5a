-- A call of a vector changes the words of that vector alone.
use Rattle.std.proofs.Common.{◌≡◌, ◌≢◌, ◌⊎◌, ℕ, zero, suc, ◌<◌, List, [], ◌∷◌, slice_get, slice_set, inl, inr, sym, ◌∙◌, ap, subst, refl, Option, Some, None}
use Rattle.std.specs.Option.{option_and_then}
use Rattle.std.proofs.lemmas.Bool.{cases_eq}
use Rattle.gr_lang.specs.declared.action.Op.{Op}
use Rattle.gr_lang.specs.declared.action.Op.TheVariants as op
use Rattle.gr_lang.specs.Effects.{line_after, line_reply}
use Rattle.gr_lang.specs.Objects.{Object, line, Objects, under, with_object, on_line, at_object, call}
use Rattle.gr_stands.specs.Memory.{under_key, kind_of, kind_at, SameMemory}
use Rattle.gr_stands_turns.specs.Turning.{IsOfLine}

-- ---- lists

pub set_there : {X : Type 0} (xs : List X) (i : ℕ) (x y : X) → slice_get xs i ≡ Some y → slice_get (slice_set xs i x) i ≡ Some x
set_there [] i x y e = absurd (cc)
set_there (z ∷ xs) zero x y e = refl
set_there (z ∷ xs) (suc i) x y e = set_there xs i x y e

pub set_other : {X : Type 0} (xs : List X) (i j : ℕ) (x : X) → j ≢ i → slice_get (slice_set xs i x) j ≡ slice_get xs j
set_other [] i j x ne = refl
set_other (z ∷ xs) zero zero x ne = absurd (ne refl)
set_other (z ∷ xs) zero (suc j) x ne = refl
set_other (z ∷ xs) (suc i) zero x ne = refl
set_other (z ∷ xs) (suc i) (suc j) x ne = set_other xs i j x (λ q. ne (ap suc q))

-- ---- one vector has other words

module _ (S : Objects) (vector : ℕ) (words more : List ℕ) (there : slice_get S.things vector ≡ Some (line words)) where
  abbrev after : Objects
  after = with_object S vector (line more)

  pub line_there : slice_get after.things vector ≡ Some (line more)
  line_there = set_there S.things vector (line more) (line words) there

  things_are : (P : ℕ → Option Object → Type 0) → P vector (Some (line more)) → ((j : ℕ) → j ≢ vector → P j (slice_get S.things j)) → (j : ℕ) → P j (slice_get after.things j)
  things_are P here other j = elim (cases_eq j vector) [
    | inl e ↦ subst (λ (i : ℕ). P i (slice_get after.things i)) (sym e) (subst (P vector) (sym line_there) here)
    | inr ne ↦ subst (P j) (sym (set_other S.things vector j (line more) ne)) (other j ne)
  ]

  pub line_memory : SameMemory S after
  line_memory = record {
    words = refl;
    keys = λ object key. things_are (λ j o. option_and_then (λ thing. under thing key) o ≡ under_key S j key) (sym (ap (option_and_then (λ thing. under thing key)) there)) (λ j ne. refl) object;
    blocks = refl;
    kinds = λ object. things_are (λ j o. kind_of o ≡ kind_at S j) (sym (ap kind_of there)) (λ j ne. refl) object;
    heap = refl;
  }

-- ---- a call

pub line_call : (S : Objects) (vector : ℕ) (words : List ℕ) → slice_get S.things vector ≡ Some (line words) → (o : Op) → IsOfLine o vector
    → call o S ≡ (with_object S vector (line (line_after o words)), line_reply o words)
line_call S vector words there (op.Push object word) e =
    ap (λ (n : ℕ). at_object (slice_get S.things n) n (on_line (op.Push object word)) S) e ∙ ap (λ (x : Option Object). at_object x vector (on_line (op.Push object word)) S) there
line_call S vector words there (op.Pop object) e =
    ap (λ (n : ℕ). at_object (slice_get S.things n) n (on_line (op.Pop object)) S) e ∙ ap (λ (x : Option Object). at_object x vector (on_line (op.Pop object)) S) there
line_call S vector words there (op.Dequeue object) e =
    ap (λ (n : ℕ). at_object (slice_get S.things n) n (on_line (op.Dequeue object)) S) e ∙ ap (λ (x : Option Object). at_object x vector (on_line (op.Dequeue object)) S) there
line_call S vector words there _ e = absurd e
