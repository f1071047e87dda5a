-- The places of the objects with which a run opens.
use Rattle.std.proofs.lemmas.Bool.Decides.{nat_tests}
use Rattle.std.proofs.Common.{◌≡◌, ℕ, ◌+◌, arith, Bool, true, false, List, [], ◌∷◌, Option, Some, None, refl, ap, ◌∙◌, map, slice_get, is_some, sym}
use Rattle.std.specs.Prelude.{nat_lt, cond, ◌==◌}
use Rattle.std.specs.Option.{option_map}
use Rattle.std.proofs.lemmas.Option.{slice_get-map}
use Rattle.gr_syntax.specs.declared.syntax.Item.{Item}
use Rattle.gr_syntax.specs.declared.syntax.Item.TheVariants as i
use Rattle.gr_lang.specs.Objects.{Object, array, keys, pairs, line, address, address_in, heap_address}
use Rattle.gr_syntax.specs.declared.limits.TheConstants.{HEAP}
use Rattle.gr_lang.specs.Openings.{objects_from, opening, heap_of}
use Rattle.gr_steps.specs.TableView.{reaches_of, within}
use Rattle.gr_syntax.specs.declared.syntax.Program.{Program}

abbrev reach_of : Object → ℕ
reach_of (array from count) = count
reach_of _ = 0

reaches_is : (items : List Item) (from : ℕ) → map reach_of (objects_from from items) ≡ reaches_of items
reaches_is [] from = refl
reaches_is (i.Array name words ∷ more) from = ap (λ xs. words.value ∷ xs) (reaches_is more (from + words.value))
reaches_is (i.Set name ∷ more) from = ap (λ xs. 0 ∷ xs) (reaches_is more from)
reaches_is (i.Map name ∷ more) from = ap (λ xs. 0 ∷ xs) (reaches_is more from)
reaches_is (i.Vector name ∷ more) from = ap (λ xs. 0 ∷ xs) (reaches_is more from)
reaches_is (i.Heap words ∷ more) from = reaches_is more from
reaches_is (i.Show name ∷ more) from = reaches_is more from
reaches_is (i.Input name values ∷ more) from = reaches_is more from
reaches_is (i.Task name params body ∷ more) from = reaches_is more from

below : (b : Bool) (x : ℕ) → is_some (cond b (Some x) None) ≡ b
below true x = refl
below false x = refl

none_below : (n : ℕ) → false ≡ nat_lt n 0
none_below n = sym (grind (arith, nat_tests))

found : (o : Option Object) (place : ℕ) → is_some (address_in o place) ≡ within (option_map reach_of o) place
found None place = refl
found (Some (array from count)) place = below (nat_lt place count) (from + place)
found (Some (keys s)) place = none_below place
found (Some (pairs m)) place = none_below place
found (Some (line ws)) place = none_below place

reach_at : (items : List Item) (object place : ℕ) → is_some (address_in (slice_get (objects_from 0 items) object) place) ≡ within (slice_get (reaches_of items) object) place
reach_at items object place =
    found (slice_get (objects_from 0 items) object) place
    ∙ ap (λ (o : Option ℕ). within o place) (sym (slice_get-map reach_of (objects_from 0 items) object) ∙ ap (λ xs. slice_get xs object) (reaches_is items 0))

pub in_array : (p : Program) (object place : ℕ) → (object == HEAP) ≡ false → is_some (address (opening p) object place) ≡ within (slice_get (reaches_of p.items) object) place
unfolding opening
in_array p object place e = rw e (reach_at p.items object place)

pub in_heap : (p : Program) (object place : ℕ) → (object == HEAP) ≡ true → is_some (address (opening p) object place) ≡ is_some (heap_address (heap_of p) place)
unfolding opening
in_heap p object place e = rw e refl
