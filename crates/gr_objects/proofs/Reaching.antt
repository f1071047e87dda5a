-- Addresses and places of objects, by their shapes.
use Rattle.std.proofs.Common.{◌≡◌, ℕ, Bool, true, false, zero, suc, ◌+◌, ◌≤◌, List, [], ◌∷◌, length, Option, Some, None, refl, ap, sym, subst, arith, slice_get, length-append, map}
use Rattle.std.specs.Prelude.{◌&&◌, ◌-◌, ◌==◌, nat_le, nat_lt, if◌then◌else◌}
use Rattle.std.specs.Option.{option_map, option_and}
use Rattle.gr_syntax.specs.declared.limits.TheConstants.{HEAP}
use Rattle.gr_syntax.specs.declared.syntax.Item.{Item}
use Rattle.gr_syntax.specs.declared.syntax.Item.TheVariants as item
use Rattle.gr_syntax.specs.declared.syntax.Program.{Program}
use Rattle.gr_lang.specs.Objects.{Object, array, keys, pairs, line, address}
use Rattle.gr_lang.specs.Openings.{array_words, heap_of, input_of, objects_from, opening, padded}
use Rattle.gr_code.specs.declared.shapes.Shape.{Shape}
use Rattle.gr_code.specs.Shapes.{shape_of, heap_shape}
use Rattle.gr_code.proofs.Words.{padded_length}
use Rattle.gr_machine.specs.Requests.{array_at}
use Rattle.gr_objects.specs.ShapeWords.{EndsBy, array_by, place_by}

found : (b : Bool) (x y : ℕ) → option_and (if b then Some x else None) (Some y) ≡ (if b then Some y else None)
found true x y = refl
found false x y = refl

pub in_heap : (p : Program) (object place : ℕ) → (object == HEAP) ≡ true → option_and (place_by (heap_shape (heap_of p)) place) (Some place) ≡ address (opening p) object place
unfolding opening
in_heap p object place e = rw e (found (nat_le (heap_of p).from place && nat_lt place ((heap_of p).from + (heap_of p).count)) (place - (heap_of p).from) place)

pub array_is : (object at : ℕ) (things : List Object) → array_by object at (map shape_of things) ≡ array_at object at things
array_is object at [] = refl
array_is object at (array from count ∷ more) = ap (λ o. if nat_le from at && nat_lt at (from + count) then Some (object, at - from) else o) (array_is (object + 1) at more)
array_is object at (keys held ∷ more) = array_is (object + 1) at more
array_is object at (pairs held ∷ more) = array_is (object + 1) at more
array_is object at (line words ∷ more) = array_is (object + 1) at more

-- The words of each array end where the heap begins, or before.

ends_later : (o : Option Object) (n m : ℕ) → n ≤ m → EndsBy n (option_map shape_of o) → EndsBy m (option_map shape_of o)
ends_later None n m l h = tt
ends_later (Some (array from count)) n m l h = omega arith
ends_later (Some (keys held)) n m l h = tt
ends_later (Some (pairs held)) n m l h = tt
ends_later (Some (line words)) n m l h = tt

ends : (all items : List Item) (from k : ℕ) → EndsBy (from + length (array_words all items)) (option_map shape_of (slice_get (objects_from from items) k))
ends all [] from k = tt
ends all (item.Array name words ∷ more) from zero =
    omega (arith, length-append (padded words.value (input_of all name.text)) (array_words all more), padded_length words.value (input_of all name.text))
ends all (item.Array name words ∷ more) from (suc k) =
    ends_later (slice_get (objects_from (from + words.value) more) k) (from + words.value + length (array_words all more)) _
    (omega (arith, length-append (padded words.value (input_of all name.text)) (array_words all more), padded_length words.value (input_of all name.text)))
    (ends all more (from + words.value) k)
ends all (item.Set name ∷ more) from zero = tt
ends all (item.Set name ∷ more) from (suc k) = ends all more from k
ends all (item.Map name ∷ more) from zero = tt
ends all (item.Map name ∷ more) from (suc k) = ends all more from k
ends all (item.Vector name ∷ more) from zero = tt
ends all (item.Vector name ∷ more) from (suc k) = ends all more from k
ends all (item.Heap words ∷ more) from k = ends all more from k
ends all (item.Show name ∷ more) from k = ends all more from k
ends all (item.Input name values ∷ more) from k = ends all more from k
ends all (item.Task name params body ∷ more) from k = ends all more from k

pub ends_below : (p : Program) (k end : ℕ) (o : Option Shape) → o ≡ option_map shape_of (slice_get (opening p).things k) → (heap_of p).from ≤ end → EndsBy end o
unfolding opening
ends_below p k end o e l = subst (EndsBy end) (sym e)
    (ends_later (slice_get (objects_from 0 p.items) k) (0 + length (array_words p.items p.items)) end (omega arith) (ends p.items p.items 0 k))
