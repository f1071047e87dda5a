-- Which objects and addresses have a place, by their shapes.
use Rattle.std.proofs.Common.{◌≡◌, ℕ, ◌+◌, Bool, true, false, Option, Some, None, refl, ap, ◌∙◌, slice_get, is_some, sym}
use Rattle.std.specs.Prelude.{nat_lt, nat_le, ◌&&◌, cond, ◌==◌}
use Rattle.std.specs.Option.{option_map}
use Rattle.std.proofs.lemmas.Option.{slice_get-map}
use Rattle.gr_syntax.specs.declared.limits.TheConstants.{HEAP}
use Rattle.gr_syntax.specs.declared.syntax.Program.{Program}
use Rattle.gr_lang.specs.Objects.{Object, array, keys, pairs, line, Heap, address, address_in, heap_address}
use Rattle.gr_lang.specs.Openings.{opening, heap_of}
use Rattle.gr_code.specs.declared.shapes.Shape.{Shape}
use Rattle.gr_code.specs.Shapes.{shape_of, shapes_of, heap_shape}
use Rattle.gr_code.specs.CodeView.{is_in, reaches}

found : (b : Bool) (x : ℕ) → is_some (cond b (Some x) None) ≡ b
found true x = refl
found false x = refl

reached : (o : Option Object) (place : ℕ) → is_some (address_in o place) ≡ reaches (option_map shape_of o) place
reached None place = refl
reached (Some (array from count)) place = found (nat_lt place count) (from + place)
reached (Some (keys s)) place = refl
reached (Some (pairs m)) place = refl
reached (Some (line ws)) place = refl

pub in_array : (p : Program) (object place : ℕ) → (object == HEAP) ≡ false → is_some (address (opening p) object place) ≡ reaches (slice_get (shapes_of p) object) place
in_array p object place e =
    ap (λ b. is_some (cond b (heap_address (opening p).heap place) (address_in (slice_get (opening p).things object) place))) e
    ∙ reached (slice_get (opening p).things object) place ∙ ap (λ (o : Option Shape). reaches o place) (sym (slice_get-map shape_of (opening p).things object))

in_range : (heap : Heap) (at : ℕ) → is_some (heap_address heap at) ≡ is_in (heap_shape heap) at
in_range heap at = found (nat_le heap.from at && nat_lt at (heap.from + heap.count)) at

pub in_heap : (p : Program) (object place : ℕ) → (object == HEAP) ≡ true → is_some (address (opening p) object place) ≡ is_in (heap_shape (heap_of p)) place
unfolding opening
in_heap p object place e = rw e (in_range (heap_of p) place)
