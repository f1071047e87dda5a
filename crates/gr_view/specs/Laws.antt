-- The laws of functions that are written at one number.
use Rattle.std.specs.Prelude.{◌≡◌, ◌≢◌, ℕ, ◌<◌, List, length, slice_set}
use Rattle.gr_view.specs.Places.{put, at_place}

abbrev pub PutsAreRead : Type 0 → Type 0
PutsAreRead X = (f : ℕ → X) (number : ℕ) (value : X) → put f number value number ≡ value

abbrev pub PutsLeaveOthers : Type 0 → Type 0
PutsLeaveOthers X = (f : ℕ → X) (number other : ℕ) (value : X) → other ≢ number → put f number value other ≡ f other

abbrev pub PutsAreOverwritten : Type 0 → Type 0
PutsAreOverwritten X = (f : ℕ → X) (number : ℕ) (one other : X) → put (put f number one) number other ≡ put f number other

abbrev pub PlacesArePut : Type 0 → Type 0
PlacesArePut X = (default : X) (items : List X) (place : ℕ) (value : X) → place < length items
    → at_place default (slice_set items place value) ≡ put (at_place default items) place value
