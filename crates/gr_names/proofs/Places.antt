-- A table of places after one name more.
use Rattle.std.proofs.Common.{◌≡◌, ℕ, if◌then◌else◌, List, [], ◌∷◌, ◌++◌, length, Option, Some, None, sym, ap, ◌∙◌}
use Rattle.std.specs.Prelude.{position}
use Rattle.std.specs.Option.{option_or}
use Rattle.std.specs.Str.{bytes_eq}
use Rattle.gr_names.specs.PlaceWords.{GivesPlace, HasPlaces, Places}
use Rattle.gr_names.proofs.Positions.{position-push}

pub HasPlaces-push : (old new : Places) (names more : List (List ℕ)) (name : List ℕ) (place : ℕ) → HasPlaces names old → GivesPlace old new name place → place ≡ length names → more ≡ names ++ name ∷ []
    → HasPlaces more new
HasPlaces-push old new names more name place has gives is_last is_more = λ other.
    gives other
    ∙ ap (λ (found : Option ℕ). option_or found (if bytes_eq other name then Some place else None)) (has other)
    ∙ ap (λ (last : ℕ). option_or (position (bytes_eq other) names) (if bytes_eq other name then Some last else None)) is_last
    ∙ sym (position-push (bytes_eq other) names name)
    ∙ ap (position (bytes_eq other)) (sym is_more)
