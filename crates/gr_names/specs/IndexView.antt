-- What an index of names keeps.
use Rattle.std.specs.Prelude.{map}
use Rattle.gr_names.specs.declared.index.NameIndex.TheInside.{Inside}
use Rattle.gr_names.specs.PlaceWords.{HasPlaces}

-- The table has the places of the names.
pub record IsIndex (index : Inside) : Type 0 where
  pub places : HasPlaces (map (λ name. name.now) index.names.items) index.places
