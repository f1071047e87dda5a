-- What the name of an object or a task means: what the first item of that name declares.
use Rattle.std.specs.Prelude.{ℕ, if◌then◌else◌, List, [], ◌∷◌, length, codes, Option, Some, None}
use Rattle.std.specs.Str.{bytes_eq}
use Rattle.gr_syntax.specs.declared.syntax.Item.{Item}
use Rattle.gr_syntax.specs.declared.syntax.Item.TheVariants as item
use Rattle.gr_syntax.specs.declared.syntax.Place.{Place}
use Rattle.gr_accept.specs.declared.operation.Declared.{Declared}
use Rattle.gr_accept.specs.declared.operation.Declared.TheVariants as declared

-- A name, the place where it is declared, and what it is declared as.
pub record Declaration : Type 0 where
  pub name : List ℕ
  pub at : Place
  pub declared : Declared

-- What an item declares. Objects and tasks share one name space. The heap is declared at its number, and its name is
-- the keyword, which no other item has. `show` and `input` declare nothing.
abbrev pub declaration : Item → Option Declaration
declaration (item.Array name words) = Some (record { name = name.text; at = name.at; declared = declared.Array words.value })
declaration (item.Set name) = Some (record { name = name.text; at = name.at; declared = declared.Set })
declaration (item.Map name) = Some (record { name = name.text; at = name.at; declared = declared.Map })
declaration (item.Vector name) = Some (record { name = name.text; at = name.at; declared = declared.Vector })
declaration (item.Heap words) = Some (record { name = codes "heap"; at = words.at; declared = declared.Heap })
declaration (item.Show name) = None
declaration (item.Input name values) = None
declaration (item.Task name params body) = Some (record { name = name.text; at = name.at; declared = declared.Task (length params) })

-- What each name means; None where nothing has that name.
abbrev pub Meaning : Type 0
Meaning = List ℕ → Option Declared

abbrev pub first_of : Option Declaration → List ℕ → Option Declared → Option Declared
first_of None name rest = rest
first_of (Some item) name rest = if bytes_eq name item.name then Some item.declared else rest

-- The first item of that name tells.
abbrev pub first_named : List Item → Meaning
first_named [] name = None
first_named (item ∷ more) name = first_of (declaration item) name (first_named more name)
