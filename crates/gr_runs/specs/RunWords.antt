-- The address of a word that a task calls, and the slots that a Run takes.
use Rattle.std.specs.Prelude.{ℕ, List, [], ◌∷◌, Option, Some, None}
use Rattle.gr_lang.specs.Objects.{address}
use Rattle.gr_courses.specs.Seen.{Seen}

-- The address of a place of an object, where the object has that place.
abbrev pub address_in : Seen → ℕ → ℕ → Option ℕ
address_in seen object place = address seen.machine.code.objects object place

-- The slot of a new task, where there is one.
abbrev pub slots_in : Option ℕ → List ℕ
slots_in None = []
slots_in (Some slot) = slot ∷ []
