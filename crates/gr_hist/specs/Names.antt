-- What calls name an object by in a history text.
use Rattle.std.specs.Prelude.{ℕ, Bool, ◌||◌, List, codes}
use Rattle.std.specs.Str.{bytes_eq}
use Rattle.gr_syntax.specs.Names.{is_name}

-- A text, as its bytes.
abbrev pub Bytes : Type 0
Bytes = List ℕ

-- Its name, or `heap` for the heap.
abbrev pub is_object_name : Bytes → Bool
is_object_name bytes = is_name bytes || bytes_eq bytes (codes "heap")
