-- The objects with which a run of a program opens, and the numbers by which its calls name objects and tasks.
use Rattle.std.specs.Prelude.{ℕ, ◌+◌, ◌-◌, if◌then◌else◌, List, [], ◌∷◌, ◌++◌, length, map, replicate, unwrap_or}
use Rattle.std.specs.Str.{bytes_eq}
use Rattle.std.specs.FinMap as fin
use Rattle.std.specs.FinSet as set
use Rattle.gr_syntax.specs.declared.syntax.Item.{Item}
use Rattle.gr_syntax.specs.declared.syntax.Item.TheVariants as item
use Rattle.gr_syntax.specs.declared.syntax.Program.{Program}
use Rattle.gr_syntax.specs.Items.{object_named, task_named}
use Rattle.gr_lang.specs.Objects.{Object, array, keys, pairs, line, Heap, Objects}

-- The objects: arrays lie one after another, from this address on, and all else is empty.
abbrev pub objects_from : ℕ → List Item → List Object
objects_from from [] = []
objects_from from (item.Array name words ∷ more) = array from words.value ∷ objects_from (from + words.value) more
objects_from from (item.Set name ∷ more) = keys set.empty ∷ objects_from from more
objects_from from (item.Map name ∷ more) = pairs fin.empty ∷ objects_from from more
objects_from from (item.Vector name ∷ more) = line [] ∷ objects_from from more
objects_from from (_ ∷ more) = objects_from from more

-- The numbers of an array's input, if it has one.
abbrev pub input_of : List Item → List ℕ → List ℕ
input_of [] name = []
input_of (item.Input of values ∷ more) name = if bytes_eq of.text name then map (λ n. n.value) values else input_of more name
input_of (_ ∷ more) name = input_of more name

-- So many words: these first, then zeros.
abbrev pub padded : ℕ → List ℕ → List ℕ
padded count words = words ++ replicate (count - length words) 0

-- The opening words of the arrays among these items; inputs are sought among all items.
abbrev pub array_words : List Item → List Item → List ℕ
array_words all [] = []
array_words all (item.Array name words ∷ more) = padded words.value (input_of all name.text) ++ array_words all more
array_words all (_ ∷ more) = array_words all more

abbrev pub heap_words : List Item → ℕ
heap_words [] = 0
heap_words (item.Heap words ∷ more) = words.value
heap_words (_ ∷ more) = heap_words more

-- The heap follows the arrays.
abbrev pub heap_of : Program → Heap
heap_of program = record { from = length (array_words program.items program.items); count = heap_words program.items }

unfoldable pub opening : Program → Objects
opening program = record {
  words = array_words program.items program.items ++ replicate (heap_words program.items) 0;
  things = objects_from 0 program.items;
  heap = heap_of program;
  live = fin.empty;
}

-- The number of the object, or of the task, of that name; 0 where there is none, as no accepted program names it.
abbrev pub object_of : Program → List ℕ → ℕ
object_of program name = unwrap_or (object_named program name) 0

abbrev pub target_of : Program → List ℕ → ℕ
target_of program name = unwrap_or (task_named program name) 0
