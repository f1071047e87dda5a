-- The lines that show what objects hold.
use Rattle.std.specs.Prelude.{ℕ, List, [], ◌∷◌, ◌++◌, Option, Some, None, slice_get, codes}
use Rattle.std.specs.Option.{option_and_then}
use Rattle.std.specs.Fmt.{decimal}
use Rattle.gr_syntax.specs.declared.syntax.Item.{Item}
use Rattle.gr_syntax.specs.declared.syntax.Item.TheVariants as item
use Rattle.gr_syntax.specs.declared.syntax.Program.{Program}
use Rattle.gr_syntax.specs.Items.{object_named}
use Rattle.gr_lang.specs.Objects.{Objects}
use Rattle.gr_memory.specs.declared.contents.Content.{Content}
use Rattle.gr_memory.specs.declared.contents.Content.TheVariants as c
use Rattle.gr_memory.specs.Contents.{contents_of}

abbrev pub kind_word : Content → List ℕ
kind_word (c.Array words) = codes "array"
kind_word (c.Set keys) = codes "set"
kind_word (c.Map pairs) = codes "map"
kind_word (c.Vector words) = codes "vector"

-- Words in decimal, each after a space.
unfoldable pub words_text : List ℕ → List ℕ
words_text [] = []
words_text (word ∷ more) = codes " " ++ (decimal word ++ words_text more)

-- Keys with their words, each pair after a space.
unfoldable pub pairs_text : List (ℕ × ℕ) → List ℕ
pairs_text [] = []
pairs_text (pair ∷ more) = codes " " ++ (decimal pair.0 ++ (codes "=" ++ (decimal pair.1 ++ pairs_text more)))

abbrev pub held_text : Content → List ℕ
held_text (c.Array words) = words_text words
held_text (c.Set keys) = words_text keys
held_text (c.Map pairs) = pairs_text pairs
held_text (c.Vector words) = words_text words

-- What the object of this name holds.
abbrev pub content_line : List ℕ → Content → List ℕ
content_line name content = kind_word content ++ (codes " " ++ (name ++ (codes ":" ++ (held_text content ++ codes "\n"))))

abbrev pub line_of : List ℕ → Option Content → List ℕ
line_of name None = []
line_of name (Some content) = content_line name content

-- The line for the object of this name, where there is one.
abbrev pub object_line : Program → List Content → List ℕ → List ℕ
object_line program contents name = line_of name (option_and_then (slice_get contents) (object_named program name))

-- The line for the object that an item shows.
abbrev pub shown_by : Program → List Content → Item → List ℕ
shown_by program contents (item.Show name) = object_line program contents name.text
shown_by program contents _ = []

-- The lines for these items, in their order.
unfoldable pub shown_items : Program → List Content → List Item → List ℕ
shown_items program contents [] = []
shown_items program contents (item ∷ more) = shown_by program contents item ++ shown_items program contents more

-- The lines for all that a program shows, where its objects hold this.
abbrev pub shown_text : Program → List Content → List ℕ
shown_text program contents = shown_items program contents program.items

-- The same of the plain objects.
abbrev pub shown_of : Program → Objects → List ℕ
shown_of program objects = shown_text program (contents_of objects)
