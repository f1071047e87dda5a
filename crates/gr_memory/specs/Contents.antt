-- What each of the plain objects holds but the heap.
use Rattle.std.specs.Prelude.{ℕ, List, map, take, drop}
use Rattle.std.specs.FinMap as fin
use Rattle.std.specs.FinSet as set
use Rattle.std.specs.Ordering.{nat_cmp}
use Rattle.gr_lang.specs.Objects.{Object, array, keys, pairs, line, Objects}
use Rattle.gr_memory.specs.declared.contents.Content.{Content}
use Rattle.gr_memory.specs.declared.contents.Content.TheVariants as content

-- These words in rising order, each once.
unfoldable pub rising : List ℕ → List ℕ
rising words = fin.keys (fin.from_entries {R = nat_cmp} (map (λ word. (word, tt {0})) words))

-- An array holds so many of the words from an address on, a set its keys in rising order, a map its pairs by rising key,
-- and a vector its words from the head.
abbrev pub content_of : List ℕ → Object → Content
content_of words (array from count) = content.Array (take count (drop from words))
content_of words (keys held) = content.Set (rising (set.items held))
content_of words (pairs held) = content.Map (fin.entries held)
content_of words (line held) = content.Vector held

abbrev pub contents_of : Objects → List Content
contents_of objects = map (content_of objects.words) objects.things
