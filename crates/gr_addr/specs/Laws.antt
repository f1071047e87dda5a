-- The laws of layouts and of operations on a word.
use Rattle.std.specs.Prelude.{◌≡◌, ℕ, ◌<◌}
use Rattle.gr_lang.specs.Effects.{word_after}
use Rattle.gr_addr.specs.declared.word.WordOp.{WordOp}
use Rattle.gr_addr.specs.Dealing.{home_of, place_of, linear_of, share_of}
use Rattle.gr_addr.specs.WordCalls.{call_of, stored}

-- The word of each address below the number of words lies at one of the cores, at one of its places.
abbrev pub AddressesAreHeld : Type 0
AddressesAreHeld = (cores block words at : ℕ) → 0 < cores → 0 < block → at < words
    → (home_of cores block at < cores) × (place_of cores block at < share_of cores block words (home_of cores block at))

-- The address of the place of an address is that address.
abbrev pub AddressesComeBack : Type 0
AddressesComeBack = (cores block at : ℕ) → 0 < cores → 0 < block → linear_of cores block (home_of cores block at) (place_of cores block at) ≡ at

-- Two addresses are at one place of one core only where they are one.
abbrev pub PairsAreApart : Type 0
PairsAreApart = (cores block one other : ℕ) → 0 < cores → 0 < block → home_of cores block one ≡ home_of cores block other
    → place_of cores block one ≡ place_of cores block other → one ≡ other

-- Each place of a core is the place of its address, which is below the number of words.
abbrev pub PlacesAreAddressed : Type 0
PlacesAreAddressed = (cores block words core place : ℕ) → 0 < cores → 0 < block → core < cores → place < share_of cores block words core
    → (linear_of cores block core place < words) × (home_of cores block (linear_of cores block core place) ≡ core)
    × (place_of cores block (linear_of cores block core place) ≡ place)

-- What an operation stores is what its call leaves.
abbrev pub WordsAreCalled : Type 0
WordsAreCalled = (object place : ℕ) (op : WordOp) (before : ℕ) → stored op before ≡ word_after (call_of object place op) before
