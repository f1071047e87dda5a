-- Where each word of the shared memory lies: blocks of words are dealt to the cores in turn.
use Rattle.std.specs.Prelude.{ℕ, ◌+◌, ◌-◌, ◌*◌, ◌/◌, ◌%◌, min, nat_lt, if◌then◌else◌, Option, Some, None}

-- The core at which the word of an address lies.
abbrev pub home_of : ℕ → ℕ → ℕ → ℕ
home_of cores block at = at / block % cores

-- The place of the word of an address among the words of its core.
abbrev pub place_of : ℕ → ℕ → ℕ → ℕ
place_of cores block at = at / (block * cores) * block + at % block

-- The address of the word at a place of a core.
abbrev pub linear_of : ℕ → ℕ → ℕ → ℕ → ℕ
linear_of cores block core place = (place / block * cores + core) * block + place % block

-- How many of so many words lie at a core: a block of each whole round, and what it gets of the rest.
abbrev pub share_of : ℕ → ℕ → ℕ → ℕ → ℕ
share_of cores block words core = words / (block * cores) * block + min (words % (block * cores) - core * block) block

-- The words of a core at the start, by their places: all 0.
abbrev pub opening_words : ℕ → ℕ → ℕ → ℕ → ℕ → Option ℕ
opening_words cores block words core place = if nat_lt place (share_of cores block words core) then Some 0 else None
