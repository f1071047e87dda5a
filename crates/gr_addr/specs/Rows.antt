-- Worked rows of layouts.
use Rattle.std.specs.Prelude.{◌≡◌, ℕ, List, [], ◌∷◌, map}
use Rattle.gr_addr.specs.Dealing.{home_of, place_of, share_of}
use Rattle.gr_addr.specs.Layouts.{IsLayout}

-- Where the words of an address lie at three cores in blocks of eight.
abbrev pub homes : List ℕ → List ℕ
homes addresses = map (home_of 3 8) addresses

abbrev pub places : List ℕ → List ℕ
places addresses = map (place_of 3 8) addresses

abbrev pub ThreeCores : Type 0
ThreeCores = let addresses : List ℕ = 0 ∷ 7 ∷ 8 ∷ 23 ∷ 24 ∷ 25 ∷ [] in
    (homes addresses ≡ 0 ∷ 0 ∷ 1 ∷ 2 ∷ 0 ∷ 0 ∷ []) × (places addresses ≡ 0 ∷ 7 ∷ 0 ∷ 7 ∷ 8 ∷ 9 ∷ [])

-- Of 26 words the first core has ten and the others eight.
abbrev pub ThreeShares : Type 0
ThreeShares = map (share_of 3 8 26) (0 ∷ 1 ∷ 2 ∷ []) ≡ 10 ∷ 8 ∷ 8 ∷ []

-- There is no layout without a core.
abbrev pub NoCores : Type 0
NoCores = ¬ IsLayout 0 8 1

-- There is a layout of one core, of blocks of one word, without words.
abbrev pub LeastLayout : Type 0
LeastLayout = IsLayout 1 1 0
