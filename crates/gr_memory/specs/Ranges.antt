-- Which objects lie in how many words.
use Rattle.std.specs.Prelude.{ℕ, ◌+◌, ◌≤◌, ⊤}
use Rattle.gr_lang.specs.Objects.{Object, array}

-- An array lies in the first n words; other objects hold none of them.
abbrev pub LiesIn : ℕ → Object → Type 0
LiesIn n (array from count) = from + count ≤ n
LiesIn n _ = ⊤
