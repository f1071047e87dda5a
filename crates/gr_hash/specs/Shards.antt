-- What stands under each key of the part of a set or of a map that one core keeps. Such a part is seen as the finite map of it: under a key of a
-- set stands 0.
use Rattle.std.specs.Prelude.{◌≡◌, ℕ, Bool, true, false, List, map, Option, Some, None}
use Rattle.std.specs.FinMap.{FinMap, get}
use Rattle.std.specs.Ordering.{nat_cmp}
use Rattle.gr_lang.specs.declared.action.Effect.{Effect}
use Rattle.gr_lang.specs.declared.action.Effect.TheVariants as effect

-- What stands under each key.
unfoldable pub under_of : FinMap nat_cmp ℕ → ℕ → Option ℕ
under_of shard key = get shard key

-- Nothing under any key.
abbrev pub nothing_held : ℕ → Option ℕ
nothing_held key = None

-- What calls on a set do to what stands under a key: no reducer folds it, and no word but 0 is put there.
abbrev pub IsOfSet : Effect → Type 0
IsOfSet (effect.Present word) = word ≡ 0
IsOfSet (effect.Fold reducer word) = ⊥
IsOfSet _ = Unit {0}

-- What stands under a key that is in a set, or isn't.
abbrev pub zero_if : Bool → Option ℕ
zero_if true = Some 0
zero_if false = None

-- Each key with 0.
abbrev pub with_zeros : List ℕ → List (ℕ × ℕ)
with_zeros keys = map (λ key. (key, 0)) keys
