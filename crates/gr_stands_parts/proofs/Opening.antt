-- Before the first step the vectors of the plain memory are empty.
use Rattle.std.proofs.Common.{◌≡◌, ◌+◌, ℕ, zero, suc, true, List, [], ◌∷◌, refl}
use Rattle.std.specs.Prelude.{slice_get, Some}
use Rattle.gr_syntax.specs.declared.syntax.Item.{Item}
use Rattle.gr_syntax.specs.declared.syntax.Item.TheVariants as item
use Rattle.gr_lang.specs.States.{opening_state}
use Rattle.gr_lang.specs.Objects.{line}
use Rattle.gr_lang.specs.Openings.{objects_from, opening}
use Rattle.gr_machine.specs.Openings.{is_vector}
use Rattle.gr_stands.specs.Worlds.{Given}
use Rattle.gr_elements_lines.specs.Lines.{HasWords}

-- A vector among the objects with which a run opens has no words.
empty_at : (items : List Item) (from number : ℕ)
    → is_vector (slice_get (objects_from from items) number) ≡ true → slice_get (objects_from from items) number ≡ Some (line [])
empty_at [] from number h = absurd (cc)
empty_at (item.Array name words ∷ more) from zero h = absurd (cc)
empty_at (item.Array name words ∷ more) from (suc number) h = empty_at more (from + words.value) number h
empty_at (item.Set name ∷ more) from zero h = absurd (cc)
empty_at (item.Set name ∷ more) from (suc number) h = empty_at more from number h
empty_at (item.Map name ∷ more) from zero h = absurd (cc)
empty_at (item.Map name ∷ more) from (suc number) h = empty_at more from number h
empty_at (item.Vector name ∷ more) from zero h = refl
empty_at (item.Vector name ∷ more) from (suc number) h = empty_at more from number h
empty_at (item.Heap words ∷ more) from number h = empty_at more from number h
empty_at (item.Show name ∷ more) from number h = empty_at more from number h
empty_at (item.Input name values ∷ more) from number h = empty_at more from number h
empty_at (item.Task name params body ∷ more) from number h = empty_at more from number h

pub none_have_words : (given : Given) → HasWords given (opening_state given.program given.setup.steps) (λ number. [])
unfolding opening
none_have_words given number is = empty_at given.program.items 0 number is
