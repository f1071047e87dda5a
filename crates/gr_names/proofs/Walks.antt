-- The names of objects and tasks, one item after the other.
use Rattle.std.proofs.Common.{◌≡◌, ℕ, ◌+◌, ◌<◌, List, [], ◌∷◌, ◌++◌, length, drop, get_or, refl, ap, ◌∙◌}
use Rattle.std.proofs.lemmas.List.{append-nil, at_drop_more}
use Rattle.gr_syntax.specs.declared.syntax.Item.{Item}
use Rattle.gr_syntax.specs.declared.syntax.Item.TheVariants as variant
use Rattle.gr_syntax.specs.Items.{object_names}
use Rattle.gr_names.specs.Numbered.{task_names}

object_names-cons : (item : Item) (more : List Item) → object_names (item ∷ more) ≡ object_names (item ∷ []) ++ object_names more
object_names-cons (variant.Array name words) more = refl
object_names-cons (variant.Set name) more = refl
object_names-cons (variant.Map name) more = refl
object_names-cons (variant.Vector name) more = refl
object_names-cons _ more = refl

task_names-cons : (item : Item) (more : List Item) → task_names (item ∷ more) ≡ task_names (item ∷ []) ++ task_names more
task_names-cons (variant.Task name params body) more = refl
task_names-cons _ more = refl

module _ (items : List Item) (place : ℕ) (item : Item) where
  pub objects-next : place < length items → object_names (drop place items) ≡ object_names (get_or items place item ∷ []) ++ object_names (drop (place + 1) items)
  objects-next h = at_drop_more object_names items place item h ∙ object_names-cons (get_or items place item) (drop (place + 1) items)

  pub tasks-next : place < length items → task_names (drop place items) ≡ task_names (get_or items place item ∷ []) ++ task_names (drop (place + 1) items)
  tasks-next h = at_drop_more task_names items place item h ∙ task_names-cons (get_or items place item) (drop (place + 1) items)

pub ruleset walks = (append-nil)
