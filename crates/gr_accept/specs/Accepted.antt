-- A program is accepted where none of the ten conditions holds at any of its sites, and its assignments have as many targets
-- as the grammar gives.
use Rattle.std.specs.Prelude.{◌≡◌, true, List, [], ◌∷◌, ◌++◌, codes, flat_map}
use Rattle.gr_syntax.specs.declared.syntax.Item.{Item}
use Rattle.gr_syntax.specs.declared.syntax.Item.TheVariants as item
use Rattle.gr_syntax.specs.declared.syntax.Name.{Name}
use Rattle.gr_syntax.specs.declared.syntax.Program.{Program}
use Rattle.gr_syntax.specs.declared.refusal.Fault.{Fault}
use Rattle.gr_accept.specs.Declarations.{first_named}
use Rattle.gr_accept.specs.Sites.{Site, declares, object, task, sizes, input, fills, shows, begins, ends}
use Rattle.gr_accept.specs.Conditions.{faults_at}
use Rattle.gr_syntax.specs.Targets.{targets_fit}
use Rattle.gr_accept.specs.Walks.{body_sites}

-- What an item declares, after the items before it, of which the nearest comes first.

abbrev pub object_sites : List Item → Name → List Site
object_sites before name = object name before ∷ declares name.text name.at before ∷ []

abbrev pub head_sites : List Item → Item → List Site
head_sites before (item.Array name words) = sizes words before ∷ object_sites before name
head_sites before (item.Set name) = object_sites before name
head_sites before (item.Map name) = object_sites before name
head_sites before (item.Vector name) = object_sites before name
head_sites before (item.Heap words) = sizes words before ∷ declares (codes "heap") words.at before ∷ []
head_sites before (item.Show name) = []
head_sites before (item.Input name values) = input name before ∷ []
head_sites before (item.Task name params body) = task name before ∷ declares name.text name.at before ∷ []

abbrev pub heads_sites : List Item → List Item → List Site
heads_sites before [] = []
heads_sites before (item ∷ more) = head_sites before item ++ heads_sites (item ∷ before) more

-- What an item uses. Since items may stand in any order, this asks what names mean in the whole program.

abbrev pub use_sites : Item → List Site
use_sites (item.Show name) = shows name ∷ []
use_sites (item.Input name values) = fills name values ∷ []
use_sites (item.Task name params body) = begins name params ∷ body_sites params body
use_sites _ = []

abbrev pub uses_sites : List Item → List Site
uses_sites [] = []
uses_sites (item ∷ more) = use_sites item ++ uses_sites more

-- All sites of a program. Their order means nothing: which fault is reported is a matter of places.
abbrev pub sites : Program → List Site
sites program = heads_sites [] program.items ++ (uses_sites program.items ++ (ends program.end program.items ∷ []))

-- All faults of a program: all ten conditions at all its sites.
abbrev pub faults : Program → List Fault
faults program = flat_map (faults_at (first_named program.items)) (sites program)

pub record IsAccepted (program : Program) : Type 0 where
  pub fit : targets_fit program ≡ true
  pub no_faults : faults program ≡ []
