-- What a name means is what stands under its number: an object of that kind, or a task with as many parameters.
use Rattle.std.proofs.Common.{◌≡◌, ℕ, suc, ◌+◌, ◌<◌, ◌==◌, Bool, true, false, not, ◌||◌, List, [], ◌∷◌, length, map, slice_get, Option, Some, None, unwrap_or, nat_lt, if◌then◌else◌, refl, sym, ap, ◌∙◌, subst, arith, codes}
use Rattle.std.specs.Prelude.{position}
use Rattle.std.specs.Option.{option_map_or}
use Rattle.std.specs.Str.{bytes_eq}
use Rattle.std.specs.List.{position_or_len}
use Rattle.std.proofs.lemmas.List.{length-map}
use Rattle.std.proofs.lemmas.Bool.Decides.{nat_tests}
use Rattle.std.proofs.lemmas.Slice.Eq.{bytes_eq-Decides}
use Rattle.gr_syntax.specs.declared.syntax.Item.{Item}
use Rattle.gr_syntax.specs.declared.syntax.Item.TheVariants as i
use Rattle.gr_syntax.specs.declared.syntax.Name.{Name}
use Rattle.gr_syntax.specs.declared.limits.TheConstants.{HEAP}
use Rattle.gr_syntax.specs.Names.{has}
use Rattle.gr_syntax.specs.Items.{TaskText, tasks_of, texts, object_names}
use Rattle.gr_accept.specs.declared.operation.Declared.{Declared}
use Rattle.gr_accept.specs.declared.operation.Declared.TheVariants as d
use Rattle.gr_accept.specs.Declarations.{first_named}
use Rattle.gr_lang.specs.Objects.{Object, array, keys, pairs}
use Rattle.gr_lang.specs.Openings.{opening, objects_from, object_of, target_of}
use Rattle.gr_machine.specs.Machines.{thing, has_task}
use Rattle.gr_machine.specs.Openings.{is_vector}
use Rattle.gr_stands.specs.Worlds.{Given, machine_in}
use Rattle.gr_fits.specs.Reached.{HasOneHeap}

-- ---- objects

abbrev pub is_set : Option Object → Bool
is_set (Some (keys held)) = true
is_set _ = false

abbrev pub is_map : Option Object → Bool
is_map (Some (pairs held)) = true
is_map _ = false

-- What is declared so has calls of its own kind alone.
abbrev pub is_own : Declared → Bool
is_own d.Set = true
is_own d.Map = true
is_own d.Vector = true
is_own _ = false

-- The object is of that kind.
abbrev pub is_declared : Declared → Option Object → Bool
is_declared d.Set object = is_set object
is_declared d.Map object = is_map object
is_declared d.Vector object = is_vector object
is_declared _ object = false

-- The name is one of these names, at this place; and the object there is what is declared.
record Lies (count : ℕ) (things : List Object) (among : Bool) (place : ℕ) (declared : Declared) : Type 0 where
  low : place < count
  known : among ≡ true
  kind : is_declared declared (slice_get things place) ≡ true

first : (t : Bool) (E D : Declared) (x : Object) (rest : Option Declared) (count k : ℕ) (things : List Object) (more : Bool)
    → (is_own E ≡ true → is_declared E (Some x) ≡ true) → is_own D ≡ true → (if t then Some E else rest) ≡ Some D
    → (rest ≡ Some D → Lies count things more k D) → Lies (suc count) (x ∷ things) (t || more) (if not t then 1 + k else 0) D
first true E D x rest count k things more f own e g =
    let same : E ≡ D = cc in
    record { low = omega arith; known = refl; kind = subst (λ (y : Declared). is_declared y (Some x) ≡ true) same (f (subst (λ (y : Declared). is_own y ≡ true) (sym same) own)) }
first false E D x rest count k things more f own e g =
    let l : Lies count things more k D = g e in
    record { low = omega (arith, l.low); known = l.known; kind = subst (λ (j : ℕ). is_declared D (slice_get (x ∷ things) j) ≡ true) (next_is k) l.kind }
  where
    next_is : (k : ℕ) → suc k ≡ 1 + k
    next_is k = omega arith

other : (G : Type 0) (t : Bool) (E D : Declared) (rest : Option Declared) → is_own E ≡ false → is_own D ≡ true → (if t then Some E else rest) ≡ Some D → (rest ≡ Some D → G) → G
other G true E D rest n own e g = let same : E ≡ D = cc in absurd (cc)
other G false E D rest n own e g = g e

lies : (items : List Item) (base : ℕ) (name : List ℕ) (D : Declared) → first_named items name ≡ Some D → is_own D ≡ true
    → Lies (length (object_names items)) (objects_from base items) (has (object_names items) name) (position_or_len (bytes_eq name) (object_names items)) D
lies [] base name D e own = cc
lies (i.Array n words ∷ more) base name D e own =
    first (bytes_eq name n.text) (d.Array words.value) D (array base words.value) (first_named more name) _ _ _ _ (λ o. cc) own e (λ r. lies more (base + words.value) name D r own)
lies (i.Set n ∷ more) base name D e own = first (bytes_eq name n.text) d.Set D _ (first_named more name) _ _ _ _ (λ o. refl) own e (λ r. lies more base name D r own)
lies (i.Map n ∷ more) base name D e own = first (bytes_eq name n.text) d.Map D _ (first_named more name) _ _ _ _ (λ o. refl) own e (λ r. lies more base name D r own)
lies (i.Vector n ∷ more) base name D e own = first (bytes_eq name n.text) d.Vector D _ (first_named more name) _ _ _ _ (λ o. refl) own e (λ r. lies more base name D r own)
lies (i.Heap words ∷ more) base name D e own = other _ (bytes_eq name (codes "heap")) d.Heap D (first_named more name) refl own e (λ r. lies more base name D r own)
lies (i.Show n ∷ more) base name D e own = lies more base name D e own
lies (i.Input n values ∷ more) base name D e own = lies more base name D e own
lies (i.Task n params body ∷ more) base name D e own = other _ (bytes_eq name n.text) (d.Task (length params)) D (first_named more name) refl own e (λ r. lies more base name D r own)

-- A place below the end is the one that is found.
found_at : (k n : ℕ) → k < n → unwrap_or (if nat_lt k n then Some k else None) 0 ≡ k
found_at k n l = ap (λ (b : Bool). unwrap_or (if b then Some k else None) 0) (low k n l)
  where
    low : (k n : ℕ) → k < n → nat_lt k n ≡ true
    low k n l = grind (arith, nat_tests)

-- The object of a name that means a set, a map or a vector.
pub named_thing : (given : Given) (name : List ℕ) (D : Declared) → HasOneHeap given.program → first_named given.program.items name ≡ Some D → is_own D ≡ true
    → is_declared D (thing (machine_in given) (object_of given.program name)) ≡ true
unfolding opening
named_thing given name D one e own = by (bytes_eq name (codes "heap")) refl
  where
    items : List Item
    items = given.program.items

    l : Lies (length (object_names items)) (objects_from 0 items) (has (object_names items) name) (position_or_len (bytes_eq name) (object_names items)) D
    l = lies items 0 name D e own

    by : (b : Bool) → bytes_eq name (codes "heap") ≡ b
        → is_declared D (slice_get (objects_from 0 items) (unwrap_or (if b then Some HEAP else position (bytes_eq name) (object_names items)) 0)) ≡ true
    by true is = absurd (both (ap (has (object_names items)) (sym ((bytes_eq-Decides name (codes "heap")).0 is)) ∙ l.known) one)
      where
        both : has (object_names items) (codes "heap") ≡ true → has (object_names items) (codes "heap") ≡ false → ⊥
        both a b = cc
    by false is = subst (λ (j : ℕ). is_declared D (slice_get (objects_from 0 items) j) ≡ true) (sym (found_at _ _ l.low)) l.kind

-- ---- tasks

-- The task of that name is at this place, and has so many parameters.
record TaskLies (tasks : List TaskText) (place count : ℕ) : Type 0 where
  low : place < length tasks
  params : slice_get (map (λ (task : TaskText). length task.params) tasks) place ≡ Some count

later : (G : Type 0) (t : Bool) (E : Declared) (count : ℕ) (rest : Option Declared) → ((n : ℕ) → E ≡ d.Task n → ⊥) → (if t then Some E else rest) ≡ Some (d.Task count) → (rest ≡ Some (d.Task count) → G) → G
later G true E count rest n e g = let same : E ≡ d.Task count = cc in absurd (n count same)
later G false E count rest n e g = g e

first_task : (t : Bool) (task : TaskText) (here count k : ℕ) (rest : Option Declared) (tasks : List TaskText) → length task.params ≡ here → (if t then Some (d.Task here) else rest) ≡ Some (d.Task count)
    → (rest ≡ Some (d.Task count) → TaskLies tasks k count) → TaskLies (task ∷ tasks) (if not t then 1 + k else 0) count
first_task true task here count k rest tasks is e g = let same : here ≡ count = cc in record { low = omega arith; params = ap Some (is ∙ same) }
first_task false task here count k rest tasks is e g =
    let l : TaskLies tasks k count = g e in
    record { low = omega (arith, l.low); params = subst (λ (j : ℕ). slice_get (map (λ (task : TaskText). length task.params) (task ∷ tasks)) j ≡ Some count) (next_is k) l.params }
  where
    next_is : (k : ℕ) → suc k ≡ 1 + k
    next_is k = omega arith

task_lies : (items : List Item) (name : List ℕ) (count : ℕ) → first_named items name ≡ Some (d.Task count) → TaskLies (tasks_of items) (position_or_len (λ task. bytes_eq name task.name) (tasks_of items)) count
task_lies [] name count e = cc
task_lies (i.Array n words ∷ more) name count e = later _ (bytes_eq name n.text) (d.Array words.value) count (first_named more name) (λ n q. cc) e (task_lies more name count)
task_lies (i.Set n ∷ more) name count e = later _ (bytes_eq name n.text) d.Set count (first_named more name) (λ n q. cc) e (task_lies more name count)
task_lies (i.Map n ∷ more) name count e = later _ (bytes_eq name n.text) d.Map count (first_named more name) (λ n q. cc) e (task_lies more name count)
task_lies (i.Vector n ∷ more) name count e = later _ (bytes_eq name n.text) d.Vector count (first_named more name) (λ n q. cc) e (task_lies more name count)
task_lies (i.Heap words ∷ more) name count e = later _ (bytes_eq name (codes "heap")) d.Heap count (first_named more name) (λ n q. cc) e (task_lies more name count)
task_lies (i.Show n ∷ more) name count e = task_lies more name count e
task_lies (i.Input n values ∷ more) name count e = task_lies more name count e
task_lies (i.Task n params body ∷ more) name count e =
    first_task (bytes_eq name n.text) (record { name = n.text; params = texts params; body = body }) (length params) count _ (first_named more name) (tasks_of more) (length-map params (λ (x : Name). x.text)) e (task_lies more name count)

-- A name that means a task with so many parameters is that of one.
pub named_task : (given : Given) (name : List ℕ) (count : ℕ) → first_named given.program.items name ≡ Some (d.Task count) → has_task (machine_in given) (target_of given.program name) count ≡ true
named_task given name count e =
    let l : TaskLies tasks (position_or_len (λ task. bytes_eq name task.name) tasks) count = task_lies given.program.items name count e in
    ap (λ (j : ℕ). has_task (machine_in given) j count) (found_at _ _ l.low) ∙ ap (λ (o : Option ℕ). option_map_or (λ params. params == count) o false) l.params ∙ same count
  where
    tasks : List TaskText
    tasks = tasks_of given.program.items

    same : (n : ℕ) → (n == n) ≡ true
    same n = grind (arith, nat_tests)
