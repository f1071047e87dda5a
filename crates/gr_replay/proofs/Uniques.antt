-- An accepted program has each name once, so that a name's first place is its number.
use Rattle.std.proofs.Common.{◌≡◌, ℕ, zero, suc, ◌+◌, Bool, true, false, List, [], ◌∷◌, ◌++◌, slice_get, Option, Some, None, is_some, refl, sym, ap, subst, add-one, codes, ◌∙◌}
use Rattle.std.specs.Prelude.{flat_map, filter_map, if◌then◌else◌, position}
use Rattle.std.specs.List.{cons_option}
use Rattle.std.specs.Option.{option_and_then, option_map}
use Rattle.std.specs.Str.{bytes_eq}
use Rattle.std.proofs.lemmas.Grind.{flat_map-append}
use Rattle.std.proofs.lemmas.Option.{same_Some}
use Rattle.std.proofs.lemmas.Slice.Eq.{bytes_eq-Decides}
use Rattle.gr_syntax.specs.declared.refusal.Kind.TheVariants as kind
use Rattle.gr_syntax.specs.declared.syntax.Item.{Item}
use Rattle.gr_syntax.specs.declared.syntax.Item.TheVariants as variant
use Rattle.gr_syntax.specs.declared.syntax.Place.{Place}
use Rattle.gr_syntax.specs.declared.syntax.Program.{Program}
use Rattle.gr_syntax.specs.Faults.{when}
use Rattle.gr_syntax.specs.Items.{object_names}
use Rattle.gr_names.specs.Numbered.{task_names}
use Rattle.gr_accept.specs.declared.operation.Declared.{Declared}
use Rattle.gr_accept.specs.declared.operation.Declared.TheVariants as declared
use Rattle.gr_accept.specs.Accepted.{IsAccepted, head_sites, heads_sites, uses_sites}
use Rattle.gr_accept.specs.Conditions.{faults_at}
use Rattle.gr_accept.specs.Declarations.{Declaration, Meaning, declaration, first_named, first_of}
use Rattle.gr_accept.specs.Sites.{Site, declares, ends, object, sizes, task}
use Rattle.gr_replay.proofs.Positions.{position_hit, position_miss}

-- Each text is the first of its kind.
abbrev pub IsOnce : List (List ℕ) → Type 0
IsOnce names = (place : ℕ) (name : List ℕ) → slice_get names place ≡ Some name → position (bytes_eq name) names ≡ Some place

-- Items before them declare none of these.
abbrev IsFresh : List Item → List (List ℕ) → Type 0
IsFresh before names = (place : ℕ) (name : List ℕ) → slice_get names place ≡ Some name → is_some (first_named before name) ≡ false

-- No fault is at any of these sites.
abbrev Clean : Meaning → List Site → Type 0
Clean meaning sites = flat_map (faults_at meaning) sites ≡ []

empty_parts : {A : Type 0} (xs ys : List A) → xs ++ ys ≡ [] → (xs ≡ []) × (ys ≡ [])
empty_parts [] ys h = (refl, h)
empty_parts (x ∷ xs) ys h = cc

clean_parts : (meaning : Meaning) (front back : List Site) → Clean meaning (front ++ back) → Clean meaning front × Clean meaning back
clean_parts meaning front back h =
    empty_parts (flat_map (faults_at meaning) front) (flat_map (faults_at meaning) back) (sym (flat_map-append (faults_at meaning) front back) ∙ h)

-- A name that is declared with no fault isn't declared before.
is_new : (meaning : Meaning) (name : List ℕ) (at : Place) (before : List Item) → faults_at meaning (declares name at before) ≡ [] → is_some (first_named before name) ≡ false
unfolding faults_at
is_new meaning name at before h = by (is_some (first_named before name)) (empty_parts (when (is_some (first_named before name)) kind.Duplicate at) [] h).0
  where
    by : (test : Bool) → when test kind.Duplicate at ≡ [] → test ≡ false
    by true h = cc
    by false h = refl

-- The name of an item of this kind.
abbrev name_if : (Declared → Bool) → Declaration → Option (List ℕ)
name_if is item = if is item.declared then Some item.name else None

abbrev name_of : (Declared → Bool) → Item → Option (List ℕ)
name_of is item = option_and_then (name_if is) (declaration item)

abbrev is_numbered : Declared → Bool
is_numbered (declared.Array words) = true
is_numbered declared.Set = true
is_numbered declared.Map = true
is_numbered declared.Vector = true
is_numbered _ = false

abbrev is_task : Declared → Bool
is_task (declared.Task params) = true
is_task _ = false

object_names_are : (items : List Item) → object_names items ≡ filter_map (name_of is_numbered) items
object_names_are [] = refl
object_names_are (variant.Array name words ∷ more) = ap (λ (names : List (List ℕ)). name.text ∷ names) (object_names_are more)
object_names_are (variant.Set name ∷ more) = ap (λ (names : List (List ℕ)). name.text ∷ names) (object_names_are more)
object_names_are (variant.Map name ∷ more) = ap (λ (names : List (List ℕ)). name.text ∷ names) (object_names_are more)
object_names_are (variant.Vector name ∷ more) = ap (λ (names : List (List ℕ)). name.text ∷ names) (object_names_are more)
object_names_are (variant.Heap words ∷ more) = object_names_are more
object_names_are (variant.Show name ∷ more) = object_names_are more
object_names_are (variant.Input name values ∷ more) = object_names_are more
object_names_are (variant.Task name params body ∷ more) = object_names_are more

task_names_are : (items : List Item) → task_names items ≡ filter_map (name_of is_task) items
task_names_are [] = refl
task_names_are (variant.Array name words ∷ more) = task_names_are more
task_names_are (variant.Set name ∷ more) = task_names_are more
task_names_are (variant.Map name ∷ more) = task_names_are more
task_names_are (variant.Vector name ∷ more) = task_names_are more
task_names_are (variant.Heap words ∷ more) = task_names_are more
task_names_are (variant.Show name ∷ more) = task_names_are more
task_names_are (variant.Input name values ∷ more) = task_names_are more
task_names_are (variant.Task name params body ∷ more) = ap (λ (names : List (List ℕ)). name.text ∷ names) (task_names_are more)

-- What an item declares isn't declared before.
abbrev IsNewAfter : List Item → Option Declaration → Type 0
IsNewAfter before None = Unit {0}
IsNewAfter before (Some said) = is_some (first_named before said.name) ≡ false

last_new : (meaning : Meaning) (sites : List Site) (name : List ℕ) (at : Place) (before : List Item) → Clean meaning (sites ++ declares name at before ∷ []) → is_some (first_named before name) ≡ false
last_new meaning sites name at before h =
    is_new meaning name at before (empty_parts (faults_at meaning (declares name at before)) [] (clean_parts meaning sites (declares name at before ∷ []) h).1).0

item_new : (meaning : Meaning) (before : List Item) (item : Item) → Clean meaning (head_sites before item) → IsNewAfter before (declaration item)
item_new meaning before (variant.Array name words) h = last_new meaning (sizes words before ∷ object name before ∷ []) name.text name.at before h
item_new meaning before (variant.Set name) h = last_new meaning (object name before ∷ []) name.text name.at before h
item_new meaning before (variant.Map name) h = last_new meaning (object name before ∷ []) name.text name.at before h
item_new meaning before (variant.Vector name) h = last_new meaning (object name before ∷ []) name.text name.at before h
item_new meaning before (variant.Heap words) h = last_new meaning (sizes words before ∷ []) (codes "heap") words.at before h
item_new meaning before (variant.Show name) h = tt
item_new meaning before (variant.Input name values) h = tt
item_new meaning before (variant.Task name params body) h = last_new meaning (task name before ∷ []) name.text name.at before h

-- A name that neither this declaration nor the items before it give isn't the declaration's, and those before it don't give it.
not_among : (said : Declaration) (name : List ℕ) (rest : Option Declared) → is_some (first_of (Some said) name rest) ≡ false → (bytes_eq name said.name ≡ false) × (is_some rest ≡ false)
not_among said name rest h = by (bytes_eq name said.name) h
  where
    by : (test : Bool) → is_some (if test then Some said.declared else rest) ≡ false → (test ≡ false) × (is_some rest ≡ false)
    by true h = cc
    by false h = (refl, h)

not_before : (found : Option Declaration) (name : List ℕ) (rest : Option Declared) → is_some (first_of found name rest) ≡ false → is_some rest ≡ false
not_before None name rest h = h
not_before (Some said) name rest h = (not_among said name rest h).1

-- Names that items before them don't declare, each once.
record AreNew (before : List Item) (names : List (List ℕ)) : Type 0 where
  fresh : IsFresh before names
  once : IsOnce names

-- With an item less before them.
less_before : (before : List Item) (item : Item) (names : List (List ℕ)) → AreNew (item ∷ before) names → AreNew before names
less_before before item names rest = record { fresh = λ place name at. not_before (declaration item) name (first_named before name) (rest.fresh place name at); once = rest.once }

-- With the item's own name.
one_name : (before : List Item) (item : Item) (said : Declaration) (names : List (List ℕ)) → declaration item ≡ Some said → is_some (first_named before said.name) ≡ false → AreNew (item ∷ before) names
    → AreNew before (said.name ∷ names)
one_name before item said names is_said new rest = record { fresh = fresh; once = once }
  where
    apart : (place : ℕ) (name : List ℕ) → slice_get names place ≡ Some name → bytes_eq name said.name ≡ false
    apart place name at = (not_among said name (first_named before name) (subst (λ (o : Option Declaration). is_some (first_of o name (first_named before name)) ≡ false) is_said (rest.fresh place name at))).0

    fresh : IsFresh before (said.name ∷ names)
    fresh zero name at = subst (λ (n : List ℕ). is_some (first_named before n) ≡ false) (same_Some said.name name at) new
    fresh (suc place) name at = not_before (declaration item) name (first_named before name) (rest.fresh place name at)

    once : IsOnce (said.name ∷ names)
    once zero name at = position_hit (bytes_eq name) said.name names ((bytes_eq-Decides name said.name).1 (sym (same_Some said.name name at)))
    once (suc place) name at =
        position_miss (bytes_eq name) said.name names (apart place name at) ∙ ap (option_map (λ n. n + 1)) (rest.once place name at) ∙ ap (λ (n : ℕ). Some n) (add-one place)

names_in : (meaning : Meaning) (is : Declared → Bool) (before items : List Item) → Clean meaning (heads_sites before items) → AreNew before (filter_map (name_of is) items)
names_in meaning is before [] h = record { fresh = λ place name at. cc; once = λ place name at. cc }
names_in meaning is before (item ∷ more) h =
    let parts = clean_parts meaning (head_sites before item) (heads_sites (item ∷ before) more) h in
    by (declaration item) refl (item_new meaning before item parts.0) (names_in meaning is (item ∷ before) more parts.1)
  where
    chosen : (said : Declaration) (test : Bool) → declaration item ≡ Some said → is_some (first_named before said.name) ≡ false → AreNew (item ∷ before) (filter_map (name_of is) more)
        → AreNew before (cons_option (if test then Some said.name else None) (filter_map (name_of is) more))
    chosen said true is_said new rest = one_name before item said (filter_map (name_of is) more) is_said new rest
    chosen said false is_said new rest = less_before before item (filter_map (name_of is) more) rest

    by : (found : Option Declaration) → declaration item ≡ found → IsNewAfter before found → AreNew (item ∷ before) (filter_map (name_of is) more)
        → AreNew before (cons_option (option_and_then (name_if is) found) (filter_map (name_of is) more))
    by None is_said new rest = less_before before item (filter_map (name_of is) more) rest
    by (Some said) is_said new rest = chosen said (is said.declared) is_said new rest

heads_clean : (program : Program) → IsAccepted program → Clean (first_named program.items) (heads_sites [] program.items)
heads_clean program accepted =
    (clean_parts (first_named program.items) (heads_sites [] program.items) (uses_sites program.items ++ (ends program.end program.items ∷ [])) accepted.no_faults).0

pub objects_once : (program : Program) → IsAccepted program → IsOnce (object_names program.items)
objects_once program accepted = subst IsOnce (sym (object_names_are program.items)) (names_in (first_named program.items) is_numbered [] program.items (heads_clean program accepted)).once

pub tasks_once : (program : Program) → IsAccepted program → IsOnce (task_names program.items)
tasks_once program accepted = subst IsOnce (sym (task_names_are program.items)) (names_in (first_named program.items) is_task [] program.items (heads_clean program accepted)).once
