-- Each object's head counts those before it, and no fault is there: so there are at most as many as there may be.
use Rattle.std.proofs.Common.{◌≡◌, ℕ, suc, ◌+◌, ◌≤◌, ◌==◌, false, List, [], ◌∷◌, length, arith}
use Rattle.std.proofs.lemmas.Bool.Decides.{nat_tests}
use Rattle.std.proofs.lemmas.Option.{slice_get_past}
use Rattle.gr_syntax.specs.declared.limits.TheConstants.{HEAP, MAX_OBJECTS}
use Rattle.gr_syntax.specs.declared.syntax.Item.{Item}
use Rattle.gr_syntax.specs.declared.syntax.Item.TheVariants as i
use Rattle.gr_syntax.specs.declared.syntax.Name.{Name}
use Rattle.gr_syntax.specs.declared.syntax.Program.{Program}
use Rattle.gr_accept.specs.Accepted.{object_sites, head_sites, heads_sites}
use Rattle.gr_accept.specs.Conditions.{faults_at, objects_in}
use Rattle.gr_accept.specs.Sites.{sizes}
use Rattle.gr_lang.specs.Openings.{opening, objects_from}
use Rattle.gr_known.proofs.Bodies.{Clean}
use Rattle.gr_fits.proofs.Sites.{front_empty, front_clean, back_clean, unbroken}
use Rattle.gr_fits_objects.specs.Laws as laws

-- Where an object is declared there is room for it.
room : (p : Program) (name : Name) (before : List Item) → Clean p (object_sites before name) → objects_in before ≤ MAX_OBJECTS → suc (objects_in before) ≤ MAX_OBJECTS
unfolding faults_at
room p name before h l = below (objects_in before) MAX_OBJECTS l (unbroken _ _ _ (front_empty _ _ (front_empty _ _ h)))
  where
    below : (n m : ℕ) → n ≤ m → (n == m) ≡ false → suc n ≤ m
    below n m l e = grind (arith, nat_tests)

few : (p : Program) (items before : List Item) (base : ℕ) → Clean p (heads_sites before items) → objects_in before ≤ MAX_OBJECTS → objects_in before + length (objects_from base items) ≤ MAX_OBJECTS
few p [] before base h l = omega (arith, l)
few p (i.Array n words ∷ more) before base h l =
    let own : Clean p (head_sites before (i.Array n words)) = front_clean p (head_sites before (i.Array n words)) _ h in
    let one = room p n before (back_clean p (sizes words before ∷ []) (object_sites before n) own) l in
    omega (arith, few p more (i.Array n words ∷ before) (base + words.value) (back_clean p (head_sites before (i.Array n words)) _ h) (omega (arith, one)))
few p (i.Set n ∷ more) before base h l =
    let one = room p n before (front_clean p (head_sites before (i.Set n)) _ h) l in
    omega (arith, few p more (i.Set n ∷ before) base (back_clean p (head_sites before (i.Set n)) _ h) (omega (arith, one)))
few p (i.Map n ∷ more) before base h l =
    let one = room p n before (front_clean p (head_sites before (i.Map n)) _ h) l in
    omega (arith, few p more (i.Map n ∷ before) base (back_clean p (head_sites before (i.Map n)) _ h) (omega (arith, one)))
few p (i.Vector n ∷ more) before base h l =
    let one = room p n before (front_clean p (head_sites before (i.Vector n)) _ h) l in
    omega (arith, few p more (i.Vector n ∷ before) base (back_clean p (head_sites before (i.Vector n)) _ h) (omega (arith, one)))
few p (i.Heap words ∷ more) before base h l = few p more (i.Heap words ∷ before) base (back_clean p (head_sites before (i.Heap words)) _ h) l
few p (i.Show n ∷ more) before base h l = few p more (i.Show n ∷ before) base (back_clean p (head_sites before (i.Show n)) _ h) l
few p (i.Input n values ∷ more) before base h l = few p more (i.Input n values ∷ before) base (back_clean p (head_sites before (i.Input n values)) _ h) l
few p (i.Task n params body ∷ more) before base h l = few p more (i.Task n params body ∷ before) base (back_clean p (head_sites before (i.Task n params body)) _ h) l

pub objects_few : laws.ObjectsAreFew
unfolding opening
objects_few program accepted = bare _ (few program program.items [] 0 (front_clean program (heads_sites [] program.items) _ accepted.no_faults) (omega arith))
  where
    bare : (n : ℕ) → 0 + n ≤ MAX_OBJECTS → n ≤ MAX_OBJECTS
    bare n l = omega (arith, l)

pub heap_apart : laws.HeapsAreApart
heap_apart given accepted = slice_get_past (opening given.program).things HEAP (far (length (opening given.program).things) (objects_few given.program accepted))
  where
    far : (n : ℕ) → n ≤ MAX_OBJECTS → n ≤ HEAP
    far n l = omega (arith, l)
