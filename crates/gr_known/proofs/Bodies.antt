-- The statements of an accepted program: no fault is at any of their sites, so each call in them is one of an object that the program has.
use Rattle.std.proofs.Common.{◌≡◌, ℕ, zero, suc, ◌+◌, ◌<◌, Bool, true, false, not, ◌||◌, List, [], ◌∷◌, ◌++◌, length, map, slice_get, Option, Some, None, is_none, unwrap_or, position, nat_lt, flat_map, inl, inr, ◌⊎◌, if◌then◌else◌, refl, sym, ap, ◌∙◌, subst, arith, codes}
use Rattle.std.specs.Str.{bytes_eq}
use Rattle.std.specs.List.{position_or_len}
use Rattle.std.proofs.lemmas.Grind.{flat_map-append}
use Rattle.std.proofs.lemmas.Slice.Eq.{bytes_eq-Decides}
use Rattle.gr_syntax.specs.declared.syntax.Item.{Item}
use Rattle.gr_syntax.specs.declared.syntax.Item.TheVariants as i
use Rattle.gr_syntax.specs.declared.syntax.Name.{Name}
use Rattle.gr_syntax.specs.declared.syntax.Place.{Place}
use Rattle.gr_syntax.specs.declared.syntax.Program.{Program}
use Rattle.gr_syntax.specs.declared.syntax.CallText.{CallText}
use Rattle.gr_syntax.specs.declared.syntax.Right.{Right}
use Rattle.gr_syntax.specs.declared.syntax.Right.TheVariants as r
use Rattle.gr_syntax.specs.declared.syntax.Stmt.{Stmt, fold-Stmt, out-Stmt, roll-Stmt, roll-out-Stmt}
use Rattle.gr_syntax.specs.declared.syntax.Stmt.TheFolds.{fold-roll-Stmt}
use Rattle.gr_syntax.specs.declared.syntax.Stmt.TheOpen.{Stmt-F}
use Rattle.gr_accept.specs.declared.operation.Declared.{Declared}
use Rattle.gr_accept.specs.declared.operation.Declared.TheVariants as d
use Rattle.gr_syntax.specs.declared.refusal.Kind.{Kind}
use Rattle.gr_accept.specs.Accepted.{IsAccepted, heads_sites, uses_sites}
use Rattle.gr_accept.specs.Conditions.{faults_at, has_main, is_object, is_task, misses}
use Rattle.gr_accept.specs.Declarations.{Meaning, first_named}
use Rattle.gr_syntax.specs.Faults.{when}
use Rattle.gr_syntax.specs.Names.{has}
use Rattle.gr_syntax.specs.declared.limits.TheConstants.{HEAP}
use Rattle.gr_syntax.specs.Items.{TaskText, tasks_of, object_names}
use Rattle.gr_lang.specs.Openings.{object_of}
use Rattle.gr_accept.specs.declared.operation.Operation.{Operation}
use Rattle.gr_accept.specs.declared.operation.Holder.TheVariants as holder
use Rattle.gr_accept.specs.Operations.{holds, operation_of, signature_of}
use Rattle.gr_accept.specs.Sites.{Site, fills, shows, calls, begins, ends}
use Rattle.gr_accept.specs.Walks.{Part, LexicalScope, all, stmt, stmts, stmt_step, givens, call_sites, right_sites, expr_sites, body_sites}
use Rattle.gr_known.specs.Known.{IsObject}

-- No fault is at any of these sites.
abbrev pub Clean : Program → List Site → Type 0
Clean p ss = flat_map (faults_at (first_named p.items)) ss ≡ []

front_empty : {A : Type 0} (xs ys : List A) → xs ++ ys ≡ [] → xs ≡ []
front_empty [] ys e = refl
front_empty (x ∷ xs) ys e = cc

back_empty : {A : Type 0} (xs ys : List A) → xs ++ ys ≡ [] → ys ≡ []
back_empty [] ys e = e
back_empty (x ∷ xs) ys e = cc

front_clean : (p : Program) (xs ys : List Site) → Clean p (xs ++ ys) → Clean p xs
front_clean p xs ys h = front_empty _ _ (sym (flat_map-append (faults_at (first_named p.items)) xs ys) ∙ h)

back_clean : (p : Program) (xs ys : List Site) → Clean p (xs ++ ys) → Clean p ys
back_clean p xs ys h = back_empty _ _ (sym (flat_map-append (faults_at (first_named p.items)) xs ys) ∙ h)

-- ---- statements

-- No fault is at the sites of the statement, in the scope in which it stands.
pub record IsSeen (p : Program) (s : Stmt) : Type 0 where
  pub scope : LexicalScope
  pub clean : Clean p (stmt s scope).sites

abbrev pub AreSeen : Program → List Stmt → Type 0
AreSeen p [] = Unit {0}
AreSeen p (s ∷ ss) = IsSeen p s × AreSeen p ss

seen_row : (p : Program) (ss : List Stmt) (s : LexicalScope) → Clean p (stmts ss s).sites → AreSeen p ss
seen_row p [] s h = tt
seen_row p (x ∷ xs) s h =
    (record { scope = s; clean = front_clean p (stmt x s).sites (stmts xs (stmt x s).scope).sites h }, seen_row p xs (stmt x s).scope (back_clean p (stmt x s).sites (stmts xs (stmt x s).scope).sites h))

seen_block : (p : Program) (ss : List Stmt) (s : LexicalScope) → Clean p (all (map stmt ss) s).sites → AreSeen p ss
seen_block p [] s h = tt
seen_block p (x ∷ xs) s h = (
  record { scope = s; clean = front_clean p (stmt x s).sites (all (map stmt xs) (stmt x s).scope).sites h },
  seen_block p xs (stmt x s).scope (back_clean p (stmt x s).sites (all (map stmt xs) (stmt x s).scope).sites h),
)

-- ---- calls

unbroken : (b : Bool) (kind : Kind) (at : Place) → when b kind at ≡ [] → b ≡ false
unbroken true kind at e = cc
unbroken false kind at e = refl

not_false : (b : Bool) → not b ≡ false → b ≡ true
not_false true e = refl
not_false false e = cc

object_one : (t : Bool) (declared : Declared) (rest : Option Declared) (heap more : Bool) → is_none (if t then Some declared else rest) ≡ false → is_task (if t then Some declared else rest) ≡ false
    → (is_none rest ≡ false → is_task rest ≡ false → (heap ≡ true) ⊎ (more ≡ true)) → (heap ≡ true) ⊎ ((t || more) ≡ true)
object_one true declared rest heap more a b k = inr refl
object_one false declared rest heap more a b k = k a b

heap_one : (t : Bool) (rest : Option Declared) (more : Bool) → is_none (if t then Some d.Heap else rest) ≡ false → is_task (if t then Some d.Heap else rest) ≡ false
    → (is_none rest ≡ false → is_task rest ≡ false → (t ≡ true) ⊎ (more ≡ true)) → (t ≡ true) ⊎ (more ≡ true)
heap_one true rest more a b k = inl refl
heap_one false rest more a b k = k a b

task_one : (t : Bool) (count : ℕ) (rest : Option Declared) (heap more : Bool) → is_none (if t then Some (d.Task count) else rest) ≡ false → is_task (if t then Some (d.Task count) else rest) ≡ false
    → (is_none rest ≡ false → is_task rest ≡ false → (heap ≡ true) ⊎ (more ≡ true)) → (heap ≡ true) ⊎ (more ≡ true)
task_one true count rest heap more a b k = cc
task_one false count rest heap more a b k = k a b

-- A name that means an object is `heap`, or one of the names of objects.
named_object : (items : List Item) (name : List ℕ) → is_none (first_named items name) ≡ false → is_task (first_named items name) ≡ false
    → (bytes_eq name (codes "heap") ≡ true) ⊎ (has (object_names items) name ≡ true)
named_object [] name a b = cc
named_object (i.Array n words ∷ more) name a b = object_one (bytes_eq name n.text) (d.Array words.value) (first_named more name) _ _ a b (named_object more name)
named_object (i.Set n ∷ more) name a b = object_one (bytes_eq name n.text) d.Set (first_named more name) _ _ a b (named_object more name)
named_object (i.Map n ∷ more) name a b = object_one (bytes_eq name n.text) d.Map (first_named more name) _ _ a b (named_object more name)
named_object (i.Vector n ∷ more) name a b = object_one (bytes_eq name n.text) d.Vector (first_named more name) _ _ a b (named_object more name)
named_object (i.Heap words ∷ more) name a b = heap_one (bytes_eq name (codes "heap")) (first_named more name) _ a b (named_object more name)
named_object (i.Show n ∷ more) name a b = named_object more name a b
named_object (i.Input n values ∷ more) name a b = named_object more name a b
named_object (i.Task n params body ∷ more) name a b = task_one (bytes_eq name n.text) (length params) (first_named more name) _ _ a b (named_object more name)

-- A name of the list has a place in it.
place_in : (names : List (List ℕ)) (name : List ℕ) → has names name ≡ true → unwrap_or (position (bytes_eq name) names) 0 < length names
place_in names name h = either (nat_lt (position_or_len (bytes_eq name) names) (length names)) (less names h)
  where
    step : (t : Bool) (ns : List (List ℕ)) (k : ℕ) → (has ns name ≡ true → k < length ns) → (t || has ns name) ≡ true → (if not t then 1 + k else 0) < suc (length ns)
    step true ns k f e = omega arith
    step false ns k f e = omega (arith, f e)

    less : (ns : List (List ℕ)) → has ns name ≡ true → position_or_len (bytes_eq name) ns < length ns
    less [] e = cc
    less (n ∷ ns) e = step (bytes_eq name n) ns (position_or_len (bytes_eq name) ns) (less ns) e

    either : (b : Bool) → position_or_len (bytes_eq name) names < length names → unwrap_or (if b then Some (position_or_len (bytes_eq name) names) else None) 0 < length names
    either true l = l
    either false l = omega (arith, l)

is_object_of : (o : Option Declared) → is_none o ≡ false → is_task o ≡ false → is_object o ≡ true
is_object_of None a b = cc
is_object_of (Some (d.Task params)) a b = cc
is_object_of (Some (d.Array words)) a b = refl
is_object_of (Some d.Set) a b = refl
is_object_of (Some d.Map) a b = refl
is_object_of (Some d.Vector) a b = refl
is_object_of (Some d.Heap) a b = refl

object_in : (p : Program) (name : List ℕ) → is_object (first_named p.items name) ≡ true → (bytes_eq name (codes "heap") ≡ true) ⊎ (has (object_names p.items) name ≡ true) → IsObject p (object_of p name)
object_in p name o h = by (bytes_eq name (codes "heap")) refl h
  where
    by : (t : Bool) → bytes_eq name (codes "heap") ≡ t → (t ≡ true) ⊎ (has (object_names p.items) name ≡ true)
        → IsObject p (unwrap_or (if t then Some HEAP else position (bytes_eq name) (object_names p.items)) 0)
    by true e k = inl (refl, ap (λ x. is_object (first_named p.items x)) (sym ((bytes_eq-Decides name (codes "heap")).0 e)) ∙ o)
    by false e (inl k) = cc
    by false e (inr k) = inr (place_in (object_names p.items) name k)

-- What is declared as the heap is named `heap`.
skip : (name : List ℕ) (t : Bool) (x : Declared) (rest : Option Declared) → (x ≡ d.Heap → bytes_eq name (codes "heap") ≡ true) → (if t then Some x else rest) ≡ Some d.Heap
    → (rest ≡ Some d.Heap → bytes_eq name (codes "heap") ≡ true) → bytes_eq name (codes "heap") ≡ true
skip name true x rest n e k = let same : x ≡ d.Heap = cc in n same
skip name false x rest n e k = k e

heap_named : (items : List Item) (name : List ℕ) → first_named items name ≡ Some d.Heap → bytes_eq name (codes "heap") ≡ true
heap_named [] name e = cc
heap_named (i.Array n words ∷ more) name e = skip name (bytes_eq name n.text) (d.Array words.value) (first_named more name) (λ k. cc) e (heap_named more name)
heap_named (i.Set n ∷ more) name e = skip name (bytes_eq name n.text) d.Set (first_named more name) (λ k. cc) e (heap_named more name)
heap_named (i.Map n ∷ more) name e = skip name (bytes_eq name n.text) d.Map (first_named more name) (λ k. cc) e (heap_named more name)
heap_named (i.Vector n ∷ more) name e = skip name (bytes_eq name n.text) d.Vector (first_named more name) (λ k. cc) e (heap_named more name)
heap_named (i.Heap words ∷ more) name e = by (bytes_eq name (codes "heap")) refl e (heap_named more name)
  where
    by : (t : Bool) → bytes_eq name (codes "heap") ≡ t → (if t then Some d.Heap else first_named more name) ≡ Some d.Heap
        → (first_named more name ≡ Some d.Heap → bytes_eq name (codes "heap") ≡ true) → bytes_eq name (codes "heap") ≡ true
    by true e k f = e
    by false e k f = f k
heap_named (i.Show n ∷ more) name e = heap_named more name e
heap_named (i.Input n values ∷ more) name e = heap_named more name e
heap_named (i.Task n params body ∷ more) name e = skip name (bytes_eq name n.text) (d.Task (length params)) (first_named more name) (λ k. cc) e (heap_named more name)

-- An operation on the blocks of the heap.
abbrev pub IsOnBlocks : Operation → Type 0
IsOnBlocks operation = (signature_of operation).holder ≡ holder.Heap

-- What such an operation works on is declared as the heap.
works_on_heap : (operation : Operation) (o : Option Declared) → IsOnBlocks operation → is_object o ≡ true → misses o (Some operation) ≡ false → o ≡ Some d.Heap
works_on_heap operation None b h m = cc
works_on_heap operation (Some (d.Task params)) b h m = cc
works_on_heap operation (Some (d.Array words)) b h m = not_held (d.Array words) (λ e. cc) (ap (λ x. holds x (d.Array words)) (sym b) ∙ not_false _ m)
  where
    not_held : (x : Declared) → (holds holder.Heap x ≡ true → ⊥) → holds holder.Heap x ≡ true → Some x ≡ Some d.Heap
    not_held x f e = absurd (f e)
works_on_heap operation (Some d.Set) b h m = let e : holds holder.Heap d.Set ≡ true = ap (λ x. holds x d.Set) (sym b) ∙ not_false _ m in cc
works_on_heap operation (Some d.Map) b h m = let e : holds holder.Heap d.Map ≡ true = ap (λ x. holds x d.Map) (sym b) ∙ not_false _ m in cc
works_on_heap operation (Some d.Vector) b h m = let e : holds holder.Heap d.Vector ≡ true = ap (λ x. holds x d.Vector) (sym b) ∙ not_false _ m in cc
works_on_heap operation (Some d.Heap) b h m = refl

-- A call is one of an object that the program has, and of the heap where it is on the heap's blocks.
pub record IsSoundCall (p : Program) (c : CallText) : Type 0 where
  pub object : IsObject p (object_of p c.object.text)
  pub heap : (operation : Operation) → operation_of c.op.text ≡ Some operation → IsOnBlocks operation → IsObject p HEAP

-- A call with no fault is such a one.
call_named : (p : Program) (c : CallText) (targets : List Name) → faults_at (first_named p.items) (calls c targets) ≡ [] → IsSoundCall p c
unfolding faults_at
call_named p c targets h =
    let there : is_none (first_named p.items c.object.text) ≡ false = unbroken _ _ _ (front_empty _ _ (front_empty _ _ (front_empty _ _ h))) in
    let kind : is_task (first_named p.items c.object.text) ≡ false = unbroken _ _ _ (front_empty _ _ (front_empty _ _ (back_empty _ _ h))) in
    let is : is_object (first_named p.items c.object.text) ≡ true = is_object_of (first_named p.items c.object.text) there kind in
    let fits : misses (first_named p.items c.object.text) (operation_of c.op.text) ≡ false = unbroken _ _ _ (back_empty _ _ (front_empty _ _ (back_empty _ _ h))) in
    record {
      object = object_in p c.object.text is (named_object p.items c.object.text there kind);
      heap = λ operation e b.
          let heap : first_named p.items c.object.text ≡ Some d.Heap = works_on_heap operation (first_named p.items c.object.text) b is (ap (misses (first_named p.items c.object.text)) (sym e) ∙ fits) in
          let name : c.object.text ≡ codes "heap" = (bytes_eq-Decides c.object.text (codes "heap")).0 (heap_named p.items c.object.text heap) in
          inl (refl, ap (λ x. is_object (first_named p.items x)) (sym name) ∙ is);
    }

call_clean : (p : Program) (c : CallText) (targets : List Name) (visible : List (List ℕ)) → Clean p (call_sites targets c visible) → IsSoundCall p c
call_clean p c targets visible h = call_named p c targets (front_empty _ _ h)

-- ---- one level of a statement

-- The right side of an assignment is an expression, or a call of an object that the program has.
abbrev pub IsRight : Program → Right → Type 0
IsRight p (r.Value e) = Unit {0}
IsRight p (r.Result c) = IsSoundCall p c

-- What stands in a statement has no fault.
abbrev pub Inside : Program → Stmt-F Stmt → Type 0
Inside p (Stmt-F.Set1 fresh targets right) = IsRight p right
Inside p (Stmt-F.Do c) = IsSoundCall p c
Inside p (Stmt-F.If test one other) = AreSeen p one × AreSeen p other
Inside p (Stmt-F.While test body) = AreSeen p body
Inside p (Stmt-F.Finish body) = AreSeen p body
Inside p _ = Unit {0}

right_inside : (p : Program) (targets : List Name) (right : Right) (visible : List (List ℕ)) → Clean p (right_sites targets right visible) → IsRight p right
right_inside p targets (r.Value e) visible h = tt
right_inside p targets (r.Result c) visible h = call_clean p c targets visible h

pub inside : (p : Program) (st : Stmt) → IsSeen p st → Inside p (out-Stmt st)
unfolding stmt
inside p st seen = by (out-Stmt st) (subst (λ y. Clean p (fold-Stmt Part stmt_step y seen.scope).sites) (sym (roll-out-Stmt st)) seen.clean)
  where
    level : (x : Stmt-F Stmt) (f : Part) → fold-Stmt Part stmt_step (roll-Stmt x) ≡ f → Clean p (fold-Stmt Part stmt_step (roll-Stmt x) seen.scope).sites → Clean p (f seen.scope).sites
    level x f e h = subst (λ l. Clean p (l seen.scope).sites) e h

    by : (x : Stmt-F Stmt) → Clean p (fold-Stmt Part stmt_step (roll-Stmt x) seen.scope).sites → Inside p x
    by (Stmt-F.Set1 fresh names right) h =
        right_inside p names right seen.scope.visible (front_clean p (right_sites names right seen.scope.visible) _ (level _ _ (fold-roll-Stmt Part stmt_step (Stmt-F.Set1 fresh names right)) h))
    by (Stmt-F.Do c) h = call_clean p c [] seen.scope.visible (level _ _ (fold-roll-Stmt Part stmt_step (Stmt-F.Do c)) h)
    by (Stmt-F.If test one other) h =
        let blocks = back_clean p (expr_sites seen.scope.visible test) _ (level _ _ (fold-roll-Stmt Part stmt_step (Stmt-F.If test one other)) h) in
        (seen_block p one seen.scope (front_clean p (all (map stmt one) seen.scope).sites _ blocks), seen_block p other _ (back_clean p (all (map stmt one) seen.scope).sites _ blocks))
    by (Stmt-F.While test body) h =
        seen_block p body seen.scope (back_clean p (expr_sites seen.scope.visible test) _ (level _ _ (fold-roll-Stmt Part stmt_step (Stmt-F.While test body)) h))
    by (Stmt-F.Finish body) h = seen_block p body seen.scope (level _ _ (fold-roll-Stmt Part stmt_step (Stmt-F.Finish body)) h)
    by _ h = tt

-- ---- the bodies of an accepted program

some_task : (items : List Item) → has_main items ≡ true → 0 < length (tasks_of items)
some_task [] h = cc
some_task (i.Array n words ∷ more) h = some_task more h
some_task (i.Set n ∷ more) h = some_task more h
some_task (i.Map n ∷ more) h = some_task more h
some_task (i.Vector n ∷ more) h = some_task more h
some_task (i.Heap words ∷ more) h = some_task more h
some_task (i.Show n ∷ more) h = some_task more h
some_task (i.Input n values ∷ more) h = some_task more h
some_task (i.Task n params body ∷ more) h = omega arith

main_there : (m : Meaning) (at : Place) (items : List Item) → faults_at m (ends at items) ≡ [] → has_main items ≡ true
unfolding faults_at
main_there m at items h = not_false (has_main items) (unbroken _ _ _ (front_empty _ _ h))

bodies_seen : (p : Program) (items : List Item) → Clean p (uses_sites items) → (k : ℕ) (t : TaskText) → slice_get (tasks_of items) k ≡ Some t → AreSeen p t.body
bodies_seen p [] h k t at = cc
bodies_seen p (i.Array n words ∷ more) h k t at = bodies_seen p more h k t at
bodies_seen p (i.Set n ∷ more) h k t at = bodies_seen p more h k t at
bodies_seen p (i.Map n ∷ more) h k t at = bodies_seen p more h k t at
bodies_seen p (i.Vector n ∷ more) h k t at = bodies_seen p more h k t at
bodies_seen p (i.Heap words ∷ more) h k t at = bodies_seen p more h k t at
bodies_seen p (i.Show n ∷ more) h k t at = bodies_seen p more (back_clean p (shows n ∷ []) (uses_sites more) h) k t at
bodies_seen p (i.Input n values ∷ more) h k t at = bodies_seen p more (back_clean p (fills n values ∷ []) (uses_sites more) h) k t at
bodies_seen p (i.Task n params body ∷ more) h zero t at =
    let same : body ≡ t.body = ap (λ (o : Option TaskText). body_of o) at in
    subst (AreSeen p) same (body_seen (back_clean p (begins n params ∷ []) _ (front_clean p (begins n params ∷ body_sites params body) (uses_sites more) h)))
  where
    body_of : Option TaskText → List Stmt
    body_of None = []
    body_of (Some x) = x.body

    scope : LexicalScope
    scope = record { named = []; visible = [] }

    body_seen : Clean p (body_sites params body) → AreSeen p body
    body_seen g = seen_row p body (givens params scope).scope (back_clean p (givens params scope).sites (stmts body (givens params scope).scope).sites g)
bodies_seen p (i.Task n params body ∷ more) h (suc k) t at = bodies_seen p more (back_clean p (begins n params ∷ body_sites params body) (uses_sites more) h) k t at

-- What is known of an accepted program: it has a task, and no fault is in its tasks' bodies.
pub record IsSound (p : Program) : Type 0 where
  pub some : 0 < length (tasks_of p.items)
  pub bodies : (k : ℕ) (t : TaskText) → slice_get (tasks_of p.items) k ≡ Some t → AreSeen p t.body

pub sound : (p : Program) → IsAccepted p → IsSound p
sound p h =
    let rest : Clean p (uses_sites p.items ++ (ends p.end p.items ∷ [])) = back_clean p (heads_sites [] p.items) _ h.no_faults in
    record {
      some = some_task p.items (main_there (first_named p.items) p.end p.items (front_empty _ _ (back_clean p (uses_sites p.items) _ rest)));
      bodies = bodies_seen p p.items (front_clean p (uses_sites p.items) _ rest);
    }
