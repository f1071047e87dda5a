-- What an accepted program's statements call and start: each call is one of what its object is declared as, and each start has as many words as its task has
-- parameters.
use Rattle.std.proofs.Common.{◌≡◌, ℕ, ◌+◌, ◌==◌, Bool, true, false, not, List, [], ◌∷◌, ◌++◌, length, Option, Some, None, is_none, refl, sym, ap, ◌∙◌, subst}
use Rattle.std.proofs.lemmas.Grind.{flat_map-append}
use Rattle.std.proofs.lemmas.Bool.{eqb-true}
use Rattle.gr_syntax.specs.declared.syntax.Name.{Name}
use Rattle.gr_syntax.specs.declared.syntax.Place.{Place}
use Rattle.gr_syntax.specs.declared.syntax.Program.{Program}
use Rattle.gr_syntax.specs.declared.syntax.CallText.{CallText}
use Rattle.gr_syntax.specs.declared.syntax.Right.{Right}
use Rattle.gr_syntax.specs.declared.syntax.Right.TheVariants as r
use Rattle.gr_syntax.specs.declared.syntax.Stmt.{Stmt, fold-Stmt, out-Stmt, roll-Stmt, roll-out-Stmt}
use Rattle.gr_syntax.specs.declared.syntax.Stmt.TheFolds.{fold-roll-Stmt}
use Rattle.gr_syntax.specs.declared.syntax.Stmt.TheOpen.{Stmt-F}
use Rattle.gr_syntax.specs.declared.refusal.Kind.{Kind}
use Rattle.gr_syntax.specs.Faults.{when}
use Rattle.gr_accept.specs.declared.operation.Declared.{Declared}
use Rattle.gr_accept.specs.declared.operation.Declared.TheVariants as d
use Rattle.gr_accept.specs.declared.operation.Operation.{Operation}
use Rattle.gr_accept.specs.Conditions.{faults_at, is_object, is_task, misses, differs}
use Rattle.gr_accept.specs.Declarations.{first_named}
use Rattle.gr_accept.specs.Operations.{holds, operation_of, signature_of}
use Rattle.gr_accept.specs.Sites.{Site, calls, starts}
use Rattle.gr_accept.specs.Walks.{Part, stmt, stmt_step, how_sites, right_sites, expr_sites}
use Rattle.gr_known.proofs.Bodies.{Clean, IsSeen}

-- ---- parts of a row of faults or sites

pub front_empty : {A : Type 0} (xs ys : List A) → xs ++ ys ≡ [] → xs ≡ []
front_empty [] ys e = refl
front_empty (x ∷ xs) ys e = cc

pub back_empty : {A : Type 0} (xs ys : List A) → xs ++ ys ≡ [] → ys ≡ []
back_empty [] ys e = e
back_empty (x ∷ xs) ys e = cc

pub front_clean : (p : Program) (xs ys : List Site) → Clean p (xs ++ ys) → Clean p xs
front_clean p xs ys h = front_empty _ _ (sym (flat_map-append (faults_at (first_named p.items)) xs ys) ∙ h)

pub back_clean : (p : Program) (xs ys : List Site) → Clean p (xs ++ ys) → Clean p ys
back_clean p xs ys h = back_empty _ _ (sym (flat_map-append (faults_at (first_named p.items)) xs ys) ∙ h)

pub unbroken : (b : Bool) (kind : Kind) (at : Place) → when b kind at ≡ [] → b ≡ false
unbroken true kind at e = cc
unbroken false kind at e = refl

not_false : (b : Bool) → not b ≡ false → b ≡ true
not_false true e = refl
not_false false e = cc

-- ---- calls

-- The object is declared, and has the operation.
pub record IsCallOf (p : Program) (c : CallText) (operation : Operation) : Type 0 where
  pub declared : Declared
  pub means : first_named p.items c.object.text ≡ Some declared
  pub works : holds (signature_of operation).holder declared ≡ true

abbrev pub IsFitCall : Program → CallText → Type 0
IsFitCall p c = (operation : Operation) → operation_of c.op.text ≡ Some operation → IsCallOf p c operation

works : (p : Program) (c : CallText) (operation : Operation) (o : Option Declared) → first_named p.items c.object.text ≡ o → is_none o ≡ false → is_task o ≡ false
    → misses o (Some operation) ≡ false → IsCallOf p c operation
works p c operation None e a b m = cc
works p c operation (Some (d.Task params)) e a b m = cc
works p c operation (Some (d.Array words)) e a b m = record { declared = d.Array words; means = e; works = not_false _ m }
works p c operation (Some d.Set) e a b m = record { declared = d.Set; means = e; works = not_false _ m }
works p c operation (Some d.Map) e a b m = record { declared = d.Map; means = e; works = not_false _ m }
works p c operation (Some d.Vector) e a b m = record { declared = d.Vector; means = e; works = not_false _ m }
works p c operation (Some d.Heap) e a b m = record { declared = d.Heap; means = e; works = not_false _ m }

call_fits : (p : Program) (c : CallText) (targets : List Name) → faults_at (first_named p.items) (calls c targets) ≡ [] → IsFitCall p c
unfolding faults_at
call_fits p c targets h operation named =
    let there : is_none (first_named p.items c.object.text) ≡ false = unbroken _ _ _ (front_empty _ _ (front_empty _ _ (front_empty _ _ h))) in
    let kind : is_task (first_named p.items c.object.text) ≡ false = unbroken _ _ _ (front_empty _ _ (front_empty _ _ (back_empty _ _ h))) in
    let fits : misses (first_named p.items c.object.text) (operation_of c.op.text) ≡ false = unbroken _ _ _ (back_empty _ _ (front_empty _ _ (back_empty _ _ h))) in
    works p c operation (first_named p.items c.object.text) refl there kind (ap (misses (first_named p.items c.object.text)) (sym named) ∙ fits)

-- ---- starts

-- The name means a task with so many parameters.
abbrev pub IsFitStart : Program → Name → ℕ → Type 0
IsFitStart p name count = first_named p.items name.text ≡ Some (d.Task count)

task_of : (o : Option Declared) (count : ℕ) → is_none o ≡ false → is_object o ≡ false → differs o count ≡ false → o ≡ Some (d.Task count)
task_of None count a b m = cc
task_of (Some (d.Task params)) count a b m = ap (λ (n : ℕ). Some (d.Task n)) (eqb-true params count (not_false (params == count) m))
task_of (Some (d.Array words)) count a b m = cc
task_of (Some d.Set) count a b m = cc
task_of (Some d.Map) count a b m = cc
task_of (Some d.Vector) count a b m = cc
task_of (Some d.Heap) count a b m = cc

start_fits : (p : Program) (name : Name) (count : ℕ) → faults_at (first_named p.items) (starts name count) ≡ [] → IsFitStart p name count
unfolding faults_at
start_fits p name count h =
    let there : is_none (first_named p.items name.text) ≡ false = unbroken _ _ _ (front_empty _ _ h) in
    let kind : is_object (first_named p.items name.text) ≡ false = unbroken _ _ _ (front_empty _ _ (back_empty _ _ h)) in
    let many : differs (first_named p.items name.text) count ≡ false = unbroken _ _ _ (front_empty _ _ (back_empty _ _ (back_empty _ _ h))) in
    task_of (first_named p.items name.text) count there kind many

-- ---- one level of a statement

abbrev pub IsFitRight : Program → Right → Type 0
IsFitRight p (r.Value e) = Unit {0}
IsFitRight p (r.Result c) = IsFitCall p c

-- What a statement calls or starts by itself. The task of a `forall` has the index before the words.
abbrev pub IsFit : Program → Stmt-F Stmt → Type 0
IsFit p (Stmt-F.Set1 fresh targets right) = IsFitRight p right
IsFit p (Stmt-F.Do c) = IsFitCall p c
IsFit p (Stmt-F.Spawn way target args) = IsFitStart p target (length args)
IsFit p (Stmt-F.Forall lo hi grain target args) = IsFitStart p target (length args + 1)
IsFit p _ = Unit {0}

right_fits : (p : Program) (targets : List Name) (right : Right) (visible : List (List ℕ)) → Clean p (right_sites targets right visible) → IsFitRight p right
right_fits p targets (r.Value e) visible h = tt
right_fits p targets (r.Result c) visible h = call_fits p c targets (front_empty _ _ h)

pub statement_fits : (p : Program) (st : Stmt) → IsSeen p st → IsFit p (out-Stmt st)
unfolding stmt
statement_fits p st seen = by (out-Stmt st) (subst (λ y. Clean p (fold-Stmt Part stmt_step y seen.scope).sites) (sym (roll-out-Stmt st)) seen.clean)
  where
    visible : List (List ℕ)
    visible = seen.scope.visible

    level : (x : Stmt-F Stmt) (f : Part) → fold-Stmt Part stmt_step (roll-Stmt x) ≡ f → Clean p (fold-Stmt Part stmt_step (roll-Stmt x) seen.scope).sites → Clean p (f seen.scope).sites
    level x f e h = subst (λ l. Clean p (l seen.scope).sites) e h

    by : (x : Stmt-F Stmt) → Clean p (fold-Stmt Part stmt_step (roll-Stmt x) seen.scope).sites → IsFit p x
    by (Stmt-F.Set1 fresh names right) h =
        right_fits p names right visible (front_clean p (right_sites names right visible) _ (level _ _ (fold-roll-Stmt Part stmt_step (Stmt-F.Set1 fresh names right)) h))
    by (Stmt-F.Do c) h = call_fits p c [] (front_empty _ _ (level _ _ (fold-roll-Stmt Part stmt_step (Stmt-F.Do c)) h))
    by (Stmt-F.Spawn way target args) h =
        start_fits p target (length args) (front_empty _ _ (back_clean p (how_sites way visible) _ (level _ _ (fold-roll-Stmt Part stmt_step (Stmt-F.Spawn way target args)) h)))
    by (Stmt-F.Forall lo hi grain target args) h =
        start_fits p target (length args + 1) (front_empty _ _ (back_clean p (expr_sites visible grain) _ (back_clean p (expr_sites visible hi) _
        (back_clean p (expr_sites visible lo) _ (level _ _ (fold-roll-Stmt Part stmt_step (Stmt-F.Forall lo hi grain target args)) h)))))
    by _ h = tt
