-- The numbers of unended tasks after a step: where a new task stands is a scope that is there, and the changed numbers are those of the new state.
use Rattle.std.proofs.Common.{◌≡◌, ◌≢◌, ℕ, zero, suc, ◌+◌, ◌-◌, ◌<◌, ◌≤◌, ◌^◌, ◌⊎◌, inl, inr, Bool, true, false, ◌||◌, List, [], ◌∷◌, ◌++◌, Option, Some, None, refl, sym, ap, ◌∙◌, arith, cond, subst, length, length-append, length-set, get_or-set_same, get_or-set_other, eq-eqb}
use Rattle.std.specs.Prelude.{◌==◌, IfSome, slice_index, slice_set}
use Rattle.std.specs.Option.{option_map, option_and_then}
use Rattle.std.specs.List.{list_any}
use Rattle.std.specs.FinMap as fin
use Rattle.std.proofs.lemmas.Bool.Decides.{nat_tests}
use Rattle.std.proofs.lemmas.Option.{slice_get_within}
use Rattle.gr_lang.proofs.TaskIds.{ids_total}
use Rattle.gr_syntax.specs.declared.syntax.Program.{Program}
use Rattle.gr_lang.specs.declared.action.Entry.{Entry}
use Rattle.gr_lang.specs.declared.action.Entry.TheVariants as e
use Rattle.gr_lang.specs.declared.action.TaskId.{TaskId}
use Rattle.gr_lang.specs.States.{State, Task, Scope, Mode, going, at_loop, ended, trapped, has_ended, innermost, innermost_of}
use Rattle.gr_lang.specs.Steps.{step, if_going, spawn_step}
use Rattle.gr_valid.specs.Valid.{IsValid, IsOpen, AreOpened}
use Rattle.gr_valid.specs.Work.{StepsValid, works_in}
use Rattle.gr_tables.specs.Changes.{begins_in, ends_in, CanChange, changed}
use Rattle.gr_plain.specs.CountWords.{IsCounted, change_of, unended_of}
use Rattle.gr_tables.specs.Stacks.{top_of}
use Rattle.gr_tables.specs.declared.counts.Change.{Change}
use Rattle.gr_tables.specs.declared.counts.Change.TheVariants as c
use Rattle.gr_plain.proofs.Tallies.{count-le-len}
use Rattle.gr_plain.proofs.Recounts.{Recount, on_task, on_going, goes}
use Rattle.gr_plain.proofs.Changes.{recounts}

-- ---- scopes that are there

is_there : (n k : ℕ) (scopes : List Scope) (rest : Bool) → k < length scopes → (rest ≡ true → n < length scopes) → (b : Bool) → (k == n) ≡ b → (b || rest) ≡ true → n < length scopes
is_there n k scopes rest h g true e f = let same : k ≡ n = grind (arith, nat_tests) in omega (arith, same, h)
is_there n k scopes rest h g false e f = g f

opened_there : (scopes : List Scope) (id : TaskId) (own s : ℕ) (opened : List ℕ) → AreOpened scopes id own opened → list_any (λ k. k == s) opened ≡ true → s < length scopes
opened_there scopes id own s [] h f = cc
opened_there scopes id own s (k ∷ ks) h f = is_there s k scopes (list_any (λ q. q == s) ks) (slice_get_within scopes k h.0.scope h.0.there) (λ g. opened_there scopes id own s ks h.1 g) _ refl f

still : (m : Mode) → has_ended m ≡ false → m ≢ ended
still ended h = λ _. cc
still going h = λ k. cc
still at_loop h = λ k. cc
still trapped h = λ k. cc

own_there : (p : Program) (S : State) (t : Task) → IsValid p S → (t.scope ≡ 0) ⊎ IsOpen S t.scope → t.scope < length S.scopes
own_there p S t h (inl same) = let first : 0 < length S.scopes = slice_get_within S.scopes 0 _ h.root in omega (arith, same, first)
own_there p S t h (inr held) = opened_there S.scopes held.id held.task.scope t.scope held.task.opened (h.tasks held.id held.task held.there).opened held.opened

inner_there : (p : Program) (S : State) (id : TaskId) (t : Task) (opened : List ℕ) → IsValid p S → fin.get S.tasks id ≡ Some t → has_ended t.mode ≡ false → AreOpened S.scopes id t.scope opened
    → innermost_of t.scope opened < length S.scopes
inner_there p S id t [] h there on are = own_there p S t h (h.held id t there (still t.mode on))
inner_there p S id t (s ∷ ss) h there on are = slice_get_within S.scopes s are.0.scope are.0.there

pub innermost_there : (p : Program) (S : State) (id : TaskId) (t : Task) → IsValid p S → fin.get S.tasks id ≡ Some t → has_ended t.mode ≡ false → innermost t < length S.scopes
innermost_there p S id t h there on = inner_there p S id t t.opened h there on (h.tasks id t there).opened

top_there : (scopes : List Scope) (id : TaskId) (own s : ℕ) (opened : List ℕ) → AreOpened scopes id own opened → top_of opened ≡ Some s → s < length scopes
top_there scopes id own s [] h e = cc
top_there scopes id own s (k ∷ ks) h e =
    let same : k ≡ s = cc in
    let there : k < length scopes = slice_get_within scopes k h.0.scope h.0.there in omega (arith, same, there)

pub top_opened_there : (p : Program) (S : State) (id : TaskId) (t : Task) (s : ℕ) → IsValid p S → fin.get S.tasks id ≡ Some t → top_of t.opened ≡ Some s → s < length S.scopes
top_opened_there p S id t s h there e = top_there S.scopes id t.scope s t.opened (h.tasks id t there).opened e

-- ---- the numbers after a change

abbrev pub IsThere : Change → State → Type 0
IsThere (c.Begins r) S = r < length S.scopes
IsThere _ S = Unit {0}

pub record Changes (change : Change) (counts : List ℕ) (T : State) : Type 0 where
  pub can : CanChange change counts
  pub scopes : length (changed change counts) ≡ length T.scopes
  pub unended : (s : ℕ) → slice_index (changed change counts) s ≡ unended_of T.tasks s

past_zero : (xs : List ℕ) (n : ℕ) → slice_index (xs ++ 0 ∷ []) n ≡ slice_index xs n
past_zero [] zero = refl
past_zero [] (suc n) = refl
past_zero (x ∷ xs) zero = refl
past_zero (x ∷ xs) (suc n) = past_zero xs n

set_there : (xs : List ℕ) (r s x : ℕ) → r < length xs → (b : Bool) → (r == s) ≡ b → slice_index (slice_set xs r x) s ≡ cond b x (slice_index xs s)
set_there xs r s x h true e =
    let same : r ≡ s = grind (arith, nat_tests) in
    ap (λ k. slice_index (slice_set xs r x) k) (sym same) ∙ get_or-set_same xs r x 0 h
set_there xs r s x h false e =
    let other : s ≢ r = λ k. let q : (r == s) ≡ true = eq-eqb r s (sym k) in let z : true ≡ false = sym q ∙ e in cc in
    get_or-set_other xs r s x 0 other

within : (xs : List ℕ) (r : ℕ) → 0 < slice_index xs r → r < length xs
within [] r h = absurd (omega arith)
within (x ∷ xs) zero h = omega arith
within (x ∷ xs) (suc r) h = omega (arith, within xs r h)

pub applied : (change : Change) (counts : List ℕ) (S T : State) → length counts ≡ length S.scopes → ((s : ℕ) → slice_index counts s ≡ unended_of S.tasks s)
    → Recount S change T → IsThere change S → fin.len T.tasks < 2 ^ 64 → Changes change counts T
applied c.Stays counts S T many are recount there few = record {
  can = tt;
  scopes = omega (arith, recount.scopes, many);
  unended = λ s. omega (arith, recount.counts s, are s);
}
applied c.Opens counts S T many are recount there few = record {
  can = tt;
  scopes = omega (arith, recount.scopes, many, length-append counts (0 ∷ []));
  unended = λ s. omega (arith, recount.counts s, are s, past_zero counts s);
}
applied (c.Begins r) counts S T many are recount there few =
    let at : r < length counts = omega (arith, many, there) in
    let one : ◌≡◌ {A = ℕ} (cond (r == r) 1 0) 1 = ap {B = ℕ} (λ b. cond b 1 0) (eq-eqb r r refl) in
    let most : unended_of T.tasks r ≤ fin.len T.tasks = count-le-len ids_total (works_in r) T.tasks in
    record {
      can = (at, omega (arith, recount.counts r, are r, most, few, one));
      scopes = omega (arith, recount.scopes, many, length-set counts r (slice_index counts r + 1));
      unended = λ s. set_there counts r s (slice_index counts r + 1) at (r == s) refl ∙ by_test s (r == s) refl (recount.counts s) (are s);
    }
  where
    by_test : (s : ℕ) (b : Bool) → (r == s) ≡ b → unended_of T.tasks s + 0 ≡ unended_of S.tasks s + cond b 1 0 → slice_index counts s ≡ unended_of S.tasks s → cond b (slice_index counts r + 1) (slice_index counts s) ≡ unended_of T.tasks s
    by_test s true e f g = let same : r ≡ s = grind (arith, nat_tests) in omega (arith, f, g, ap (slice_index counts) same)
    by_test s false e f g = omega (arith, f, g)
applied (c.Ends r) counts S T many are recount there few =
    let one : ◌≡◌ {A = ℕ} (cond (r == r) 1 0) 1 = ap {B = ℕ} (λ b. cond b 1 0) (eq-eqb r r refl) in
    let some : 0 < slice_index counts r = omega (arith, recount.counts r, are r, one) in
    let at : r < length counts = within counts r some in
    record {
      can = some;
      scopes = omega (arith, recount.scopes, many, length-set counts r (slice_index counts r - 1));
      unended = λ s. set_there counts r s (slice_index counts r - 1) at (r == s) refl ∙ by_test s (r == s) refl (recount.counts s) (are s);
    }
  where
    by_test : (s : ℕ) (b : Bool) → (r == s) ≡ b → unended_of T.tasks s + cond b 1 0 ≡ unended_of S.tasks s + 0 → slice_index counts s ≡ unended_of S.tasks s → cond b (slice_index counts r - 1) (slice_index counts s) ≡ unended_of T.tasks s
    by_test s true e f g = let same : r ≡ s = grind (arith, nat_tests) in omega (arith, f, g, ap (slice_index counts) same)
    by_test s false e f g = omega (arith, f, g)

-- ---- the law

free : (o : Option State) (P : Type 0) → P → IfSome o (λ _. P)
free None P h = tt
free (Some T) P h = h

ends_free : (S : State) (o : Option ℕ) → IsThere (ends_in o) S
ends_free S None = tt
ends_free S (Some s) = tt

spawns_there : (p : Program) (S : State) (id : TaskId) (o : Option State) (t : Task) → IsValid p S → fin.get S.tasks id ≡ Some t → IfSome (if_going (λ _. o) t) (λ _. IsThere (c.Begins (innermost t)) S)
spawns_there p S id o t h there = on_going t.mode o (λ _. IsThere (c.Begins (innermost t)) S) (λ m. free o (IsThere (c.Begins (innermost t)) S) (innermost_there p S id t h there (goes t.mode m)))

begins_there : (p : Program) (S : State) (id : TaskId) (t : Task) (o : Option ℕ) → IsValid p S → fin.get S.tasks id ≡ Some t → top_of t.opened ≡ o → IsThere (begins_in o) S
begins_there p S id t None h there e = tt
begins_there p S id t (Some s) h there e = top_opened_there p S id t s h there e

theres : (p : Program) (N L : ℕ) (S : State) (x : Entry) → IsValid p S → IfSome (step p N L S x) (λ _. IsThere (change_of S x) S)
theres p N L S (e.Call id op w) h = free _ (Unit {0}) tt
theres p N L S (e.Spawn id way target args kid) h =
    on_task S id _ (λ o _. IsThere (begins_in (option_map innermost o)) S) (λ t there. spawns_there p S id (spawn_step p N L S id t t.action way target args kid) t h there)
theres p N L S (e.Finish id) h = free _ (Unit {0}) tt
theres p N L S (e.Loop id lo hi grain target args) h = free _ (Unit {0}) tt
theres p N L S (e.Begin owner index kid) h =
    on_task S owner _ (λ o _. IsThere (begins_in (option_and_then (λ t. top_of t.opened) o)) S) (λ t there. free _ (IsThere (begins_in (top_of t.opened)) S) (begins_there p S owner t (top_of t.opened) h there refl))
theres p N L S (e.Pass id) h = free _ (Unit {0}) tt
theres p N L S (e.End id) h = free _ (IsThere (change_of S (e.End id)) S) (ends_free S (option_map (λ t. t.scope) (fin.get S.tasks id)))
theres p N L S (e.Trap id kind) h = free _ (Unit {0}) tt
theres p N L S e.Over h = free _ (Unit {0}) tt

-- What holds of the next state where there is one holds of this one.
told : (o : Option State) (T : State) (P : State → Type 0) → o ≡ Some T → IfSome o P → P T
told None T P is h = cc
told (Some S) T P is h = let same : S ≡ T = cc in subst P same h

pub numbers : StepsValid → (p : Program) (N L : ℕ) (S T : State) (x : Entry) (counts : List ℕ) → IsCounted p S counts → step p N L S x ≡ Some T → fin.len T.tasks < 2 ^ 64
    → CanChange (change_of S x) counts × IsCounted p T (changed (change_of S x) counts)
numbers stays p N L S T x counts h is few =
    let recount : Recount S (change_of S x) T = told (step p N L S x) T (Recount S (change_of S x)) is (recounts p N L S x) in
    let there : IsThere (change_of S x) S = told (step p N L S x) T (λ _. IsThere (change_of S x) S) is (theres p N L S x h.valid) in
    let all : Changes (change_of S x) counts T = applied (change_of S x) counts S T h.scopes h.unended recount there few in
    (all.can, record { valid = stays p N L S T x h.valid is; scopes = all.scopes; unended = all.unended })
