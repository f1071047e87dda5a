-- The objects with one of them changed, and why the arrays still lie in the words.
use Rattle.std.proofs.Common.{◌≡◌, ℕ, ◌<◌, List, Option, Some, None, refl, sym, ap, ◌∙◌, subst, length}
use Rattle.std.proofs.lemmas.List.{set-get_or}
use Rattle.std.proofs.lemmas.List.Elements.{All-set, All-get_or}
use Rattle.std.proofs.lemmas.Option.{slice_get-get_or, slice_get_within, get_or_from_slice_get}
use Rattle.std.specs.Prelude.{All, OnOk, OnErr, Result, Ok, Err, slice_get, slice_set, slice_index_or}
use Rattle.gr_lang.specs.Objects.{Object, array, keys, pairs, line, affected, with_key, on_line}
use Rattle.gr_lang.specs.declared.action.Op.{Op}
use Rattle.gr_lang.specs.declared.action.Effect.{Effect}
use Rattle.gr_lang.specs.declared.action.Effect.TheVariants as effect
use Rattle.gr_memory.specs.Ranges.{LiesIn}
use Rattle.gr_memory.specs.ThingView.{changed_at, with_changed}

-- An object in its place changed as it is due.
pub set_changed : (xs : List Object) (i : ℕ) (d x : Object) (change : Object → Object) → i < length xs → x ≡ change (slice_index_or xs i d) → slice_set xs i x ≡ changed_at xs i change
set_changed xs i d x change lt e = ap (slice_set xs i) e ∙ sym (ap (with_changed xs i change) (slice_get-get_or xs i d lt))

-- An object put back where it stood.
pub set_same : (xs : List Object) (i : ℕ) (d x : Object) → x ≡ slice_index_or xs i d → slice_set xs i x ≡ xs
set_same xs i d x e = ap (slice_set xs i) e ∙ set-get_or xs i d

pub ruleset at_things = (set_changed, set_same)

-- Calls leave arrays where they lie.

with_key_lies : (n : ℕ) (thing : Object) (key : ℕ) (value : Option ℕ) → LiesIn n thing → LiesIn n (with_key thing key value)
with_key_lies n (array from count) key None h = h
with_key_lies n (array from count) key (Some word) h = h
with_key_lies n (keys held) key None h = tt
with_key_lies n (keys held) key (Some word) h = tt
with_key_lies n (pairs held) key None h = tt
with_key_lies n (pairs held) key (Some word) h = tt
with_key_lies n (line words) key None h = tt
with_key_lies n (line words) key (Some word) h = tt

pub affected_lies : (n key : ℕ) (what : Effect) (thing : Object) → LiesIn n thing → LiesIn n (affected thing key what)
affected_lies n key effect.Keep thing h = h
affected_lies n key (effect.Present word) thing h = with_key_lies n thing key _ h
affected_lies n key effect.Absent thing h = with_key_lies n thing key _ h
affected_lies n key (effect.Fold reducer word) thing h = with_key_lies n thing key _ h

pub line_lies : (n : ℕ) (call : Op) (thing : Object) → LiesIn n thing → LiesIn n (on_line call thing).0
line_lies n call (array from count) h = h
line_lies n call (keys held) h = tt
line_lies n call (pairs held) h = tt
line_lies n call (line words) h = tt

changed_lie : (n : ℕ) (xs : List Object) (i : ℕ) (change : Object → Object) → ((x : Object) → LiesIn n x → LiesIn n (change x)) → All (LiesIn n) xs
    → (found : Option Object) → slice_get xs i ≡ found → All (LiesIn n) (with_changed xs i change found)
changed_lie n xs i change keeps h None e = h
changed_lie n xs i change keeps h (Some x) e =
    All-set (LiesIn n) xs i (change x) (keeps x (subst (LiesIn n) (get_or_from_slice_get xs i x x e) (All-get_or (LiesIn n) xs i x (slice_get_within xs i x e) h))) h

-- Whether or not there was memory for a change, the objects lie in as many words as before.
pub still_lie : {A B : Type 0} (r : Result A B) (n : ℕ) (xs ys : List Object) (i : ℕ) (change : Object → Object) → OnOk r (ys ≡ changed_at xs i change) → OnErr r (ys ≡ xs)
    → ((x : Object) → LiesIn n x → LiesIn n (change x)) → All (LiesIn n) xs → All (LiesIn n) ys
still_lie (Ok v) n xs ys i change ok err keeps h = subst (All (LiesIn n)) (sym ok) (changed_lie n xs i change keeps h (slice_get xs i) refl)
still_lie (Err v) n xs ys i change ok err keeps h = subst (All (LiesIn n)) (sym err) h
