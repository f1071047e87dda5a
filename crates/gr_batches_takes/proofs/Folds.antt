-- The one effect of calls that fold is one of a word, of a set or of a map, as their own effects are.
use Rattle.std.proofs.Common.{◌≡◌, ◌==◌, ℕ, Bool, true, false, ◌||◌, if◌then◌else◌, List, [], ◌∷◌, sym, ◌∙◌, ap, refl, Option, Some, None}
use Rattle.std.specs.List.{list_any}
use Rattle.std.specs.FinMap as map
use Rattle.std.specs.FinSet as set
use Rattle.std.specs.Ordering.{nat_cmp}
use Rattle.std.proofs.lemmas.Option.{option_and_then_some}
use Rattle.gr_lang.specs.declared.action.Effect.{Effect}
use Rattle.gr_lang.specs.declared.action.Effect.TheVariants as effect
use Rattle.gr_lang.specs.declared.action.Op.{Op}
use Rattle.gr_lang.specs.declared.action.Op.TheVariants as op
use Rattle.gr_lang.specs.declared.action.WaitingCall.{WaitingCall}
use Rattle.gr_lang.specs.Effects.{effect_of, reduced}
use Rattle.gr_lang.specs.Objects.{Object, keys, pairs}
use Rattle.gr_batch.specs.Folding.{with_fold, together, folded_after}
use Rattle.gr_net.specs.Sums.{Each}
use Rattle.gr_machine.specs.Machines.{Machine}
use Rattle.gr_machine.specs.BatchServes.{is_of_word, is_of_set, is_of_map, is_reduce}
use Rattle.gr_machine.specs.Calls.{is_keyed, is_reducer}
use Rattle.gr_stands_calls.proofs.Slots.{some_same}
use Rattle.gr_batches_takes.proofs.Words.{IsReduceOf}

-- What a first effect and those of calls keep, one after another, their one effect has.
folds_to : (Is : Effect → Bool) (Good : Op → Type 0) → ((first : Effect) (o : Op) (both : Effect) → Good o → Is first ≡ true → together first (effect_of o) ≡ Some both → Is both ≡ true)
    → (calls : List WaitingCall) (first what : Effect) → folded_after first calls ≡ Some what → Is first ≡ true → Each (λ one. Good one.op) calls → Is what ≡ true
folds_to Is Good step [] first what e i g = sym (ap Is (some_same first what e)) ∙ i
folds_to Is Good step (one ∷ calls) first what e i g =
    option_and_then_some (λ both. folded_after both calls) (together first (effect_of one.op)) what e (λ x h k. folds_to Is Good step calls x what k (step first one.op x g.0 i h) g.1)

-- A fold by the same reducer stays one.
folded_so : (Is : Effect → Bool) (own reducer before word : ℕ) (both : Effect) → ((x : ℕ) → Is (effect.Fold own x) ≡ true)
    → (if own == reducer then Some (effect.Fold own (reduced own before word)) else None) ≡ Some both → Is both ≡ true
folded_so Is own reducer before word both all e = by (own == reducer) e
  where
    by : (b : Bool) → (if b then Some (effect.Fold own (reduced own before word)) else None) ≡ Some both → Is both ≡ true
    by true e = sym (ap Is (some_same (effect.Fold own (reduced own before word)) both e)) ∙ all (reduced own before word)
    by false e = absurd (cc)

-- ---- sets

set_step : (held : set.FinSet nat_cmp) (first : Effect) (o : Op) (both : Effect) → is_keyed o (Some (keys held)) ≡ true → is_of_set first ≡ true
    → together first (effect_of o) ≡ Some both → is_of_set both ≡ true
set_step held first (op.Insert on under_it) both k i e = sym (ap is_of_set (some_same (effect.Present 0) both e))
set_step held first (op.Remove on under_it) both k i e = sym (ap is_of_set (some_same effect.Absent both e))
set_step held first (op.Has on under_it) both k i e = sym (ap is_of_set (some_same first both e)) ∙ i
set_step held first _ both k i e = absurd (cc)

pub set_folds : (held : set.FinSet nat_cmp) (calls : List WaitingCall) (what : Effect) → folded_after effect.Keep calls ≡ Some what
    → Each (λ one. is_keyed one.op (Some (keys held)) ≡ true) calls → is_of_set what ≡ true
set_folds held calls what e g = folds_to is_of_set (λ o. is_keyed o (Some (keys held)) ≡ true) (set_step held) calls effect.Keep what e refl g

-- ---- maps

merge_step : (first : Effect) (reducer word : ℕ) (both : Effect) → is_reducer reducer ≡ true → is_of_map first ≡ true → with_fold first reducer word ≡ Some both → is_of_map both ≡ true
merge_step effect.Keep reducer word both k i e = sym (ap is_of_map (some_same (effect.Fold reducer word) both e)) ∙ k
merge_step (effect.Present before) reducer word both k i e = sym (ap is_of_map (some_same (effect.Present (reduced reducer before word)) both e))
merge_step effect.Absent reducer word both k i e = sym (ap is_of_map (some_same (effect.Present word) both e))
merge_step (effect.Fold own before) reducer word both k i e = folded_so is_of_map own reducer before word both (λ x. i) e

map_step : (held : map.FinMap nat_cmp ℕ) (first : Effect) (o : Op) (both : Effect) → is_keyed o (Some (pairs held)) ≡ true → is_of_map first ≡ true
    → together first (effect_of o) ≡ Some both → is_of_map both ≡ true
map_step held first (op.Put on under_it word) both k i e = sym (ap is_of_map (some_same (effect.Present word) both e))
map_step held first (op.Get on under_it) both k i e = sym (ap is_of_map (some_same first both e)) ∙ i
map_step held first (op.Erase on under_it) both k i e = sym (ap is_of_map (some_same effect.Absent both e))
map_step held first (op.Merge on reducer under_it word) both k i e = merge_step first reducer word both k i e
map_step held first _ both k i e = absurd (cc)

pub map_folds : (held : map.FinMap nat_cmp ℕ) (calls : List WaitingCall) (what : Effect) → folded_after effect.Keep calls ≡ Some what
    → Each (λ one. is_keyed one.op (Some (pairs held)) ≡ true) calls → is_of_map what ≡ true
map_folds held calls what e g = folds_to is_of_map (λ o. is_keyed o (Some (pairs held)) ≡ true) (map_step held) calls effect.Keep what e refl g

-- ---- words

module _ (machine : Machine) (object key : ℕ) where
  reduce_step : (first : Effect) (reducer word : ℕ) (both : Effect) → is_of_word first ≡ true → with_fold first reducer word ≡ Some both → is_of_word both ≡ true
  reduce_step (effect.Fold own before) reducer word both i e = folded_so is_of_word own reducer before word both (λ x. i) e
  reduce_step _ reducer word both i e = absurd (cc)

  word_step : (first : Effect) (o : Op) (both : Effect) → IsReduceOf machine object key o → is_of_word first ≡ true → together first (effect_of o) ≡ Some both → is_of_word both ≡ true
  word_step first o both g i e = reduce_step first g.reducer g.word both i (ap (λ (c : Op). together first (effect_of c)) (sym g.is) ∙ e)

  word_first : (o : Op) (both : Effect) → IsReduceOf machine object key o → together effect.Keep (effect_of o) ≡ Some both → is_of_word both ≡ true
  word_first o both g e =
      sym (ap is_of_word (some_same (effect.Fold g.reducer g.word) both (ap (λ (c : Op). together effect.Keep (effect_of c)) (sym g.is) ∙ e))) ∙ g.known

  pub word_folds : (one : WaitingCall) (calls : List WaitingCall) (what : Effect) → folded_after effect.Keep (one ∷ calls) ≡ Some what
      → Each (λ (one : WaitingCall). IsReduceOf machine object key one.op) (one ∷ calls) → is_of_word what ≡ true
  word_folds one calls what e g = option_and_then_some (λ both. folded_after both calls) (together effect.Keep (effect_of one.op)) what e
      (λ x h k. folds_to is_of_word (IsReduceOf machine object key) word_step calls x what k (word_first one.op x g.0 h) g.1)

-- ---- no call of a set or map is a reduce

not_reduce : (o : Op) (it : Option Object) → is_keyed o it ≡ true → is_reduce o ≡ false
not_reduce (op.Reduce on reducer place word) it e = absurd (cc)
not_reduce _ it e = refl

pub none_reduce : (it : Option Object) (calls : List WaitingCall) → Each (λ one. is_keyed one.op it ≡ true) calls → list_any (λ one. is_reduce one.op) calls ≡ false
none_reduce it [] g = refl
none_reduce it (one ∷ calls) g = ap (λ (b : Bool). b || list_any (λ (one : WaitingCall). is_reduce one.op) calls) (not_reduce one.op it g.0) ∙ none_reduce it calls g.1
