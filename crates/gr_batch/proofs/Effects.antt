-- The one effect of calls that fold does what they do one after another.
use Rattle.std.proofs.Common.{◌≡◌, ◌∙◌, ◌==◌, ap, refl, sym, subst, ℕ, Bool, true, false, List, [], ◌∷◌, Option, Some, None, unwrap_or, option_and_then, cond}
use Rattle.std.proofs.lemmas.Bool.{eqb-true}
use Rattle.gr_lang.specs.Effects.{after, effect_of, reduced}
use Rattle.gr_lang.specs.declared.action.Effect.{Effect}
use Rattle.gr_lang.specs.declared.action.Effect.TheVariants as effect
use Rattle.gr_lang.specs.declared.action.WaitingCall.{WaitingCall}
use Rattle.gr_lang.proofs.Reducers.{associative}
use Rattle.gr_batch.specs.Folding.{after_all, folded_after, together, with_fold}
use Rattle.gr_batch.specs.Laws.{BatchesDoTheirCalls}

-- the effect that an option has
from_some : {one other : Effect} → Some one ≡ Some other → one ≡ other
from_some {one} h = ap (λ (o : Option Effect). unwrap_or o one) h

both_folds : (own a w : ℕ) (v : Option ℕ) → after (effect.Fold own (reduced own a w)) v ≡ after (effect.Fold own w) (after (effect.Fold own a) v)
both_folds own a w None = refl
both_folds own a w (Some x) = ap (λ (n : ℕ). Some n) (sym (associative own x a w))

with_fold_is : (first : Effect) (k w : ℕ) (e : Effect) → with_fold first k w ≡ Some e → (v : Option ℕ) → after e v ≡ after (effect.Fold k w) (after first v)
with_fold_is effect.Keep k w e h v = subst (λ (x : Effect). after x v ≡ after (effect.Fold k w) v) (from_some h) refl
with_fold_is (effect.Present b) k w e h v = subst (λ (x : Effect). after x v ≡ Some (reduced k b w)) (from_some h) refl
with_fold_is effect.Absent k w e h v = subst (λ (x : Effect). after x v ≡ Some w) (from_some h) refl
with_fold_is (effect.Fold j a) k w e h v = by (j == k) refl h
  where
    by : (t : Bool) → (j == k) ≡ t → cond t (Some (effect.Fold j (reduced j a w))) None ≡ Some e → after e v ≡ after (effect.Fold k w) (after (effect.Fold j a) v)
    by false is h = cc
    by true is h =
        let at : after (effect.Fold j (reduced j a w)) v ≡ after (effect.Fold k w) (after (effect.Fold j a) v) =
        both_folds j a w v ∙ ap (λ (i : ℕ). after (effect.Fold i w) (after (effect.Fold j a) v)) (eqb-true j k is) in
        subst (λ (x : Effect). after x v ≡ after (effect.Fold k w) (after (effect.Fold j a) v)) (from_some h) at

together_is : (first second e : Effect) → together first second ≡ Some e → (v : Option ℕ) → after e v ≡ after second (after first v)
together_is first effect.Keep e h v = subst (λ (x : Effect). after x v ≡ after first v) (from_some h) refl
together_is first (effect.Present w) e h v = subst (λ (x : Effect). after x v ≡ Some w) (from_some h) refl
together_is first effect.Absent e h v = subst (λ (x : Effect). after x v ≡ None) (from_some h) refl
together_is first (effect.Fold k w) e h v = with_fold_is first k w e h v

folded_after_is : (first : Effect) (cs : List WaitingCall) (e : Effect) → folded_after first cs ≡ Some e → (v : Option ℕ) → after e v ≡ after_all cs (after first v)
folded_after_is first [] e h v = sym (ap (λ (x : Effect). after x v) (from_some h))
folded_after_is first (c ∷ cs) e h v = by (together first (effect_of c.op)) refl h (λ d. folded_after_is d cs e)
  where
    by : (o : Option Effect) → together first (effect_of c.op) ≡ o → option_and_then (λ d. folded_after d cs) o ≡ Some e
        → ((d : Effect) → folded_after d cs ≡ Some e → (v : Option ℕ) → after e v ≡ after_all cs (after d v))
        → after e v ≡ after_all cs (after (effect_of c.op) (after first v))
    by None is h rec = cc
    by (Some d) is h rec = rec d h v ∙ ap (after_all cs) (together_is first (effect_of c.op) d is v)

pub batch_law : BatchesDoTheirCalls
batch_law cs e h v = sym (folded_after_is effect.Keep cs e h v)
