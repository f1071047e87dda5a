-- Each held call is in the batch of its key or stays.
use Rattle.std.proofs.Common.{◌≡◌, ◌∙◌, ◌==◌, ap, refl, sym, ℕ, Bool, true, false, not, List, [], ◌∷◌, ◌++◌, Option, Some, None, is_some, cond, append-nil}
use Rattle.std.proofs.lemmas.Bool.{eqb-true}
use Rattle.std.proofs.lemmas.List.{append_assoc}
use Rattle.gr_lang.specs.Effects.{effect_of}
use Rattle.gr_lang.specs.declared.action.Effect.{Effect}
use Rattle.gr_lang.specs.declared.action.Effect.TheVariants as effect
use Rattle.gr_lang.specs.declared.action.WaitingCall.{WaitingCall}
use Rattle.gr_batch.specs.Folding.{folded, together}
use Rattle.gr_batch.specs.Batches.{Group, calls_at, grown, grown_all, grown_by, no_group, one_if, rest_after}
use Rattle.gr_batch.specs.Laws.{EachCallIsKept}
use Rattle.gr_batch.specs.declared.combiner.Held.{Held}
use Rattle.gr_batch.proofs.Groups.{after_call, calls_push, folded_push, shut_all}

-- the calls of one key that stay, after those before
abbrev left_after : List WaitingCall → List WaitingCall → List WaitingCall
left_after before [] = []
left_after before (c ∷ cs) = cond (is_some (folded (before ++ c ∷ []))) (left_after (before ++ c ∷ []) cs) (c ∷ left_after (before ++ c ∷ []) cs)

left_all : (before cs : List WaitingCall) → folded before ≡ None → left_after before cs ≡ cs
left_all before [] none = refl
left_all before (c ∷ cs) none =
    let further : folded (before ++ c ∷ []) ≡ None = folded_push effect.Keep before c ∙ ap (λ o. after_call o c) none in
    ap (λ (o : Option Effect). cond (is_some o) (left_after (before ++ c ∷ []) cs) (c ∷ left_after (before ++ c ∷ []) cs)) further
    ∙ ap (λ l. c ∷ l) (left_all (before ++ c ∷ []) cs further)

group_and_left : (g : Group) (cs : List WaitingCall) → g.is_open ≡ true → folded g.calls ≡ Some g.effect → g.calls ++ cs ≡ (grown_all g cs).calls ++ left_after g.calls cs
group_and_left g [] open_is folds = refl
group_and_left g (c ∷ cs) open_is folds = by (together g.effect (effect_of c.op)) refl (λ x. group_and_left x cs)
  where
    opened : grown g c ≡ grown_by g c (together g.effect (effect_of c.op))
    opened = ap (λ (b : Bool). cond b (grown_by g c (together g.effect (effect_of c.op))) g) open_is

    more_folds : folded (g.calls ++ c ∷ []) ≡ together g.effect (effect_of c.op)
    more_folds = folded_push effect.Keep g.calls c ∙ ap (λ o. after_call o c) folds

    by : (o : Option Effect) → together g.effect (effect_of c.op) ≡ o
        → ((x : Group) → x.is_open ≡ true → folded x.calls ≡ Some x.effect → x.calls ++ cs ≡ (grown_all x cs).calls ++ left_after x.calls cs)
        → g.calls ++ c ∷ cs ≡ (grown_all (grown g c) cs).calls
        ++ cond (is_some (folded (g.calls ++ c ∷ []))) (left_after (g.calls ++ c ∷ []) cs) (c ∷ left_after (g.calls ++ c ∷ []) cs)
    by (Some e) is rec =
        let now : grown g c ≡ grown_by g c (Some e) = opened ∙ ap (grown_by g c) is in
        sym (append_assoc g.calls (c ∷ []) cs) ∙ rec (grown_by g c (Some e)) refl (more_folds ∙ is)
        ∙ ap (λ (x : Group). (grown_all x cs).calls ++ left_after (g.calls ++ c ∷ []) cs) (sym now)
        ∙ ap (λ (o : Option Effect). (grown_all (grown g c) cs).calls ++ cond (is_some o) (left_after (g.calls ++ c ∷ []) cs) (c ∷ left_after (g.calls ++ c ∷ []) cs)) (sym (more_folds ∙ is))
    by None is rec =
        let now : grown_all (grown g c) cs ≡ grown_by g c None =
        ap (λ (x : Group). grown_all x cs) (opened ∙ ap (grown_by g c) is) ∙ shut_all (grown_by g c None) cs refl in
        ap (λ l. g.calls ++ c ∷ l) (sym (left_all (g.calls ++ c ∷ []) cs (more_folds ∙ is)))
        ∙ ap (λ (x : Group). x.calls ++ c ∷ left_after (g.calls ++ c ∷ []) cs) (sym now)
        ∙ ap (λ (o : Option Effect). (grown_all (grown g c) cs).calls ++ cond (is_some o) (left_after (g.calls ++ c ∷ []) cs) (c ∷ left_after (g.calls ++ c ∷ []) cs)) (sym (more_folds ∙ is))

turned : (c : WaitingCall) (s : Bool) (l : List WaitingCall) → cond (not s) (c ∷ l) l ≡ cond s l (c ∷ l)
turned c true l = refl
turned c false l = refl

left_at : (k : ℕ) (before held : List Held) → calls_at k (rest_after before held) ≡ left_after (calls_at k before) (calls_at k held)
left_at k before [] = refl
left_at k before (h ∷ held) = by (h.key == k) refl (is_some (folded (calls_at h.key before ++ h.call ∷ []))) refl (left_at k (before ++ h ∷ []) held)
  where
    pushed : (t : Bool) → (h.key == k) ≡ t → calls_at k (before ++ h ∷ []) ≡ calls_at k before ++ cond t (h.call ∷ []) []
    pushed t is = calls_push k before h ∙ ap (λ (b : Bool). calls_at k before ++ cond b (h.call ∷ []) []) is

    one : (s t : Bool) (l : List Held) → (h.key == k) ≡ t → calls_at k (one_if s h ++ l) ≡ cond t (cond s (h.call ∷ calls_at k l) (calls_at k l)) (calls_at k l)
    one true t l is = ap (λ (b : Bool). cond b (h.call ∷ calls_at k l) (calls_at k l)) is
    one false true l is = refl
    one false false l is = refl

    by : (t : Bool) → (h.key == k) ≡ t → (s : Bool) → is_some (folded (calls_at h.key before ++ h.call ∷ [])) ≡ s
        → calls_at k (rest_after (before ++ h ∷ []) held) ≡ left_after (calls_at k (before ++ h ∷ [])) (calls_at k held)
        → calls_at k (one_if (not (is_some (folded (calls_at h.key before ++ h.call ∷ [])))) h ++ rest_after (before ++ h ∷ []) held)
        ≡ left_after (calls_at k before) (cond t (h.call ∷ calls_at k held) (calls_at k held))
    by false is s some rec =
        one (not (is_some (folded (calls_at h.key before ++ h.call ∷ [])))) false (rest_after (before ++ h ∷ []) held) is
        ∙ rec ∙ ap (λ l. left_after l (calls_at k held)) (pushed false is ∙ append-nil (calls_at k before))
    by true is s some rec =
        let here : is_some (folded (calls_at k before ++ h.call ∷ [])) ≡ s = ap (λ (i : ℕ). is_some (folded (calls_at i before ++ h.call ∷ []))) (sym (eqb-true h.key k is)) ∙ some in
        let left : List WaitingCall = left_after (calls_at k before ++ h.call ∷ []) (calls_at k held) in
        one (not (is_some (folded (calls_at h.key before ++ h.call ∷ [])))) true (rest_after (before ++ h ∷ []) held) is
        ∙ ap (λ l. cond (not (is_some (folded (calls_at h.key before ++ h.call ∷ [])))) (h.call ∷ l) l) (rec ∙ ap (λ l. left_after l (calls_at k held)) (pushed true is))
        ∙ ap (λ (b : Bool). cond (not b) (h.call ∷ left) left) some ∙ turned h.call s left ∙ ap (λ (b : Bool). cond b left (h.call ∷ left)) (sym here)

pub each_kept : EachCallIsKept
each_kept k held = group_and_left no_group (calls_at k held) refl refl ∙ ap (λ l. (grown_all no_group (calls_at k held)).calls ++ l) (sym (left_at k [] held))
