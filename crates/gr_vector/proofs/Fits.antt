-- The positions of calls fit a word where the tail and all pushes do.
use Rattle.std.proofs.Common.{◌≡◌, ℕ, ◌+◌, ◌-◌, ◌<◌, ◌≤◌, ◌^◌, Bool, true, false, cond, if◌then◌else◌, nat_lt, List, [], ◌∷◌, ◌++◌, length, drop, get_or, Option, Some, None, append_assoc, arith, refl, subst, sym, ap, ◌∙◌}
use Rattle.std.proofs.lemmas.List.{drop_more}
use Rattle.gr_lang.specs.declared.action.Op.{Op}
use Rattle.gr_lang.specs.declared.action.Op.TheVariants as op
use Rattle.gr_lang.specs.declared.action.WaitingCall.{WaitingCall}
use Rattle.gr_vector.specs.declared.ends.Ends.{Ends}
use Rattle.gr_vector.specs.declared.kind.Kind.TheVariants as kind
use Rattle.gr_vector.specs.Groups.{is_of, calls_of}
use Rattle.gr_vector.specs.Plans.{after, placed, taken, placed_by, taken_by, ends_after, present}
use Rattle.gr_vector.specs.PlanWords.{Fit}

popped_tail : (b : Bool) (ends : Ends) → (if b then record { head = ends.head; tail = ends.tail - 1 } else ends).tail ≤ ends.tail + 0
popped_tail true ends = omega arith
popped_tail false ends = omega arith

dequeued_tail : (b : Bool) (ends : Ends) → (if b then record { head = ends.head + 1; tail = ends.tail } else ends).tail ≤ ends.tail + 0
dequeued_tail true ends = omega arith
dequeued_tail false ends = omega arith

tail_after : (o : Op) (ends : Ends) → (after o ends).tail ≤ ends.tail + cond (is_of kind.Push o) 1 0
tail_after (op.Push object word) ends = omega arith
tail_after (op.Pop object) ends = popped_tail (nat_lt ends.head ends.tail) ends
tail_after (op.Dequeue object) ends = dequeued_tail (nat_lt ends.head ends.tail) ends
tail_after _ ends = omega arith

cons : (b : Bool) (call : WaitingCall) (calls : List WaitingCall) → length (cond b (call ∷ calls) calls) ≡ cond b 1 0 + length calls
cons true call calls = omega arith
cons false call calls = omega arith

pub all_fit : (calls : List WaitingCall) (ends : Ends) → ends.tail + length (calls_of kind.Push calls) < 2 ^ 64 → Fit calls ends
unfolding Fit
all_fit [] ends l = tt
all_fit (call ∷ calls) ends l =
    let more = cons (is_of kind.Push call.op) call (calls_of kind.Push calls) in
    (omega (arith, l, more, tail_after call.op ends), all_fit calls (after call.op ends) (omega (arith, l, more, tail_after call.op ends)))

-- One more call of a loop over calls.

present_cons : {X : Type 0} (first : Option X) (more : List (Option X)) → present (first ∷ []) ++ present more ≡ present (first ∷ more)
present_cons None more = refl
present_cons (Some x) more = refl

module _ (calls : List WaitingCall) (at : ℕ) (default : WaitingCall) (inside : at < length calls) (ends : Ends) where
  abbrev here : Op
  here = (get_or calls at default).op

  abbrev rest : List WaitingCall
  rest = drop (at + 1) calls

  next : Fit (drop at calls) ends → Fit (get_or calls at default ∷ drop (at + 1) calls) ends
  next h = subst (λ (left : List WaitingCall). Fit left ends) (drop_more calls at default inside) h

  pub fits_here : Fit (drop at calls) ends → (after (get_or calls at default).op ends).tail < 2 ^ 64
  unfolding Fit
  fits_here h = (next h).0

  pub fits_rest : (later : Ends) → later ≡ after (get_or calls at default).op ends → Fit (drop at calls) ends → Fit (drop (at + 1) calls) later
  unfolding Fit
  fits_rest later e h = subst (λ (now : Ends). Fit (drop (at + 1) calls) now) (sym e) (next h).1

  pub ends_more : (later whole : Ends) → later ≡ after (get_or calls at default).op ends → ends_after (drop at calls) ends ≡ whole → ends_after (drop (at + 1) calls) later ≡ whole
  ends_more later whole e h =
      ap (λ (now : Ends). ends_after (drop (at + 1) calls) now) e ∙ ap (λ (left : List WaitingCall). ends_after left ends) (sym (drop_more calls at default inside)) ∙ h

  pub puts_more : (later : Ends) (before now whole : List (ℕ × ℕ)) → later ≡ after (get_or calls at default).op ends
      → now ≡ before ++ present (placed (get_or calls at default).op ends ∷ []) → before ++ present (placed_by (drop at calls) ends) ≡ whole
      → now ++ present (placed_by (drop (at + 1) calls) later) ≡ whole
  puts_more later before now whole e f h =
      ap (λ (pairs : List (ℕ × ℕ)). pairs ++ present (placed_by rest later)) f
      ∙ ap (λ (there : Ends). (before ++ present (placed here ends ∷ [])) ++ present (placed_by rest there)) e
      ∙ append_assoc before (present (placed here ends ∷ [])) (present (placed_by rest (after here ends)))
      ∙ ap (λ (pairs : List (ℕ × ℕ)). before ++ pairs) (present_cons (placed here ends) (placed_by rest (after here ends)))
      ∙ ap (λ (left : List WaitingCall). before ++ present (placed_by left ends)) (sym (drop_more calls at default inside))
      ∙ h

  pub gets_more : (later : Ends) (before now whole : List ℕ) → later ≡ after (get_or calls at default).op ends
      → now ≡ before ++ present (taken (get_or calls at default).op ends ∷ []) → before ++ present (taken_by (drop at calls) ends) ≡ whole
      → now ++ present (taken_by (drop (at + 1) calls) later) ≡ whole
  gets_more later before now whole e f h =
      ap (λ (words : List ℕ). words ++ present (taken_by rest later)) f
      ∙ ap (λ (there : Ends). (before ++ present (taken here ends ∷ [])) ++ present (taken_by rest there)) e
      ∙ append_assoc before (present (taken here ends ∷ [])) (present (taken_by rest (after here ends)))
      ∙ ap (λ (words : List ℕ). before ++ words) (present_cons (taken here ends) (taken_by rest (after here ends)))
      ∙ ap (λ (left : List WaitingCall). before ++ present (taken_by left ends)) (sym (drop_more calls at default inside))
      ∙ h
