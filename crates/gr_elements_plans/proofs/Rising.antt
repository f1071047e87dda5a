-- What a group puts rises from the tail on, so each word is put at a position of its own.
use Rattle.std.proofs.Common.{◌≡◌, ℕ, ◌+◌, ◌<◌, ◌≤◌, ◌==◌, Bool, true, false, cond, if◌then◌else◌, List, [], ◌∷◌, ◌++◌, filter, sym, ◌∙◌, ap, refl, arith, inl, inr, true≢false, Option, Some, None}
use Rattle.std.specs.Option.{option_len}
use Rattle.gr_lang.specs.declared.action.Op.{Op}
use Rattle.gr_lang.specs.declared.action.Op.TheVariants as op
use Rattle.gr_lang.specs.declared.action.WaitingCall.{WaitingCall}
use Rattle.gr_view.specs.Places.{put}
use Rattle.gr_vector.specs.declared.ends.Ends.{Ends}
use Rattle.gr_vector.specs.declared.kind.Kind.TheVariants as kind
use Rattle.gr_vector.specs.Groups.{is_of, calls_of, group_of}
use Rattle.gr_vector.specs.Plans.{placed, after, placed_by, present}
use Rattle.gr_vector.specs.Laws.{with_puts}
use Rattle.gr_net.specs.Sums.{Each}
use Rattle.gr_net.proofs.Spreads.{put_at, put_other, Each-append, Each-map}
use Rattle.gr_elements_plans.specs.Positions.{puts_at}
use Rattle.gr_elements_plans.proofs.Standing.{if_at}

-- Words that are put one after another, from a position on.
abbrev pub Rises : ℕ → List (ℕ × ℕ) → Type 0
Rises at [] = Unit
Rises at (pair ∷ pairs) = (pair.0 ≡ at) × Rises (at + 1) pairs

-- ---- what is held then

pub below : (held : ℕ → Option ℕ) (at : ℕ) (pairs : List (ℕ × ℕ)) → Rises at pairs → (p : ℕ) → p < at → with_puts held pairs p ≡ held p
below held at [] r p l = refl
below held at (pair ∷ pairs) r p l =
    below (put held pair.0 (Some pair.1)) (at + 1) pairs r.1 p (omega (arith, l)) ∙ put_other held pair.0 (Some pair.1) p (λ q. omega (arith, q, r.0, l))

pub all_placed : (held : ℕ → Option ℕ) (at : ℕ) (pairs : List (ℕ × ℕ)) → Rises at pairs → Each (λ pair. with_puts held pairs pair.0 ≡ Some pair.1) pairs
all_placed held at [] r = tt
all_placed held at (pair ∷ pairs) r = (
  below (put held pair.0 (Some pair.1)) (at + 1) pairs r.1 pair.0 (omega (arith, r.0)) ∙ put_at held pair.0 (Some pair.1) pair.0 refl,
  all_placed (put held pair.0 (Some pair.1)) (at + 1) pairs r.1,
)

pub puts_count : (held : ℕ → Option ℕ) (at : ℕ) (pairs : List (ℕ × ℕ)) → Rises at pairs → ((q : ℕ) → at ≤ q → held q ≡ None)
    → (p : ℕ) → option_len (with_puts held pairs p) ≡ option_len (held p) + puts_at p pairs
puts_count held at [] r none p = omega arith
puts_count held at (pair ∷ pairs) r none p = omega (
  arith,
  puts_count (put held pair.0 (Some pair.1)) (at + 1) pairs r.1 (λ q l. put_other held pair.0 (Some pair.1) q (λ e. omega (arith, e, r.0, l)) ∙ none q (omega (arith, l))) p,
  one,
)
  where
    one : option_len (put held pair.0 (Some pair.1) p) ≡ option_len (held p) + (if pair.0 == p then 1 else 0)
    one = elim (if_at pair.0 p) [
      | inl q ↦ omega (arith, q.0, ap option_len (put_at held pair.0 (Some pair.1) p (sym q.1)), ap option_len (none p (omega (arith, r.0, q.1))))
      | inr q ↦ omega (arith, q.0, ap option_len (put_other held pair.0 (Some pair.1) p (λ e. q.1 (sym e))))
    ]

-- ---- the kinds of a group's calls

abbrev AreAll : (WaitingCall → Bool) → Bool → List WaitingCall → Type 0
AreAll test answer calls = Each (λ call. test call ≡ answer) calls

all_filter : (test : WaitingCall → Bool) (calls : List WaitingCall) → AreAll test true (filter test calls)
all_filter test [] = tt
all_filter test (call ∷ calls) = cons (test call) refl (all_filter test calls)
  where
    cons : (b : Bool) → test call ≡ b → AreAll test true (filter test calls) → AreAll test true (cond b (call ∷ filter test calls) (filter test calls))
    cons true e more = (e, more)
    cons false e more = more

abbrev is_push : WaitingCall → Bool
is_push call = is_of kind.Push call.op

pop_not : (o : Op) → is_of kind.Pop o ≡ true → is_of kind.Push o ≡ false
pop_not (op.Pop object) e = refl
pop_not _ e = absurd (true≢false (sym e))

dequeue_not : (o : Op) → is_of kind.Dequeue o ≡ true → is_of kind.Push o ≡ false
dequeue_not (op.Dequeue object) e = refl
dequeue_not _ e = absurd (true≢false (sym e))

-- ---- what a group puts

others_rise : (calls : List WaitingCall) (ends : Ends) (at : ℕ) → AreAll is_push false calls → Rises at (present (placed_by calls ends))
others_rise [] ends at h = tt
others_rise (call ∷ calls) ends at h = one call.op h.0 (after call.op ends) (others_rise calls (after call.op ends) at h.1)
  where
    one : (o : Op) → is_of kind.Push o ≡ false → (later : Ends) → Rises at (present (placed_by calls later)) → Rises at (present (placed o ends ∷ placed_by calls later))
    one (op.Push object word) e later r = absurd (true≢false e)
    one _ e later r = r

push_rises : (o : Op) (ends : Ends) (more : Ends → List (Option (ℕ × ℕ))) → is_of kind.Push o ≡ true → ((later : Ends) → Rises later.tail (present (more later)))
    → Rises ends.tail (present (placed o ends ∷ more (after o ends)))
push_rises (op.Push object word) ends more e h = (refl, h (after (op.Push object word) ends))
push_rises _ ends more e h = absurd (true≢false (sym e))

pushes_rise : (pushes others : List WaitingCall) → AreAll is_push true pushes → AreAll is_push false others → (ends : Ends) → Rises ends.tail (present (placed_by (pushes ++ others) ends))
pushes_rise [] others a b ends = others_rise others ends ends.tail b
pushes_rise (call ∷ pushes) others a b ends = push_rises call.op ends (placed_by (pushes ++ others)) a.0 (pushes_rise pushes others a.1 b)

pub group_rises : (calls : List WaitingCall) (ends : Ends) → Rises ends.tail (present (placed_by (group_of calls) ends))
group_rises calls ends =
    pushes_rise (calls_of kind.Push calls) (calls_of kind.Pop calls ++ calls_of kind.Dequeue calls)
    (all_filter is_push calls)
    (Each-append (λ (call : WaitingCall). is_push call ≡ false) (calls_of kind.Pop calls) (calls_of kind.Dequeue calls)
    (Each-map (λ (call : WaitingCall). is_of kind.Pop call.op ≡ true) (λ (call : WaitingCall). is_push call ≡ false) (λ call. pop_not call.op) (calls_of kind.Pop calls) (all_filter (λ call. is_of kind.Pop call.op) calls))
    (Each-map (λ (call : WaitingCall). is_of kind.Dequeue call.op ≡ true) (λ (call : WaitingCall). is_push call ≡ false) (λ call. dequeue_not call.op) (calls_of kind.Dequeue calls) (all_filter (λ call. is_of kind.Dequeue call.op) calls)))
    ends
