-- The plan of a group does what its calls do.
use Rattle.std.proofs.Common.{◌≡◌, ℕ, zero, suc, ◌+◌, ◌-◌, ◌<◌, ◌≤◌, Bool, true, false, cond, if◌then◌else◌, nat_lt, List, [], ◌∷◌, ◌++◌, length, take, filter, slice_get, Option, Some, None, refl, sym, ap, ap₂, ◌∙◌, subst, arith, true≢false, length-append, length-take}
use Rattle.std.specs.Prelude.{⊤}
use Rattle.std.proofs.lemmas.Bool.Decides.{nat_tests}
use Rattle.std.specs.Option.{option_and_then}
use Rattle.gr_lang.specs.declared.action.Op.{Op}
use Rattle.gr_lang.specs.declared.action.Op.TheVariants as op
use Rattle.gr_lang.specs.declared.action.Reply.{Reply}
use Rattle.gr_lang.specs.declared.action.WaitingCall.{WaitingCall}
use Rattle.gr_lang.specs.Effects.{found, line_after, line_reply}
use Rattle.gr_view.specs.Places.{put}
use Rattle.gr_view.proofs.Puts.{put_at, put_other}
use Rattle.gr_vector.specs.declared.ends.Ends.{Ends}
use Rattle.gr_vector.specs.declared.kind.Kind.{Kind}
use Rattle.gr_vector.specs.declared.kind.Kind.TheVariants as kind
use Rattle.gr_vector.specs.Groups.{is_of, calls_of, group_of}
use Rattle.gr_vector.specs.Plans.{placed, taken, after, placed_by, present}
use Rattle.gr_vector.specs.Laws.{Stand, with_puts, IsRun, PlansAreTheCalls}

-- Words that stand one after another.

next_at : (at k : ℕ) → at + suc k ≡ at + 1 + k
next_at at k = omega arith

stand_take : (held : ℕ → Option ℕ) (at : ℕ) (words : List ℕ) (n : ℕ) → Stand held at words → Stand held at (take n words)
stand_take held at words zero s = tt
stand_take held at [] (suc n) s = tt
stand_take held at (word ∷ words) (suc n) s = (s.0, stand_take held (at + 1) words n s.1)

stand_push : (held : ℕ → Option ℕ) (at : ℕ) (words : List ℕ) (word : ℕ) → Stand held at words → held (at + length words) ≡ Some word → Stand held at (words ++ word ∷ [])
stand_push held at [] word s e = (ap held (here at) ∙ e, tt)
  where
    here : (n : ℕ) → n ≡ n + 0
    here n = omega arith
stand_push held at (first ∷ words) word s e = (s.0, stand_push held (at + 1) words word s.1 (ap held (sym (next_at at (length words))) ∙ e))

stand_get : (held : ℕ → Option ℕ) (at : ℕ) (words : List ℕ) (k : ℕ) → Stand held at words → k < length words → held (at + k) ≡ slice_get words k
stand_get held at [] k s l = absurd (omega (arith, l))
stand_get held at (word ∷ words) zero s l = ap held (here at) ∙ s.0
  where
    here : (n : ℕ) → n + 0 ≡ n
    here n = omega arith
stand_get held at (word ∷ words) (suc k) s l = ap held (next_at at k) ∙ stand_get held (at + 1) words k s.1 (omega (arith, l))

stand_same : (held now : ℕ → Option ℕ) (at : ℕ) (words : List ℕ) → ((p : ℕ) → p < at + length words → now p ≡ held p) → Stand held at words → Stand now at words
stand_same held now at [] h s = tt
stand_same held now at (word ∷ words) h s = (h at (omega arith) ∙ s.0, stand_same held now (at + 1) words (λ p l. h p (omega (arith, l))) s.1)

-- One call.

abbrev Puts : (ℕ → Option ℕ) → Option (ℕ × ℕ) → Type 0
Puts held None = ⊤
Puts held (Some pair) = held pair.0 ≡ Some pair.1

record Stepped (held : ℕ → Option ℕ) (o : Op) (words : List ℕ) (ends : Ends) (position : Option ℕ) : Type 0 where
  stands : Stand held ends.head (line_after o words)
  tail : ends.tail ≡ ends.head + length (line_after o words)
  reply : found (option_and_then held position) ≡ line_reply o words

is_lt : (a b : ℕ) → a < b → nat_lt a b ≡ true
is_lt a b l = grind (arith, nat_tests)

not_lt : (a b : ℕ) → b ≤ a → nat_lt a b ≡ false
not_lt a b l = grind (arith, nat_tests)

abbrev popped : Bool → Ends → Ends
popped b ends = if b then record { head = ends.head; tail = ends.tail - 1 } else ends

abbrev dequeued : Bool → Ends → Ends
dequeued b ends = if b then record { head = ends.head + 1; tail = ends.tail } else ends

pop_steps : (held : ℕ → Option ℕ) (object : ℕ) (words : List ℕ) (ends : Ends) → ends.tail ≡ ends.head + length words → Stand held ends.head words
    → Stepped held (op.Pop object) words (after (op.Pop object) ends) (taken (op.Pop object) ends)
pop_steps held object [] ends t s =
    subst (λ b. Stepped held (op.Pop object) [] (popped b ends) (if b then Some (ends.tail - 1) else None)) (sym (not_lt ends.head ends.tail (omega (arith, t))))
    (record { stands = tt; tail = t; reply = refl })
pop_steps held object (word ∷ words) ends t s =
    let last : ends.tail - 1 ≡ ends.head + (length (word ∷ words) - 1) = omega (arith, t) in
    subst (λ b. Stepped held (op.Pop object) (word ∷ words) (popped b ends) (if b then Some (ends.tail - 1) else None)) (sym (is_lt ends.head ends.tail (omega (arith, t))))
    (record {
      stands = stand_take held ends.head (word ∷ words) (length (word ∷ words) - 1) s;
      tail = omega (arith, t, length-take (length (word ∷ words) - 1) (word ∷ words));
      reply = ap found (ap held last ∙ stand_get held ends.head (word ∷ words) (length (word ∷ words) - 1) s (omega arith));
    })

dequeue_steps : (held : ℕ → Option ℕ) (object : ℕ) (words : List ℕ) (ends : Ends) → ends.tail ≡ ends.head + length words → Stand held ends.head words
    → Stepped held (op.Dequeue object) words (after (op.Dequeue object) ends) (taken (op.Dequeue object) ends)
dequeue_steps held object [] ends t s =
    subst (λ b. Stepped held (op.Dequeue object) [] (dequeued b ends) (if b then Some ends.head else None)) (sym (not_lt ends.head ends.tail (omega (arith, t))))
    (record { stands = tt; tail = t; reply = refl })
dequeue_steps held object (word ∷ words) ends t s =
    subst (λ b. Stepped held (op.Dequeue object) (word ∷ words) (dequeued b ends) (if b then Some ends.head else None)) (sym (is_lt ends.head ends.tail (omega (arith, t))))
    (record { stands = s.1; tail = omega (arith, t); reply = ap found s.0 })

steps : (held : ℕ → Option ℕ) (o : Op) (words : List ℕ) (ends : Ends) → ends.tail ≡ ends.head + length words → Stand held ends.head words → Puts held (placed o ends)
    → Stepped held o words (after o ends) (taken o ends)
steps held (op.Push object word) words ends t s p = record {
  stands = stand_push held ends.head words word s (ap held (sym t) ∙ p);
  tail = omega (arith, t, length-append words (word ∷ []));
  reply = refl;
}
steps held (op.Pop object) words ends t s p = pop_steps held object words ends t s
steps held (op.Dequeue object) words ends t s p = dequeue_steps held object words ends t s
steps held _ words ends t s p = record { stands = s; tail = t; reply = refl }

-- Calls, where what they put is held at the end.

abbrev Kept : (ℕ → Option ℕ) → List (Option (ℕ × ℕ)) → Type 0
Kept held [] = ⊤
Kept held (put ∷ puts) = Puts held put × Kept held puts

runs : (calls : List WaitingCall) (held : ℕ → Option ℕ) (words : List ℕ) (ends : Ends) → ends.tail ≡ ends.head + length words → Stand held ends.head words
    → Kept held (placed_by calls ends) → IsRun held calls words ends
runs [] held words ends t s k = record { list = s; tail = t; replies = refl }
runs (call ∷ calls) held words ends t s k =
    let one = steps held call.op words ends t s k.0 in
    let more = runs calls held (line_after call.op words) (after call.op ends) one.tail one.stands k.1 in
    record { list = more.list; tail = more.tail; replies = ap₂ (λ (reply : Reply) (others : List Reply). reply ∷ others) one.reply more.replies }

-- Words that are put one after another, from a position on.

abbrev Rising : ℕ → List (Option (ℕ × ℕ)) → Type 0
Rising at [] = ⊤
Rising at (None ∷ puts) = Rising at puts
Rising at (Some pair ∷ puts) = (pair.0 ≡ at) × Rising (at + 1) puts

below : (held : ℕ → Option ℕ) (at : ℕ) (puts : List (Option (ℕ × ℕ))) → Rising at puts → (p : ℕ) → p < at → with_puts held (present puts) p ≡ held p
below held at [] r p l = refl
below held at (None ∷ puts) r p l = below held at puts r p l
below held at (Some pair ∷ puts) r p l =
    below (put held pair.0 (Some pair.1)) (at + 1) puts r.1 p (omega (arith, l)) ∙ put_other held pair.0 (Some pair.1) p (λ q. omega (arith, q, r.0, l))

kept : (held : ℕ → Option ℕ) (at : ℕ) (puts : List (Option (ℕ × ℕ))) → Rising at puts → Kept (with_puts held (present puts)) puts
kept held at [] r = tt
kept held at (None ∷ puts) r = (tt, kept held at puts r)
kept held at (Some pair ∷ puts) r = (
  below (put held pair.0 (Some pair.1)) (at + 1) puts r.1 pair.0 (omega (arith, r.0)) ∙ put_at held pair.0 (Some pair.1) pair.0 refl,
  kept (put held pair.0 (Some pair.1)) (at + 1) puts r.1,
)

-- The kinds of a group's calls.

abbrev Each : (WaitingCall → Bool) → Bool → List WaitingCall → Type 0
Each test answer [] = ⊤
Each test answer (call ∷ calls) = (test call ≡ answer) × Each test answer calls

each_cons : (test : WaitingCall → Bool) (b : Bool) (call : WaitingCall) (calls : List WaitingCall) → test call ≡ b → Each test true calls → Each test true (cond b (call ∷ calls) calls)
each_cons test true call calls e h = (e, h)
each_cons test false call calls e h = h

each_filter : (test : WaitingCall → Bool) (calls : List WaitingCall) → Each test true (filter test calls)
each_filter test [] = tt
each_filter test (call ∷ calls) = each_cons test (test call) call (filter test calls) refl (each_filter test calls)

each_append : (test : WaitingCall → Bool) (answer : Bool) (one two : List WaitingCall) → Each test answer one → Each test answer two → Each test answer (one ++ two)
each_append test answer [] two a b = b
each_append test answer (call ∷ one) two a b = (a.0, each_append test answer one two a.1 b)

abbrev is_push : WaitingCall → Bool
is_push call = is_of kind.Push call.op

pop_not : (o : Op) → is_of kind.Pop o ≡ true → is_of kind.Push o ≡ false
pop_not (op.Pop object) e = refl
pop_not _ e = absurd (true≢false (sym e))

dequeue_not : (o : Op) → is_of kind.Dequeue o ≡ true → is_of kind.Push o ≡ false
dequeue_not (op.Dequeue object) e = refl
dequeue_not _ e = absurd (true≢false (sym e))

each_not : (which : Kind) → ((o : Op) → is_of which o ≡ true → is_of kind.Push o ≡ false) → (calls : List WaitingCall)
    → Each (λ call. is_of which call.op) true calls → Each is_push false calls
each_not which h [] a = tt
each_not which h (call ∷ calls) a = (h call.op a.0, each_not which h calls a.1)

-- What a group puts rises from the tail on.

other_placed : (o : Op) (ends : Ends) → is_of kind.Push o ≡ false → placed o ends ≡ None
other_placed (op.Push object word) ends e = absurd (true≢false e)
other_placed _ ends e = refl

others_rise : (calls : List WaitingCall) (ends : Ends) (at : ℕ) → Each is_push false calls → Rising at (placed_by calls ends)
others_rise [] ends at h = tt
others_rise (call ∷ calls) ends at h =
    subst (λ put. Rising at (put ∷ placed_by calls (after call.op ends))) (sym (other_placed call.op ends h.0)) (others_rise calls (after call.op ends) at h.1)

push_rises : (o : Op) (ends : Ends) (more : Ends → List (Option (ℕ × ℕ))) → is_of kind.Push o ≡ true → ((later : Ends) → Rising later.tail (more later))
    → Rising ends.tail (placed o ends ∷ more (after o ends))
push_rises (op.Push object word) ends more e h = (refl, h (after (op.Push object word) ends))
push_rises _ ends more e h = absurd (true≢false (sym e))

pushes_rise : (pushes others : List WaitingCall) → Each is_push true pushes → Each is_push false others → (ends : Ends) → Rising ends.tail (placed_by (pushes ++ others) ends)
pushes_rise [] others a b ends = others_rise others ends ends.tail b
pushes_rise (call ∷ pushes) others a b ends = push_rises call.op ends (placed_by (pushes ++ others)) a.0 (pushes_rise pushes others a.1 b)

group_rises : (calls : List WaitingCall) (ends : Ends) → Rising ends.tail (placed_by (group_of calls) ends)
group_rises calls ends =
    pushes_rise (calls_of kind.Push calls) (calls_of kind.Pop calls ++ calls_of kind.Dequeue calls)
    (each_filter is_push calls)
    (each_append is_push false (calls_of kind.Pop calls) (calls_of kind.Dequeue calls)
    (each_not kind.Pop pop_not (calls_of kind.Pop calls) (each_filter (λ call. is_of kind.Pop call.op) calls))
    (each_not kind.Dequeue dequeue_not (calls_of kind.Dequeue calls) (each_filter (λ call. is_of kind.Dequeue call.op) calls)))
    ends

pub plans : PlansAreTheCalls
plans calls held words head s =
    let ends : Ends = record { head = head; tail = head + length words } in
    let puts = placed_by (group_of calls) ends in
    let rise = group_rises calls ends in
    runs (group_of calls) (with_puts held (present puts)) words ends refl
    (stand_same held (with_puts held (present puts)) head words (λ p l. below held (head + length words) puts rise p l) s)
    (kept held (head + length words) puts rise)
