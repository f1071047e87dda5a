-- What a plan does by positions.
use Rattle.std.proofs.Common.{◌≡◌, ℕ, zero, suc, ◌+◌, ◌-◌, ◌<◌, ◌≤◌, ◌==◌, Bool, true, false, if◌then◌else◌, nat_lt, List, [], ◌∷◌, length, take, sym, ◌∙◌, ap, ap₂, subst, refl, arith, Option, Some, None, length-append, length-take}
use Rattle.std.specs.Option.{option_len}
use Rattle.std.proofs.lemmas.Bool.Decides.{nat_tests}
use Rattle.gr_lang.specs.declared.action.Op.{Op}
use Rattle.gr_lang.specs.declared.action.Op.TheVariants as op
use Rattle.gr_lang.specs.declared.action.Reply.{Reply}
use Rattle.gr_lang.specs.declared.action.WaitingCall.{WaitingCall}
use Rattle.gr_lang.specs.Effects.{found, line_after}
use Rattle.gr_vector.specs.declared.ends.Ends.{Ends}
use Rattle.gr_vector.specs.Groups.{group_of}
use Rattle.gr_vector.specs.Plans.{placed, taken, after, placed_by, taken_by, ends_after, present}
use Rattle.gr_vector.specs.Laws.{words_after, replies_from, IsRun}
use Rattle.gr_vector.proofs.Runs.{plans}
use Rattle.gr_net.specs.Sums.{Each}
use Rattle.gr_elements_plans.specs.Positions.{standing, puts_at, gets_at, held_by}
use Rattle.gr_elements_plans.specs.Laws.{PlansTell}
use Rattle.gr_elements_plans.proofs.Standing.{spans, spans_last, standing_spans, standing_past, standing_before, stands_so, stand_tells}
use Rattle.gr_elements_plans.proofs.Rising.{Rises, below, all_placed, puts_count, group_rises}

-- ---- one call: words that stand, and those that are put and taken

abbrev put_one : ℕ → Option (ℕ × ℕ) → ℕ
put_one p None = 0
put_one p (Some pair) = if pair.0 == p then 1 else 0

abbrev take_one : ℕ → Option ℕ → ℕ
take_one p None = 0
take_one p (Some q) = if q == p then 1 else 0

record Balanced (o : Op) (words : List ℕ) (ends later : Ends) (put : Option (ℕ × ℕ)) (took : Option ℕ) (p : ℕ) : Type 0 where
  tail : later.tail ≡ later.head + length (line_after o words)
  sides : spans ends.head (length words) p + put_one p put ≡ spans later.head (length (line_after o words)) p + take_one p took

is_lt : (a b : ℕ) → a < b → nat_lt a b ≡ true
is_lt a b l = grind (arith, nat_tests)

not_lt : (a b : ℕ) → b ≤ a → nat_lt a b ≡ false
not_lt a b l = grind (arith, nat_tests)

abbrev popped : Bool → Ends → Ends
popped b ends = if b then record { head = ends.head; tail = ends.tail - 1 } else ends

abbrev dequeued : Bool → Ends → Ends
dequeued b ends = if b then record { head = ends.head + 1; tail = ends.tail } else ends

at_tail : (p a b : ℕ) → a ≡ b → (if p == a then suc zero else zero) ≡ (if b == p then 1 else 0)
at_tail p a b e = grind (arith, nat_tests)

push_balances : (object word : ℕ) (words : List ℕ) (ends : Ends) (p : ℕ) → ends.tail ≡ ends.head + length words
    → Balanced (op.Push object word) words ends (after (op.Push object word) ends) (placed (op.Push object word) ends) (taken (op.Push object word) ends) p
push_balances object word words ends p t = record {
  tail = omega (arith, t, length-append words (word ∷ []));
  sides = omega (arith, ap (λ (n : ℕ). spans ends.head n p) (length-append words (word ∷ []) ∙ one (length words)), spans_last ends.head (length words) p, at_tail p (ends.head + length words) ends.tail (sym t));
}
  where
    one : (n : ℕ) → n + 1 ≡ suc n
    one n = omega arith

pop_balances : (object : ℕ) (words : List ℕ) (ends : Ends) (p : ℕ) → ends.tail ≡ ends.head + length words
    → Balanced (op.Pop object) words ends (after (op.Pop object) ends) (placed (op.Pop object) ends) (taken (op.Pop object) ends) p
pop_balances object [] ends p t =
    subst (λ b. Balanced (op.Pop object) [] ends (popped b ends) None (if b then Some (ends.tail - 1) else None) p) (sym (not_lt ends.head ends.tail (omega (arith, t))))
    (record { tail = t; sides = refl })
pop_balances object (word ∷ words) ends p t =
    subst (λ b. Balanced (op.Pop object) (word ∷ words) ends (popped b ends) None (if b then Some (ends.tail - 1) else None) p) (sym (is_lt ends.head ends.tail (omega (arith, t))))
    (record {
      tail = omega (arith, t, shorter);
      sides = omega (arith, ap (λ (n : ℕ). spans ends.head n p) shorter, spans_last ends.head (length words) p, at_tail p (ends.head + length words) (ends.tail - 1) (omega (arith, t)));
    })
  where
    shorter : length (take (length (word ∷ words) - 1) (word ∷ words)) ≡ length words
    shorter = omega (arith, length-take (length (word ∷ words) - 1) (word ∷ words))

dequeue_balances : (object : ℕ) (words : List ℕ) (ends : Ends) (p : ℕ) → ends.tail ≡ ends.head + length words
    → Balanced (op.Dequeue object) words ends (after (op.Dequeue object) ends) (placed (op.Dequeue object) ends) (taken (op.Dequeue object) ends) p
dequeue_balances object [] ends p t =
    subst (λ b. Balanced (op.Dequeue object) [] ends (dequeued b ends) None (if b then Some ends.head else None) p) (sym (not_lt ends.head ends.tail (omega (arith, t))))
    (record { tail = t; sides = refl })
dequeue_balances object (word ∷ words) ends p t =
    subst (λ b. Balanced (op.Dequeue object) (word ∷ words) ends (dequeued b ends) None (if b then Some ends.head else None) p) (sym (is_lt ends.head ends.tail (omega (arith, t))))
    (record { tail = omega (arith, t); sides = omega (arith, at_tail p ends.head ends.head refl) })

balances : (o : Op) (words : List ℕ) (ends : Ends) (p : ℕ) → ends.tail ≡ ends.head + length words → Balanced o words ends (after o ends) (placed o ends) (taken o ends) p
balances (op.Push object word) words ends p t = push_balances object word words ends p t
balances (op.Pop object) words ends p t = pop_balances object words ends p t
balances (op.Dequeue object) words ends p t = dequeue_balances object words ends p t
balances _ words ends p t = record { tail = t; sides = refl }

-- ---- calls, one after another

puts_more : (p : ℕ) (put : Option (ℕ × ℕ)) (puts : List (Option (ℕ × ℕ))) → puts_at p (present (put ∷ puts)) ≡ put_one p put + puts_at p (present puts)
puts_more p None puts = omega arith
puts_more p (Some pair) puts = refl

gets_more : (p : ℕ) (got : Option ℕ) (gets : List (Option ℕ)) → gets_at p (present (got ∷ gets)) ≡ take_one p got + gets_at p (present gets)
gets_more p None gets = omega arith
gets_more p (Some q) gets = refl

all_balance : (calls : List WaitingCall) (words : List ℕ) (ends : Ends) (p : ℕ) → ends.tail ≡ ends.head + length words
    → spans ends.head (length words) p + puts_at p (present (placed_by calls ends))
    ≡ spans (ends_after calls ends).head (length (words_after calls words)) p + gets_at p (present (taken_by calls ends))
all_balance [] words ends p t = refl
all_balance (call ∷ calls) words ends p t =
    let one = balances call.op words ends p t in
    omega (
      arith,
      one.sides,
      all_balance calls (line_after call.op words) (after call.op ends) p one.tail,
      puts_more p (placed call.op ends) (placed_by calls (after call.op ends)),
      gets_more p (taken call.op ends) (taken_by calls (after call.op ends)),
    )

-- ---- replies

same_replies : (answers held : ℕ → Option ℕ) (positions : List (Option ℕ)) → Each (λ q. answers q ≡ held q) (present positions) → replies_from answers positions ≡ replies_from held positions
same_replies answers held [] f = refl
same_replies answers held (None ∷ positions) f = ap (λ (more : List Reply). found None ∷ more) (same_replies answers held positions f)
same_replies answers held (Some q ∷ positions) f = ap₂ (λ (o : Option ℕ) (more : List Reply). found o ∷ more) f.0 (same_replies answers held positions f.1)

each_is_got : (F : ℕ → ℕ) (positions : List ℕ) → ((p : ℕ) → gets_at p positions ≤ F p) → Each (λ q. 0 < F q) positions
each_is_got F [] f = tt
each_is_got F (q ∷ positions) f = (omega (arith, f q, at_tail q q q refl, self q), each_is_got F positions (λ p. omega (arith, f p)))
  where
    self : (q : ℕ) → (if q == q then 1 else 0) ≡ suc zero
    self q = grind (arith, nat_tests)

each_with : {X : Type 0} (P Q : X → Type 0) → ((x : X) → P x → Q x) → (xs : List X) → Each P xs → Each Q xs
each_with P Q f [] e = tt
each_with P Q f (x ∷ xs) e = (f x e.0, each_with P Q f xs e.1)

-- ---- the plan of a group

pub plans_tell : PlansTell
plans_tell calls head words =
    let group = group_of calls in
    let ends : Ends = record { head = head; tail = head + length words } in
    let pairs = present (placed_by group ends) in
    let rise : Rises (head + length words) pairs = group_rises calls ends in
    let held = held_by group head words in
    let run : IsRun held group words ends = plans calls (standing head words) words head (stands_so head words (standing head words) (λ p l. refl)) in
    let puts : (p : ℕ) → option_len (held p) ≡ option_len (standing head words p) + puts_at p pairs
    = puts_count (standing head words) (head + length words) pairs rise (λ q l. standing_past head words q l) in
    record {
      puts = puts;
      gets = λ p. omega (
        arith,
        puts p,
        standing_spans head words p,
        all_balance group words ends p refl,
        standing_spans (ends_after group ends).head (words_after group words) p,
      );
      placed = all_placed (standing head words) (head + length words) pairs rise;
      kept = λ p x e. below (standing head words) (head + length words) pairs rise p (standing_before head words p x e) ∙ e;
      stays = stand_tells (ends_after group ends).head (words_after group words) held run.list;
      tail = run.tail;
      answers = λ answers f. same_replies answers held (taken_by group ends)
          (each_with (λ (q : ℕ). 0 < gets_at q (present (taken_by group ends))) (λ q. answers q ≡ held q) f (present (taken_by group ends))
          (each_is_got (λ q. gets_at q (present (taken_by group ends))) (present (taken_by group ends)) (λ p. omega arith)))
          ∙ run.replies;
    }
