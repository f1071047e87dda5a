-- Outcomes on vectors: what they make of the end of a vector's words, with the pushes that wait.
use Rattle.std.proofs.Common.{◌≡◌, ◌≢◌, ◌≤◌, ℕ, ◌+◌, ◌==◌, List, [], ◌∷◌, ◌++◌, length, refl, sym, ap, subst, arith}
use Rattle.std.specs.Prelude.{Bool, true, false, Option, Some, None, if◌then◌else◌, nat_lt, drop}
use Rattle.std.specs.List.{filter}
use Rattle.std.proofs.lemmas.Bool.{cond_both, eqb-true}
use Rattle.std.proofs.lemmas.Bool.Decides.{nat_tests}
use Rattle.gr_lang.specs.declared.action.Op.{Op}
use Rattle.gr_lang.specs.declared.action.Op.TheVariants as op
use Rattle.gr_lang.specs.declared.action.WaitingCall.{WaitingCall}
use Rattle.gr_view.specs.Places.{put}
use Rattle.gr_msg.specs.declared.message.Msg.{Msg}
use Rattle.gr_msg.specs.declared.message.Msg.TheVariants as msg
use Rattle.gr_vector.specs.declared.ends.Ends.{Ends}
use Rattle.gr_vector.specs.declared.kind.Kind.TheVariants as kind
use Rattle.gr_vector.specs.declared.master.Granted.{Granted}
use Rattle.gr_vector.specs.Groups.{is_of, calls_of, group_of}
use Rattle.gr_vector.specs.Plans.{after, ends_after}
use Rattle.gr_vector.specs.Turns.{Turns, is_any, turn_of}
use Rattle.gr_net.specs.Sums.{weigh}
use Rattle.gr_net.proofs.Spreads.{put_each, weigh-append}
use Rattle.gr_machine.specs.Machines.{Machine}
use Rattle.gr_machine.specs.States.{Vector, Vectors, Body}
use Rattle.gr_machine.specs.Outcomes.{Send, Outcome}
use Rattle.gr_machine.specs.TurnServes.{with_turns, grants, with_vector, put_sends, get_sends}
use Rattle.gr_machine.proofs.ActionFacts.{choice}
use Rattle.gr_stands.specs.Worlds.{of_sends}
use Rattle.gr_bounds_tails.specs.Tails.{is_push, pushes, master_tail, line_tail, tail_held, if_line, tails_told}
use Rattle.gr_bounds_tails.proofs.Quiet.{IsLight, AreLight, Quiet}

-- ---- pushes

push_one : (call : Op) → is_push call ≤ 1
push_one (op.Push object word) = omega arith
push_one _ = omega arith

pub joined_pushes : (calls : List WaitingCall) (call : WaitingCall) → pushes (calls ++ call ∷ []) ≤ pushes calls + 1
joined_pushes calls call = omega (arith, weigh-append (λ (c : WaitingCall). is_push c.op) calls (call ∷ []), push_one call.op)

pop_is_none : (call : Op) → is_of kind.Pop call ≡ true → is_push call ≡ 0
pop_is_none (op.Push object word) e = absurd (cc)
pop_is_none _ e = refl

dequeue_is_none : (call : Op) → is_of kind.Dequeue call ≡ true → is_push call ≡ 0
dequeue_is_none (op.Push object word) e = absurd (cc)
dequeue_is_none _ e = refl

push_is_one : (call : Op) → is_of kind.Push call ≡ true → is_push call ≡ 1
push_is_one (op.Push object word) e = refl
push_is_one _ e = absurd (cc)

filtered_none : {X : Type 0} (h : X → ℕ) (test : X → Bool) → ((x : X) → test x ≡ true → h x ≡ 0) → (xs : List X) → weigh h (filter test xs) ≡ 0
filtered_none h test none [] = refl
filtered_none h test none (x ∷ xs) = both (test x) refl (filtered_none h test none xs)
  where
    both : (b : Bool) → test x ≡ b → weigh h (filter test xs) ≡ 0 → weigh h (if b then x ∷ filter test xs else filter test xs) ≡ 0
    both true e r = omega (arith, none x e, r)
    both false e r = r

filtered_less : {X : Type 0} (h : X → ℕ) (test : X → Bool) (xs : List X) → weigh h (filter test xs) ≤ weigh h xs
filtered_less h test [] = omega arith
filtered_less h test (x ∷ xs) = both (test x) (filtered_less h test xs)
  where
    both : (b : Bool) → weigh h (filter test xs) ≤ weigh h xs → weigh h (if b then x ∷ filter test xs else filter test xs) ≤ h x + weigh h xs
    both true r = omega (arith, r)
    both false r = omega (arith, r)

filtered_ones : {X : Type 0} (h : X → ℕ) (test : X → Bool) → ((x : X) → test x ≡ true → h x ≡ 1) → (xs : List X) → length (filter test xs) ≤ weigh h xs
filtered_ones h test one [] = omega arith
filtered_ones h test one (x ∷ xs) = both (test x) refl (filtered_ones h test one xs)
  where
    both : (b : Bool) → test x ≡ b → length (filter test xs) ≤ weigh h xs → length (if b then x ∷ filter test xs else filter test xs) ≤ h x + weigh h xs
    both true e r = omega (arith, one x e, r)
    both false e r = omega (arith, r)

pub push_length : (calls : List WaitingCall) → length (calls_of kind.Push calls) ≤ pushes calls
push_length calls = filtered_ones (λ (c : WaitingCall). is_push c.op) (λ (c : WaitingCall). is_of kind.Push c.op) (λ c e. push_is_one c.op e) calls

pub group_pushes : (calls : List WaitingCall) → pushes (group_of calls) ≤ pushes calls
group_pushes calls = omega (
  arith,
  weigh-append (λ (c : WaitingCall). is_push c.op) (calls_of kind.Push calls) (calls_of kind.Pop calls ++ calls_of kind.Dequeue calls),
  weigh-append (λ (c : WaitingCall). is_push c.op) (calls_of kind.Pop calls) (calls_of kind.Dequeue calls),
  filtered_less (λ (c : WaitingCall). is_push c.op) (λ (c : WaitingCall). is_of kind.Push c.op) calls,
  filtered_none (λ (c : WaitingCall). is_push c.op) (λ (c : WaitingCall). is_of kind.Pop c.op) (λ c e. pop_is_none c.op e) calls,
  filtered_none (λ (c : WaitingCall). is_push c.op) (λ (c : WaitingCall). is_of kind.Dequeue c.op) (λ c e. dequeue_is_none c.op e) calls,
)

-- ---- where the words end after calls

tail_after : (call : Op) (ends : Ends) → (after call ends).tail ≤ ends.tail + is_push call
tail_after (op.Push object word) ends = omega arith
tail_after (op.Pop object) ends = choice (λ (e : Ends). e.tail ≤ ends.tail + 0) (nat_lt ends.head ends.tail) _ _ (omega arith) (omega arith)
tail_after (op.Dequeue object) ends = choice (λ (e : Ends). e.tail ≤ ends.tail + 0) (nat_lt ends.head ends.tail) _ _ (omega arith) (omega arith)
tail_after _ ends = omega arith

pub tail_after_all : (calls : List WaitingCall) (ends : Ends) → (ends_after calls ends).tail ≤ ends.tail + pushes calls
tail_after_all [] ends = omega arith
tail_after_all (call ∷ calls) ends = omega (arith, tail_after_all calls (after call.op ends), tail_after call.op ends)

-- ---- groups

pub groups_joined : (groups : List (List WaitingCall)) (group : List WaitingCall) → weigh pushes (groups ++ group ∷ []) ≡ weigh pushes groups + pushes group
groups_joined groups group = omega (arith, weigh-append pushes groups (group ∷ []))

pub groups_behind : (groups : List (List WaitingCall)) (group : List WaitingCall) → weigh pushes (drop 1 (groups ++ group ∷ [])) ≤ weigh pushes (drop 1 groups) + pushes group
groups_behind [] group = omega arith
groups_behind (first ∷ groups) group = omega (arith, groups_joined groups group)

-- ---- turns at a master

abbrev pub grant_tail : Option Granted → ℕ
grant_tail None = 0
grant_tail (Some grant) = grant.tail

pub asked_tail : (head tail : ℕ) (cores : List ℕ) (from : ℕ)
    → (if is_any (cores ++ from ∷ []) then 0 else tail) + grant_tail (if is_any cores then None else turn_of head tail (cores ++ from ∷ [])) ≤ (if is_any cores then 0 else tail)
asked_tail head tail [] from = omega arith
asked_tail head tail (core ∷ cores) from = omega arith

pub ended_tail : (head tail : ℕ) (cores : List ℕ) → (if is_any cores then 0 else tail) + grant_tail (turn_of head tail cores) ≤ tail
ended_tail head tail [] = omega arith
ended_tail head tail (core ∷ cores) = omega arith

-- ---- one vector

module _ (number : ℕ) where
  pub line_same : (n : ℕ) → if_line number number n ≡ n
  unfolding if_line
  line_same n = cond_both (number == number) n 0 (λ (m : ℕ). m ≡ n) (λ e. refl) (λ e. absurd (unequal e))
    where
      unequal : (number == number) ≡ false → ⊥
      unequal e = grind (arith, nat_tests, e)

  pub line_other : (other n : ℕ) → number ≢ other → if_line number other n ≡ 0
  unfolding if_line
  line_other other n ne = cond_both (other == number) n 0 (λ (m : ℕ). m ≡ 0) (λ e. absurd (ne (sym (eqb-true other number e)))) (λ e. refl)

  pub line_none : (other : ℕ) → if_line number other 0 ≡ 0
  unfolding if_line
  line_none other = choice (λ (m : ℕ). m ≡ 0) (other == number) 0 0 refl refl

  -- What is put in one place, with what is sent of that.
  put_tail : {X : Type 0} (F : X → ℕ) (f : ℕ → X) (k : ℕ) (x : X) (sent got d : ℕ) → F x + sent ≤ (F (f k) + got) + d
      → F (put f k x number) + if_line number k sent ≤ (F (f number) + if_line number k got) + d
  put_tail {X} F f k x sent got d l = put_each (λ (i : ℕ) (y : X). F y + if_line number k sent ≤ (F (f i) + if_line number k got) + d) f k x number here
      (λ q. omega (arith, line_other k sent q, line_other k got q))
    where
      here : number ≡ k → F x + if_line number k sent ≤ (F (f number) + if_line number k got) + d
      here q = subst (λ (j : ℕ). F x + if_line number j sent ≤ (F (f number) + if_line number j got) + d) q
          (omega (arith, line_same sent, line_same got, subst (λ (j : ℕ). F x + sent ≤ (F (f j) + got) + d) (sym q) l))

  module _ (me : ℕ) where
    abbrev pub Within : Body → Outcome → ℕ → Type 0
    Within body outcome more = tail_held number outcome.body + of_sends (tails_told number) me outcome.sends ≤ tail_held number body + more

    abbrev pub WithinIf : Body → Option Outcome → ℕ → Type 0
    WithinIf body None more = Unit {0}
    WithinIf body (Some outcome) more = Within body outcome more

    light_weighs : (from to : ℕ) (message : Msg) → IsLight message → tails_told number from to message ≡ 0
    light_weighs from to (msg.Grant vector head tail) p = absurd p
    light_weighs from to (msg.Done vector head tail) p = absurd p
    light_weighs from to _ p = refl

    pub light_sends : (sends : List Send) → AreLight sends → of_sends (tails_told number) me sends ≡ 0
    light_sends [] p = refl
    light_sends (send ∷ sends) p = omega (arith, light_weighs me send.to send.message p.0, light_sends sends p.1)

    pub quiet_within : (body : Body) (outcome : Outcome) (more : ℕ) → Quiet body outcome → Within body outcome more
    quiet_within body outcome more q = omega (
      arith,
      ap (λ (vs : Vectors). master_tail (vs.masters number) + line_tail (vs.vectors number)) q.0,
      light_sends outcome.sends q.1,
    )

    -- A vector at this core changes.
    pub line_within : (body : Body) (outcome : Outcome) (k : ℕ) (vector : Vector) (sent got d : ℕ) → outcome.body.vectors ≡ (with_vector body k vector).vectors
        → of_sends (tails_told number) me outcome.sends ≡ if_line number k sent → line_tail (Some vector) + sent ≤ (line_tail (body.vectors.vectors k) + got) + d
        → Within body outcome (if_line number k got + d)
    line_within body outcome k vector sent got d e s l = omega (
      arith,
      ap (λ (vs : Vectors). master_tail (vs.masters number) + line_tail (vs.vectors number)) e,
      s,
      put_tail line_tail body.vectors.vectors k (Some vector) sent got d l,
    )

    pub line_stays : (body : Body) (outcome : Outcome) (k : ℕ) (vector : Vector) (d : ℕ) → outcome.body.vectors ≡ (with_vector body k vector).vectors
        → AreLight outcome.sends → line_tail (Some vector) ≤ line_tail (body.vectors.vectors k) + d → Within body outcome d
    line_stays body outcome k vector d e p l =
        omega (arith, line_none k, line_within body outcome k vector 0 0 d e (omega (arith, light_sends outcome.sends p, line_none k)) (omega (arith, l)))

    grants_weigh : (k : ℕ) (grant : Option Granted) → of_sends (tails_told number) me (grants k grant) ≡ if_line number k (grant_tail grant)
    grants_weigh k None = sym (line_none k)
    grants_weigh k (Some grant) = omega arith

    -- The turns of a vector whose master is here change.
    pub turns_within : (body : Body) (outcome : Outcome) (k : ℕ) (turns : Turns) (grant : Option Granted) (got d : ℕ) → outcome.body.vectors ≡ (with_turns body k turns).vectors
        → outcome.sends ≡ grants k grant → master_tail (Some turns) + grant_tail grant ≤ (master_tail (body.vectors.masters k) + got) + d
        → Within body outcome (if_line number k got + d)
    turns_within body outcome k turns grant got d e s l = omega (
      arith,
      ap (λ (vs : Vectors). master_tail (vs.masters number) + line_tail (vs.vectors number)) e,
      ap (of_sends (tails_told number) me) s,
      grants_weigh k grant,
      put_tail master_tail body.vectors.masters k (Some turns) (grant_tail grant) got d l,
    )

  pub puts_light : (machine : Machine) (k : ℕ) (puts : List (ℕ × ℕ)) → AreLight (put_sends machine k puts)
  puts_light machine k [] = tt
  puts_light machine k (pair ∷ puts) = (tt, puts_light machine k puts)

  pub gets_light : (machine : Machine) (k : ℕ) (gets : List ℕ) → AreLight (get_sends machine k gets)
  gets_light machine k [] = tt
  gets_light machine k (position ∷ gets) = (tt, gets_light machine k gets)
