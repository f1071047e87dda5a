-- A group has the calls of which it is made.
use Rattle.std.proofs.Common.{◌≡◌, ℕ, ◌+◌, Bool, true, false, cond, List, [], ◌∷◌, ◌++◌, length, filter, All, is_some, refl, sym, ap, ◌∙◌, arith, true≢false, length-append}
use Rattle.std.proofs.lemmas.List.Elements.{All-head, All-tail, filter-append}
use Rattle.gr_lang.specs.declared.action.Op.{Op}
use Rattle.gr_lang.specs.declared.action.Op.TheVariants as op
use Rattle.gr_lang.specs.declared.action.WaitingCall.{WaitingCall}
use Rattle.gr_vector.specs.declared.kind.Kind.TheVariants as kind
use Rattle.gr_vector.specs.Groups.{vector_of, is_of, calls_of, group_of}
use Rattle.gr_vector.specs.Laws.{GroupsAreTheCalls}

module _ (sort : WaitingCall → Bool) where
  abbrev many : List WaitingCall → ℕ
  many calls = length (filter sort calls)

  cons : (b : Bool) (call : WaitingCall) (calls : List WaitingCall) → length (cond b (call ∷ calls) calls) ≡ cond b 1 0 + length calls
  cons true call calls = omega arith
  cons false call calls = omega arith

  counted : (call : WaitingCall) (calls : List WaitingCall) → many (call ∷ calls) ≡ cond (sort call) 1 0 + many calls
  counted call calls = cons (sort call) call (filter sort calls)

  one_more : (o : Op) (call : WaitingCall) (pushes pops dequeues calls : List WaitingCall) → is_some (vector_of o) ≡ true
      → many pushes + (many pops + many dequeues) ≡ many calls
      → many (cond (is_of kind.Push o) (call ∷ pushes) pushes) + (many (cond (is_of kind.Pop o) (call ∷ pops) pops) + many (cond (is_of kind.Dequeue o) (call ∷ dequeues) dequeues)) ≡ many (call ∷ calls)
  one_more (op.Push object word) call pushes pops dequeues calls e h = omega (arith, counted call pushes, counted call calls, h)
  one_more (op.Pop object) call pushes pops dequeues calls e h = omega (arith, counted call pops, counted call calls, h)
  one_more (op.Dequeue object) call pushes pops dequeues calls e h = omega (arith, counted call dequeues, counted call calls, h)
  one_more _ call pushes pops dequeues calls e h = absurd (true≢false (sym e))

  abbrev IsCall : WaitingCall → Type 0
  IsCall call = is_some (vector_of call.op) ≡ true

  kinds : (calls : List WaitingCall) → All (λ call. is_some (vector_of call.op) ≡ true) calls
      → many (calls_of kind.Push calls) + (many (calls_of kind.Pop calls) + many (calls_of kind.Dequeue calls)) ≡ many calls
  kinds [] h = refl
  kinds (call ∷ calls) h = one_more call.op call (calls_of kind.Push calls) (calls_of kind.Pop calls) (calls_of kind.Dequeue calls) calls (All-head IsCall call calls h) (kinds calls (All-tail IsCall call calls h))

  joined : (one two : List WaitingCall) → many (one ++ two) ≡ many one + many two
  joined one two = ap length (filter-append sort one two) ∙ length-append (filter sort one) (filter sort two)

  grouped : (calls : List WaitingCall) → All (λ call. is_some (vector_of call.op) ≡ true) calls → many (group_of calls) ≡ many calls
  grouped calls h = omega (
    arith,
    joined (calls_of kind.Push calls) (calls_of kind.Pop calls ++ calls_of kind.Dequeue calls),
    joined (calls_of kind.Pop calls) (calls_of kind.Dequeue calls),
    kinds calls h,
  )

pub groups : GroupsAreTheCalls
groups calls sort h = grouped sort calls h
