-- What a turn makes of the calls of its group: where words are put, where they are taken out, and where the vector's words stand afterwards.
use Rattle.std.specs.Prelude.{ℕ, ◌+◌, ◌-◌, nat_lt, if◌then◌else◌, List, [], ◌∷◌, filter_map, Option, Some, None}
use Rattle.gr_lang.specs.declared.action.Op.{Op}
use Rattle.gr_lang.specs.declared.action.Op.TheVariants as op
use Rattle.gr_lang.specs.declared.action.WaitingCall.{WaitingCall}
use Rattle.gr_vector.specs.declared.ends.Ends.{Ends}
use Rattle.gr_vector.specs.declared.turn_plan.Plan.{Plan}

-- One call. The vector's words stand at the positions from head to below tail.

-- The position at which a call puts a word, with the word: a push puts it at the tail.
abbrev pub placed : Op → Ends → Option (ℕ × ℕ)
placed (op.Push object word) ends = Some (ends.tail, word)
placed _ ends = None

-- The position from which a call takes a word: a pop takes the last and a dequeue the first, while positions are left.
abbrev pub taken : Op → Ends → Option ℕ
taken (op.Pop object) ends = if nat_lt ends.head ends.tail then Some (ends.tail - 1) else None
taken (op.Dequeue object) ends = if nat_lt ends.head ends.tail then Some ends.head else None
taken _ ends = None

-- The positions after a call.
abbrev pub after : Op → Ends → Ends
after (op.Push object word) ends = record { head = ends.head; tail = ends.tail + 1 }
after (op.Pop object) ends = if nat_lt ends.head ends.tail then record { head = ends.head; tail = ends.tail - 1 } else ends
after (op.Dequeue object) ends = if nat_lt ends.head ends.tail then record { head = ends.head + 1; tail = ends.tail } else ends
after _ ends = ends

-- Calls, one after another.

-- What each call puts, and from where it takes a word.
abbrev pub placed_by : List WaitingCall → Ends → List (Option (ℕ × ℕ))
placed_by [] ends = []
placed_by (call ∷ calls) ends = placed call.op ends ∷ placed_by calls (after call.op ends)

abbrev pub taken_by : List WaitingCall → Ends → List (Option ℕ)
taken_by [] ends = []
taken_by (call ∷ calls) ends = taken call.op ends ∷ taken_by calls (after call.op ends)

-- The positions after the calls.
abbrev pub ends_after : List WaitingCall → Ends → Ends
ends_after [] ends = ends
ends_after (call ∷ calls) ends = ends_after calls (after call.op ends)

-- Those that are there.
abbrev pub present : {X : Type 0} → List (Option X) → List X
present options = filter_map (λ option. option) options

-- The plan of a group.
abbrev pub plan_from : List WaitingCall → Ends → Plan
plan_from group ends = record {
  puts = present (placed_by group ends);
  gets = present (taken_by group ends);
  head = (ends_after group ends).head;
  tail = (ends_after group ends).tail;
}

abbrev pub plan_of : List WaitingCall → ℕ → ℕ → Plan
plan_of group head tail = plan_from group record { head = head; tail = tail }
