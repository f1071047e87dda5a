-- Worked rows of groups, plans and turns.
use Rattle.std.specs.Prelude.{◌≡◌, ℕ, List, [], ◌∷◌, Option, Some, None}
use Rattle.gr_lang.specs.declared.action.Op.{Op}
use Rattle.gr_lang.specs.declared.action.Op.TheVariants as op
use Rattle.gr_lang.specs.declared.action.WaitingCall.{WaitingCall}
use Rattle.gr_vector.specs.declared.master.Granted.{Granted}
use Rattle.gr_vector.specs.Groups.{group_of}
use Rattle.gr_vector.specs.Plans.{plan_of}
use Rattle.gr_vector.specs.Laws.{no_turns}
use Rattle.gr_vector.specs.Turns.{Turns, granted, asked, grant_on_asking, ended}

-- The call that waits in this slot.
abbrev pub waiting : ℕ → Op → WaitingCall
waiting slot call = record { slot = slot; id = record { core = 0; number = slot }; op = call }

abbrev pub joined : List WaitingCall
joined = waiting 0 (op.Push 0 1) ∷ waiting 1 (op.Pop 0) ∷ waiting 2 (op.Push 0 2) ∷ waiting 3 (op.Dequeue 0) ∷ []

-- A push, a pop, a push and a dequeue: the group has both pushes first.
abbrev pub FourCalls : Type 0
FourCalls = group_of joined ≡ waiting 0 (op.Push 0 1) ∷ waiting 2 (op.Push 0 2) ∷ waiting 1 (op.Pop 0) ∷ waiting 3 (op.Dequeue 0) ∷ []

-- At an empty vector the words are put at 0 and 1; the pop takes that at 1 and the dequeue that at 0.
abbrev pub FourPlanned : Type 0
FourPlanned = plan_of (group_of joined) 0 0 ≡ record { puts = (0, 1) ∷ (1, 2) ∷ []; gets = 1 ∷ 0 ∷ []; head = 1; tail = 1 }

-- A pop and a dequeue of one word: the dequeue finds none.
abbrev pub EmptyPlanned : Type 0
EmptyPlanned = plan_of (waiting 0 (op.Pop 0) ∷ waiting 1 (op.Dequeue 0) ∷ []) 4 5 ≡ record { puts = []; gets = 4 ∷ []; head = 4; tail = 4 }

-- Cores 2 and 1 ask; the first gets the turn at once, and the second when that has ended.

abbrev pub grant : ℕ → ℕ → ℕ → Option Granted
grant core head tail = Some (record { core = core; head = head; tail = tail })

abbrev pub one_asked : Turns
one_asked = asked no_turns 2

abbrev pub both_asked : Turns
both_asked = asked one_asked 1

abbrev pub one_ended : Turns
one_ended = ended both_asked 0 3

abbrev pub FirstAsks : Type 0
FirstAsks = grant_on_asking no_turns 2 ≡ grant 2 0 0

abbrev pub SecondAsks : Type 0
SecondAsks = grant_on_asking one_asked 1 ≡ None

abbrev pub FirstEnds : Type 0
FirstEnds = granted one_ended ≡ grant 1 0 3

abbrev pub SecondEnds : Type 0
SecondEnds = granted (ended one_ended 1 3) ≡ None
