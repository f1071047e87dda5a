-- Calls of vectors by their kinds, and the group of the calls that wait for a turn.
use Rattle.std.specs.Prelude.{ℕ, Bool, true, false, List, ◌++◌, filter, Option, Some, None}
use Rattle.gr_lang.specs.declared.action.Op.{Op}
use Rattle.gr_lang.specs.declared.action.Op.TheVariants as op
use Rattle.gr_lang.specs.declared.action.WaitingCall.{WaitingCall}
use Rattle.gr_vector.specs.declared.kind.Kind.{Kind}
use Rattle.gr_vector.specs.declared.kind.Kind.TheVariants as kind

-- The vector that a call is on, where it is a call of a vector.
abbrev pub vector_of : Op → Option ℕ
vector_of (op.Push object word) = Some object
vector_of (op.Pop object) = Some object
vector_of (op.Dequeue object) = Some object
vector_of _ = None

-- Whether a call is of this kind.
abbrev pub is_of : Kind → Op → Bool
is_of kind.Push (op.Push object word) = true
is_of kind.Pop (op.Pop object) = true
is_of kind.Dequeue (op.Dequeue object) = true
is_of _ _ = false

-- The calls that are of this kind, in their order.
abbrev pub calls_of : Kind → List WaitingCall → List WaitingCall
calls_of which calls = filter (λ call. is_of which call.op) calls

-- The group of some calls: the pushes, then the pops, then the dequeues.
abbrev pub group_of : List WaitingCall → List WaitingCall
group_of calls = calls_of kind.Push calls ++ (calls_of kind.Pop calls ++ calls_of kind.Dequeue calls)
