-- Words, and the states all of whose numbers are words.
use Rattle.std.specs.Prelude.{◌≡◌, ℕ, ◌+◌, ◌≤◌, ◌<◌, ◌^◌, true, List, [], ◌∷◌, slice_get, Option, Some, None}
use Rattle.std.specs.FinMap as fin
use Rattle.gr_lang.specs.declared.action.Op.{Op}
use Rattle.gr_lang.specs.declared.action.Op.TheVariants as op
use Rattle.gr_lang.specs.declared.action.Action.{Action}
use Rattle.gr_lang.specs.declared.action.Action.TheVariants as action
use Rattle.gr_lang.specs.declared.action.Reply.{Reply}
use Rattle.gr_lang.specs.declared.action.TaskId.{TaskId}
use Rattle.gr_lang.specs.Locals.{Locals}
use Rattle.gr_lang.specs.Next.{Todo, run, arrive, Running}
use Rattle.gr_lang.specs.Objects.{Object, pairs, line, Objects}
use Rattle.gr_lang.specs.States.{Task, Range, Scope, State}
use Rattle.gr_net.specs.Sums.{Each}
use Rattle.gr_fits_words.specs.Literals.{stmt_fits}

-- Words are below 2^64.
abbrev pub IsWord : ℕ → Type 0
IsWord word = word < 2 ^ 64

-- A word, if there is one.
abbrev pub MayBeWord : Option ℕ → Type 0
MayBeWord None = Unit
MayBeWord (Some word) = IsWord word

-- The words that a map or a vector holds.
abbrev pub ThingHasWords : Object → Type 0
ThingHasWords (pairs held) = (key word : ℕ) → fin.get held key ≡ Some word → IsWord word
ThingHasWords (line words) = Each IsWord words
ThingHasWords _ = Unit

-- All words that objects hold, and the addresses of the heap.
pub record ObjectsHaveWords (objects : Objects) : Type 0 where
  pub words : Each IsWord objects.words
  pub things : Each ThingHasWords objects.things
  pub heap : objects.heap.from + objects.heap.count ≤ 2 ^ 64

-- The words that a call may put into an object.
abbrev pub CallHasWords : Op → Type 0
CallHasWords (op.Write object place word) = IsWord word
CallHasWords (op.Cas object place old new) = IsWord new
CallHasWords (op.Reduce object reducer place word) = IsWord word
CallHasWords (op.Put object key word) = IsWord word
CallHasWords (op.Merge object reducer key word) = IsWord word
CallHasWords (op.Push object word) = IsWord word
CallHasWords _ = Unit

-- Those, the arguments that a task starts with, and the end of a loop.
abbrev pub ActionHasWords : Action → Type 0
ActionHasWords (action.Call call) = CallHasWords call
ActionHasWords (action.Spawn way target args) = Each IsWord args
ActionHasWords (action.Loop lo hi grain target args) = IsWord hi × Each IsWord args
ActionHasWords _ = Unit

abbrev pub ReplyHasWords : Reply → Type 0
ReplyHasWords reply = IsWord reply.first × IsWord reply.second

abbrev pub LocalsHaveWords : Locals → Type 0
LocalsHaveWords locals = Each (λ local. IsWord local.1) locals

-- The numbers in what is still to do.
abbrev pub ToDoFits : List Todo → Type 0
ToDoFits [] = Unit
ToDoFits (arrive ∷ rest) = ToDoFits rest
ToDoFits (run stmt ∷ rest) = (stmt_fits stmt ≡ true) × ToDoFits rest

pub record RunningHasWords (running : Running) : Type 0 where
  pub locals : LocalsHaveWords running.locals
  pub todo : ToDoFits running.todo

-- A task's next action, and the state in which it stands.
pub record StandHasWords (due : Action) (at : Running) : Type 0 where
  pub action : ActionHasWords due
  pub running : RunningHasWords at

pub record RangeHasWords (range : Range) : Type 0 where
  pub hi : IsWord range.hi
  pub args : Each IsWord range.args

-- All words of a state: those of its objects, of its tasks and of the ranges of its loops.
pub record WordsFit (state : State) : Type 0 where
  pub objects : ObjectsHaveWords state.objects
  pub tasks : (id : TaskId) (task : Task) → fin.get state.tasks id ≡ Some task → StandHasWords task.action task.running
  pub ranges : (number : ℕ) (scope : Scope) (range : Range) → slice_get state.scopes number ≡ Some scope → scope.range ≡ Some range → RangeHasWords range
