-- The states of the plain memory with its tasks and scopes, and the work that is unfinished under a scope.
use Rattle.std.specs.Prelude.{ℕ, zero, suc, ◌+◌, ◌-◌, ◌==◌, Bool, true, false, not, ◌&&◌, ◌||◌, nat_lt, List, [], ◌∷◌, length, slice_get, Option, Some, None, is_some, codes}
use Rattle.std.specs.Option.{option_map_or}
use Rattle.std.specs.List.{list_any}
use Rattle.std.specs.Ordering.{nat_cmp, ordering_then}
use Rattle.std.specs.declared.cmp.Ordering.{Ordering}
use Rattle.std.specs.FinMap as fin
use Rattle.std.specs.FinSet as set
use Rattle.gr_syntax.specs.declared.syntax.Program.{Program}
use Rattle.gr_lang.specs.declared.action.Action.{Action}
use Rattle.gr_lang.specs.declared.action.TaskId.{TaskId}
use Rattle.gr_lang.specs.Objects.{Objects}
use Rattle.gr_lang.specs.Openings.{opening, target_of}
use Rattle.gr_lang.specs.Next.{Running, Stands, next, start}

-- Tasks are ordered by core, then by number.
abbrev pub id_cmp : TaskId → TaskId → Ordering
id_cmp a b = ordering_then (nat_cmp a.core b.core) (nat_cmp a.number b.number)

-- A task goes on, waits at its loop, has ended or is trapped.
pub data Mode : Type 0 where
  going : Mode
  at_loop : Mode
  ended : Mode
  trapped : Mode

-- A task: the scope in which it stands, its next action and the state in which that stands, and the scopes that it has opened and not passed, the innermost first.
pub record Task : Type 0 where
  pub scope : ℕ
  pub action : Action
  pub running : Running
  pub opened : List ℕ
  pub mode : Mode

-- A loop's range from lo to below hi, its task with the arguments behind the index, and the indices that have begun.
pub record Range : Type 0 where
  pub lo : ℕ
  pub hi : ℕ
  pub target : ℕ
  pub args : List ℕ
  pub begun : set.FinSet nat_cmp

-- A scope: its owner and parent, and its range where it is a loop. The root has no owner.
pub record Scope : Type 0 where
  pub owner : Option TaskId
  pub parent : ℕ
  pub range : Option Range

-- A state. Scopes have numbers in the order in which they were opened, and the root is 0.
pub record State : Type 0 where
  pub objects : Objects
  pub tasks : fin.FinMap id_cmp Task
  pub scopes : List Scope
  pub passed : Bool

abbrev pub main_id : TaskId
main_id = record { core = 0; number = 0 }

-- A new task in a scope, standing at its first action.
abbrev pub begun_task : ℕ → Stands → Task
begun_task scope at = record { scope = scope; action = at.0; running = at.1; opened = []; mode = going }

abbrev pub child : Program → ℕ → ℕ → ℕ → List ℕ → Task
child program limit scope target words = begun_task scope (next program limit (start program target words))

abbrev pub root : Scope
root = record { owner = None; parent = 0; range = None }

-- Before the first entry: the opening objects, and main in the root scope.
abbrev pub opening_state : Program → ℕ → State
opening_state program limit = record {
  objects = opening program;
  tasks = fin.insert fin.empty main_id (child program limit 0 (target_of program (codes "main")) []);
  scopes = root ∷ [];
  passed = false;
}

-- The scope under which the task's new work stands: the innermost that it has opened, or else its own.
abbrev pub innermost_of : ℕ → List ℕ → ℕ
innermost_of own [] = own
innermost_of own (scope ∷ scopes) = scope

abbrev pub innermost : Task → ℕ
innermost task = innermost_of task.scope task.opened

abbrev pub has_ended : Mode → Bool
has_ended ended = true
has_ended _ = false

abbrev pub is_going : Mode → Bool
is_going going = true
is_going _ = false

abbrev pub is_at_loop : Mode → Bool
is_at_loop at_loop = true
is_at_loop _ = false

-- Whether scope r is s or stands under it, looking `depth` scopes up.
abbrev pub is_under : ℕ → List Scope → ℕ → ℕ → Bool
is_under zero scopes scope r = r == scope
is_under (suc depth) scopes scope r = r == scope || option_map_or (λ x. is_some x.owner && is_under depth scopes scope x.parent) (slice_get scopes r) false

abbrev pub is_in : State → ℕ → ℕ → Bool
is_in state scope r = is_under (length state.scopes) state.scopes scope r

-- Whether an index of the range hasn't begun.
abbrev pub range_left : Option Range → Bool
range_left None = false
range_left (Some r) = nat_lt (set.len r.begun) (r.hi - r.lo)

-- Whether a scope of the list, whose first has number n, stands under s and has such an index.
abbrev pub ranges_left : State → ℕ → ℕ → List Scope → Bool
ranges_left state scope n [] = false
ranges_left state scope n (x ∷ xs) = (is_in state scope n && range_left x.range) || ranges_left state scope (n + 1) xs

-- Unfinished work: a task under the scope hasn't ended, or an index of a loop under it hasn't begun.
unfoldable pub left : State → ℕ → Bool
left state scope = list_any (λ task. not (has_ended task.mode) && is_in state scope task.scope) (fin.values state.tasks) || ranges_left state scope 0 state.scopes
