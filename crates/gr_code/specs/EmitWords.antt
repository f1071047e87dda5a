-- What the code of a statement or a block adds to the points.
use Rattle.std.specs.Prelude.{◌≡◌, ◌≤◌, ℕ, List, length, map, slice_get, Option, Some}
use Rattle.gr_syntax.specs.declared.syntax.Program.{Program}
use Rattle.gr_syntax.specs.declared.syntax.CallText.{CallText}
use Rattle.gr_syntax.specs.declared.syntax.HowText.{HowText}
use Rattle.gr_syntax.specs.Items.{TaskText}
use Rattle.gr_syntax.specs.declared.syntax.Expr.{Expr}
use Rattle.gr_syntax.specs.declared.syntax.Name.{Name}
use Rattle.gr_syntax.specs.declared.syntax.Right.{Right}
use Rattle.gr_syntax.specs.declared.syntax.Right.TheVariants as right
use Rattle.gr_accept.specs.Operations.{operation_of}
use Rattle.gr_lang.specs.Openings.{object_of, target_of}
use Rattle.gr_lang.specs.Next as next
use Rattle.gr_lang.specs.Next.{Todo, given, reducer_number}
use Rattle.gr_code.specs.declared.terms.Term.{Term}
use Rattle.gr_code.specs.declared.terms.Targets.{Targets}
use Rattle.gr_code.specs.declared.instructions.Way.{Way}
use Rattle.gr_code.specs.declared.instructions.Instruction.{Instruction}
use Rattle.gr_code.specs.declared.instructions.Instruction.TheVariants as i
use Rattle.gr_code.specs.Terms.{IsTermOf, AreTermsOf}
use Rattle.gr_code.specs.declared.lowering.TaskEntry.{TaskEntry}
use Rattle.gr_code.specs.Points.{Point, first_point}
use Rattle.gr_code.specs.Instructions.{Agrees, Begins, how_of}
use Rattle.gr_code.specs.PointView.{Laid}

-- There are more points, and at each new one the instruction does what is to do.
pub record Grown (program : Program) (old new : Laid) : Type 0 where
  pub points : Begins old.points new.points
  pub instructions : Begins old.instructions new.instructions
  pub agree : (at : ℕ) (x : Instruction) → length old.instructions ≤ at → slice_get new.instructions at ≡ Some x → Agrees program new.points at x

-- The code has grown, and at that point this task's locals have names and this is to do.
pub record Emitted (program : Program) (names : List (List ℕ)) (old new : Laid) (todo : List Todo) (at : ℕ) : Type 0 where
  pub grown : Grown program old new
  pub stands : slice_get new.points at ≡ Some (record { names = names; todo = todo })

-- The call with numbers for its names, which then leads on.
abbrev pub IsCallOf : Program → List (List ℕ) → CallText → Targets → ℕ → Instruction → Type 0
IsCallOf program names call targets next x =
    (args : List Term) × (AreTermsOf names args call.args) × (x ≡ i.Call (operation_of call.op.text) (object_of program call.object.text) (reducer_number call.reducer) args targets next)

-- The print of an expression.
abbrev pub IsPrintOf : List (List ℕ) → Expr → ℕ → Instruction → Type 0
IsPrintOf names value next x = (term : Term) × (IsTermOf names term value) × (x ≡ i.Print term next)

-- The assignment of an expression, or the call, whose words these targets take.
abbrev pub IsRightOf : Program → List (List ℕ) → Right → Targets → ℕ → Instruction → Type 0
IsRightOf program names (right.Value value) targets next x = (term : Term) × (IsTermOf names term value) × (x ≡ i.Set term targets next)
IsRightOf program names (right.Result call) targets next x = IsCallOf program names call targets next x

-- Both say where the new task may run, whatever the words of these locals are.
abbrev pub IsWayOf : List (List ℕ) → Way → HowText → Type 0
IsWayOf names way how = (words : List ℕ) → length words ≡ length names → how_of words way ≡ next.how_of (given names words) how

-- The spawn of a task.
abbrev pub IsSpawnOf : Program → List (List ℕ) → HowText → Name → List Expr → ℕ → Instruction → Type 0
IsSpawnOf program names how target args next x =
    (way : Way) × (terms : List Term) × (IsWayOf names way how) × (AreTermsOf names terms args) × (x ≡ i.Spawn way (target_of program target.text) terms next)

-- At each point the instruction does what is to do.
abbrev pub AllAgree : Program → Laid → Type 0
AllAgree program laid = (at : ℕ) (x : Instruction) → slice_get laid.instructions at ≡ Some x → Agrees program laid.points at x

-- A task: how many parameters and locals it has, and where it begins.
pub record Known : Type 0 where
  pub params : ℕ
  pub locals : ℕ
  pub first : Option Point

abbrev pub known_in : List Point → TaskEntry → Known
known_in points entry = record { params = entry.params; locals = entry.locals; first = slice_get points entry.at }

abbrev pub known_of : TaskText → Known
known_of task = record { params = length task.params; locals = length (first_point task).names; first = Some (first_point task) }

-- The entries are those of these tasks.
abbrev pub AreEntries : List Point → List TaskEntry → List TaskText → Type 0
AreEntries points entries tasks = map (known_in points) entries ≡ map known_of tasks
