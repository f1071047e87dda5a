-- Worked rows of the next action, the object call and the plain step, as statements on the definitions.
use Rattle.std.specs.Prelude.{◌≡◌, ℕ, ◌-◌, ◌^◌, true, false, List, [], ◌∷◌, None, codes}
use Rattle.std.specs.FinMap as fin
use Rattle.std.specs.FinSet as set
use Rattle.gr_syntax.specs.declared.syntax.Program.{Program}
use Rattle.gr_syntax.specs.declared.syntax.Item.{Item}
use Rattle.gr_syntax.specs.declared.syntax.Item.TheVariants as item
use Rattle.gr_syntax.specs.declared.syntax.Stmt.{Stmt}
use Rattle.gr_syntax.specs.declared.syntax.Stmt.TheVariants as stmt
use Rattle.gr_syntax.specs.declared.syntax.Expr.{Expr}
use Rattle.gr_syntax.specs.declared.syntax.Expr.TheVariants as expr
use Rattle.gr_syntax.specs.declared.syntax.Right.TheVariants as right
use Rattle.gr_syntax.specs.declared.syntax.HowText.TheVariants as place
use Rattle.gr_syntax.specs.declared.syntax.BinOp.TheVariants as sign
use Rattle.gr_syntax.specs.declared.syntax.Name.{Name}
use Rattle.gr_syntax.specs.declared.syntax.Number.{Number}
use Rattle.gr_syntax.specs.declared.syntax.Place.{Place}
use Rattle.gr_lang.specs.declared.action.Action.TheVariants as action
use Rattle.gr_lang.specs.declared.action.Op.{Op}
use Rattle.gr_lang.specs.declared.action.Op.TheVariants as op
use Rattle.gr_lang.specs.declared.action.How.TheVariants as how
use Rattle.gr_lang.specs.declared.action.Entry.{Entry}
use Rattle.gr_lang.specs.declared.action.Entry.TheVariants as entry
use Rattle.gr_lang.specs.declared.action.TrapKind.TheVariants as trap
use Rattle.gr_lang.specs.declared.action.Reply.{Reply}
use Rattle.gr_lang.specs.declared.action.TaskId.{TaskId}
use Rattle.gr_lang.specs.Effects.{reply, nothing, one}
use Rattle.gr_lang.specs.Objects.{Objects, array, keys, pairs, line, call}
use Rattle.gr_lang.specs.Next.{next, start}
use Rattle.gr_lang.specs.States.{main_id}
use Rattle.gr_lang.specs.Histories.{legal, complete}

abbrev pub at : Place
at = record { line = 1; column = 1 }

abbrev pub name : List ℕ → Name
name text = record { text = text; at = at }

abbrev pub number : ℕ → Number
number n = record { value = n; at = at }

abbrev pub lit : ℕ → Expr
lit n = expr.Lit (number n)

abbrev pub local : List ℕ → Expr
local text = expr.Local (name text)

abbrev pub main : List Stmt → Item
main body = item.Task (name (codes "main")) [] body

abbrev pub program : List Item → Program
program items = record { items = items; end = at }

abbrev pub task_id : ℕ → TaskId
task_id n = record { core = 0; number = n }

abbrev pub printed : TaskId → ℕ → Entry
printed id w = entry.Call id (op.Print w) nothing

-- task main() { print 3 + 4; }
abbrev pub seven : Program
seven = program (main (stmt.Print (expr.Two sign.Add (lit 3) (lit 4)) ∷ []) ∷ [])

abbrev pub SevenIsNext : Type 0
SevenIsNext = (next seven 5 (start seven 0 [])).0 ≡ action.Call (op.Print 7)

-- The whole history of that program, and what no history of it begins with.
abbrev pub SevenIsComplete : Type 0
SevenIsComplete = complete seven 1 5 (printed main_id 7 ∷ entry.End main_id ∷ entry.Over ∷ []) ≡ true

abbrev pub EightIsNotLegal : Type 0
EightIsNotLegal = legal seven 1 5 (printed main_id 8 ∷ []) ≡ false

abbrev pub OverIsNotLegal : Type 0
OverIsNotLegal = legal seven 1 5 (printed main_id 7 ∷ entry.Over ∷ []) ≡ false

-- array a[1]; task main() { let x = a.add(0, 5); print x; }
abbrev pub counter : Program
counter = program (item.Array (name (codes "a")) (number 1)
    ∷ main (stmt.Set1 true (name (codes "x") ∷ []) (right.Result (record { object = name (codes "a"); op = name (codes "add"); reducer = None; args = lit 0 ∷ lit 5 ∷ [] })) ∷ stmt.Print (local (codes "x")) ∷ []) ∷ [])

abbrev pub CounterIsComplete : Type 0
CounterIsComplete = complete counter 1 5 (entry.Call main_id (op.Add 0 0 5) (one 0) ∷ printed main_id 0 ∷ entry.End main_id ∷ entry.Over ∷ []) ≡ true

-- task main() { let x = 1 / 0; }
abbrev pub divided : Program
divided = program (main (stmt.Set1 true (name (codes "x") ∷ []) (right.Value (expr.Two sign.Div (lit 1) (lit 0))) ∷ []) ∷ [])

abbrev pub DividedIsTrapped : Type 0
DividedIsTrapped = legal divided 1 5 (entry.Trap main_id trap.Div ∷ []) ≡ true

-- task main() { while 1 { } }
abbrev pub forever : Program
forever = program (main (stmt.While (lit 1) [] ∷ []) ∷ [])

abbrev pub ForeverIsTrapped : Type 0
ForeverIsTrapped = legal forever 1 3 (entry.Trap main_id trap.Steps ∷ []) ≡ true

-- task t() { } task main() { finish { spawn t(); } }
abbrev pub finished : Program
finished = program (item.Task (name (codes "t")) [] [] ∷ main (stmt.Finish (stmt.Spawn place.Here (name (codes "t")) [] ∷ []) ∷ []) ∷ [])

abbrev pub FinishIsComplete : Type 0
FinishIsComplete = complete finished 1 5 (entry.Finish main_id ∷ entry.Spawn main_id how.Here 0 [] (task_id 1) ∷ entry.End (task_id 1) ∷ entry.Pass main_id ∷ entry.End main_id ∷ entry.Over ∷ []) ≡ true

-- The finish isn't passed before the task under it has ended.
abbrev pub PassIsNotLegal : Type 0
PassIsNotLegal = legal finished 1 5 (entry.Finish main_id ∷ entry.Spawn main_id how.Here 0 [] (task_id 1) ∷ entry.Pass main_id ∷ []) ≡ false

-- task one(i) { print i; } task main() { forall 3 .. 4 grain 0 one(); }
abbrev pub looped : Program
looped = program (item.Task (name (codes "one")) (name (codes "i") ∷ []) (stmt.Print (local (codes "i")) ∷ []) ∷ main (stmt.Forall (lit 3) (lit 4) (lit 0) (name (codes "one")) [] ∷ []) ∷ [])

abbrev pub LoopIsComplete : Type 0
LoopIsComplete = complete looped 1 5 (entry.Loop main_id 3 4 1 0 [] ∷ entry.Begin main_id 3 (task_id 1) ∷ printed (task_id 1) 3 ∷ entry.End (task_id 1) ∷ entry.Pass main_id ∷ entry.End main_id ∷ entry.Over ∷ []) ≡ true

-- The loop isn't passed before its index has begun.
abbrev pub LoopIsNotPassed : Type 0
LoopIsNotPassed = legal looped 1 5 (entry.Loop main_id 3 4 1 0 [] ∷ entry.Pass main_id ∷ []) ≡ false

-- One object of each kind: an array of the words 4 and 5, a set of 9, a map of 7 to 2, a vector of 1 and 2; the heap has four words, of which the first two are a live block.
abbrev pub objects : Objects
objects = record {
  words = 4 ∷ 5 ∷ 0 ∷ 0 ∷ 0 ∷ 0 ∷ [];
  things = array 0 2 ∷ keys (set.insert set.empty 9) ∷ pairs (fin.insert fin.empty 7 2) ∷ line (1 ∷ 2 ∷ []) ∷ [];
  heap = record { from = 2; count = 4 };
  live = fin.insert fin.empty 2 2;
}

-- What a call replies there.
abbrev pub replies : Op → Reply
replies op = (call op objects).1

-- The words after a call.
abbrev pub words_after : Op → List ℕ
words_after op = (call op objects).0.words

pub record WordCalls : Type 0 where
  pub read : replies (op.Read 0 1) ≡ one 5
  pub write : words_after (op.Write 0 1 8) ≡ 4 ∷ 8 ∷ 0 ∷ 0 ∷ 0 ∷ 0 ∷ []
  pub write_gives_none : replies (op.Write 0 1 8) ≡ nothing
  pub add : words_after (op.Add 0 1 (2 ^ 64 - 1)) ≡ 4 ∷ 4 ∷ 0 ∷ 0 ∷ 0 ∷ 0 ∷ []
  pub add_gives : replies (op.Add 0 1 1) ≡ one 5
  pub cas : words_after (op.Cas 0 1 5 6) ≡ 4 ∷ 6 ∷ 0 ∷ 0 ∷ 0 ∷ 0 ∷ []
  pub cas_other : words_after (op.Cas 0 1 4 6) ≡ 4 ∷ 5 ∷ 0 ∷ 0 ∷ 0 ∷ 0 ∷ []
  pub reduce : words_after (op.Reduce 0 2 0 9) ≡ 9 ∷ 5 ∷ 0 ∷ 0 ∷ 0 ∷ 0 ∷ []

pub record SetCalls : Type 0 where
  pub insert_there : replies (op.Insert 1 9) ≡ one 0
  pub insert_new : replies (op.Insert 1 8) ≡ one 1
  pub remove : replies (op.Remove 1 9) ≡ one 1
  pub has : replies (op.Has 1 8) ≡ one 0

pub record MapCalls : Type 0 where
  pub put : replies (op.Put 2 7 5) ≡ one 0
  pub merge : replies (op.Merge 2 0 6 5) ≡ one 1
  pub get : replies (op.Get 2 7) ≡ reply 1 2
  pub get_absent : replies (op.Get 2 6) ≡ reply 0 0
  pub erase : replies (op.Erase 2 7) ≡ one 1

pub record VectorCalls : Type 0 where
  pub push : (call (op.Push 3 3) objects).0.things ≡ array 0 2 ∷ keys (set.insert set.empty 9) ∷ pairs (fin.insert fin.empty 7 2) ∷ line (1 ∷ 2 ∷ 3 ∷ []) ∷ []
  pub pop : replies (op.Pop 3) ≡ reply 1 2
  pub dequeue : replies (op.Dequeue 3) ≡ reply 1 1

pub record HeapCalls : Type 0 where
  pub alloc : replies (op.Alloc 2) ≡ one 4
  pub alloc_none : replies (op.Alloc 3) ≡ one (2 ^ 64 - 1)
  pub alloc_zero : replies (op.Alloc 0) ≡ one (2 ^ 64 - 1)
  pub free : replies (op.Free 2) ≡ one 1
  pub free_none : replies (op.Free 3) ≡ one 0
