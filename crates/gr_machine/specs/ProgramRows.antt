-- Worked rows of the programs of the worked runs: the histories that runs tell are legal and complete for them, and scripts play their tasks.
use Rattle.std.specs.Prelude.{◌≡◌, ℕ, true, List, [], ◌∷◌, ◌++◌, length, ◌/◌, None, Some, codes, slice_index_or}
use Rattle.gr_syntax.specs.declared.syntax.Program.{Program}
use Rattle.gr_syntax.specs.declared.syntax.Item.{Item}
use Rattle.gr_syntax.specs.declared.syntax.Item.TheVariants as item
use Rattle.gr_syntax.specs.declared.syntax.Stmt.{Stmt}
use Rattle.gr_syntax.specs.declared.syntax.Stmt.TheVariants as stmt
use Rattle.gr_syntax.specs.declared.syntax.Expr.{Expr}
use Rattle.gr_syntax.specs.declared.syntax.Expr.TheVariants as expr
use Rattle.gr_syntax.specs.declared.syntax.CallText.{CallText}
use Rattle.gr_syntax.specs.declared.syntax.Right.TheVariants as right
use Rattle.gr_syntax.specs.declared.syntax.HowText.TheVariants as place
use Rattle.gr_syntax.specs.declared.syntax.BinOp.TheVariants as sign
use Rattle.gr_lang.specs.declared.action.Action.TheVariants as action
use Rattle.gr_lang.specs.declared.action.Reply.{Reply}
use Rattle.gr_lang.specs.Effects.{reply, nothing, one}
use Rattle.gr_lang.specs.Next.{Stands, next, start, go_on}
use Rattle.gr_lang.specs.Histories.{legal, complete}
use Rattle.gr_lang.specs.StepRows.{name, number, lit, local, main, program, counter}
use Rattle.gr_machine.specs.RowWords.{Script}
use Rattle.gr_machine.specs.CounterRows.{counter_script, counter_history}
use Rattle.gr_machine.specs.RemoteRows.{remote_script, remote_history}
use Rattle.gr_machine.specs.WaitRows.{waits_script, waits_history}
use Rattle.gr_machine.specs.LoopRows.{looped_script}
use Rattle.gr_machine.specs.BatchRows.{batch_script, batch_history}
use Rattle.gr_machine.specs.TurnRows.{turn_script, turn_history}
use Rattle.gr_machine.specs.EnrolRows.{enrolled_script, enrolled_history}
use Rattle.gr_machine.specs.ReduceRows.{reduced_script, reduced_history}
use Rattle.gr_machine.specs.NestedRows.{nested_script, nested_history}
use Rattle.gr_machine.specs.TrapRows.{trapped_script, trapped_history}

abbrev pub called : List ℕ → List ℕ → List Expr → CallText
called object operation args = record { object = name object; op = name operation; reducer = None; args = args }

abbrev pub let_be : List ℕ → CallText → Stmt
let_be target call = stmt.Set1 true (name target ∷ []) (right.Result call)

abbrev pub named : List ℕ → List ℕ → List Stmt → Item
named task param body = item.Task (name task) (name param ∷ []) body

-- array a[2]; task main() { let x = a.add(1, 5); print x; }
abbrev pub remote : Program
remote = program (item.Array (name (codes "a")) (number 2)
    ∷ main (let_be (codes "x") (called (codes "a") (codes "add") (lit 1 ∷ lit 5 ∷ [])) ∷ stmt.Print (local (codes "x")) ∷ []) ∷ [])

-- array a[1]; task t(w) { a.add(0, w); } task main() { finish { spawn t(1); spawn at 1 t(2); } let x = a.read(0); print x; }
abbrev pub waits : Program
waits = program (item.Array (name (codes "a")) (number 1)
    ∷ named (codes "t") (codes "w") (stmt.Do (called (codes "a") (codes "add") (lit 0 ∷ local (codes "w") ∷ [])) ∷ [])
    ∷ main (stmt.Finish (stmt.Spawn place.Here (name (codes "t")) (lit 1 ∷ []) ∷ stmt.Spawn (place.At (lit 1)) (name (codes "t")) (lit 2 ∷ []) ∷ [])
    ∷ let_be (codes "x") (called (codes "a") (codes "read") (lit 0 ∷ [])) ∷ stmt.Print (local (codes "x")) ∷ []) ∷ [])

-- array a[1]; task one(i) { a.add(0, i); } task main() { forall 0 .. 4 grain 1 one(); }
abbrev pub looped : Program
looped = program (item.Array (name (codes "a")) (number 1)
    ∷ named (codes "one") (codes "i") (stmt.Do (called (codes "a") (codes "add") (lit 0 ∷ local (codes "i") ∷ [])) ∷ [])
    ∷ main (stmt.Forall (lit 0) (lit 4) (lit 1) (name (codes "one")) [] ∷ []) ∷ [])

-- set s; task t() { let n = s.insert(9); print n; } task main() { finish { spawn t(); spawn t(); spawn t(); } }
abbrev pub batch : Program
batch = program (item.Set (name (codes "s"))
    ∷ item.Task (name (codes "t")) [] (let_be (codes "n") (called (codes "s") (codes "insert") (lit 9 ∷ [])) ∷ stmt.Print (local (codes "n")) ∷ [])
    ∷ main (stmt.Finish (stmt.Spawn place.Here (name (codes "t")) [] ∷ stmt.Spawn place.Here (name (codes "t")) [] ∷ stmt.Spawn place.Here (name (codes "t")) [] ∷ []) ∷ []) ∷ [])

-- vector v; task put(w) { v.push(w); } task get() { let f, x = v.pop(); print x; } task main() { finish { spawn put(5); spawn get(); } }
abbrev pub turn : Program
turn = program (item.Vector (name (codes "v"))
    ∷ named (codes "put") (codes "w") (stmt.Do (called (codes "v") (codes "push") (local (codes "w") ∷ [])) ∷ [])
    ∷ item.Task (name (codes "get")) [] (stmt.Set1 true (name (codes "f") ∷ name (codes "x") ∷ []) (right.Result (called (codes "v") (codes "pop") [])) ∷ stmt.Print (local (codes "x")) ∷ [])
    ∷ main (stmt.Finish (stmt.Spawn place.Here (name (codes "put")) (lit 5 ∷ []) ∷ stmt.Spawn place.Here (name (codes "get")) [] ∷ []) ∷ []) ∷ [])

-- task k() { } task t() { spawn k(); } task main() { finish { spawn at 1 t(); spawn at 1 t(); } }
abbrev pub enrolled : Program
enrolled = program (item.Task (name (codes "k")) [] [] ∷ item.Task (name (codes "t")) [] (stmt.Spawn place.Here (name (codes "k")) [] ∷ [])
    ∷ main (stmt.Finish (stmt.Spawn (place.At (lit 1)) (name (codes "t")) [] ∷ stmt.Spawn (place.At (lit 1)) (name (codes "t")) [] ∷ []) ∷ []) ∷ [])

-- array a[2]; task one() { a.reduce add (1, 5); } task two() { a.reduce max (1, 9); } task main() { finish { spawn one(); spawn one(); spawn two(); spawn one(); } }
abbrev pub reducing : List ℕ → List ℕ → ℕ → Item
reducing task reducer word = item.Task (name task) [] (stmt.Do (record (called (codes "a") (codes "reduce") (lit 1 ∷ lit word ∷ [])) { reducer = Some (name reducer) }) ∷ [])

abbrev pub reduced : Program
reduced = program (item.Array (name (codes "a")) (number 2) ∷ reducing (codes "one") (codes "add") 5 ∷ reducing (codes "two") (codes "max") 9
    ∷ main (stmt.Finish (stmt.Spawn place.Here (name (codes "one")) [] ∷ stmt.Spawn place.Here (name (codes "one")) []
    ∷ stmt.Spawn place.Here (name (codes "two")) [] ∷ stmt.Spawn place.Here (name (codes "one")) [] ∷ []) ∷ []) ∷ [])

-- task t() { } task main() { finish { finish { spawn t(); } spawn t(); } }
abbrev pub nested : Program
nested = program (item.Task (name (codes "t")) [] []
    ∷ main (stmt.Finish (stmt.Finish (stmt.Spawn place.Here (name (codes "t")) [] ∷ []) ∷ stmt.Spawn place.Here (name (codes "t")) [] ∷ []) ∷ []) ∷ [])

-- array a[1]; task main() { print 1; let x = a.read(0); print 1 / x; }
abbrev pub trapped : Program
trapped = program (item.Array (name (codes "a")) (number 1)
    ∷ main (stmt.Print (lit 1) ∷ let_be (codes "x") (called (codes "a") (codes "read") (lit 0 ∷ [])) ∷ stmt.Print (expr.Two sign.Div (lit 1) (local (codes "x"))) ∷ []) ∷ [])

-- The histories.

abbrev pub CounterIsComplete : Type 0
CounterIsComplete = complete counter 1 5 counter_history ≡ true

abbrev pub RemoteIsComplete : Type 0
RemoteIsComplete = complete remote 2 5 remote_history ≡ true

abbrev pub WaitsIsComplete : Type 0
WaitsIsComplete = complete waits 2 5 waits_history ≡ true

abbrev pub BatchIsComplete : Type 0
BatchIsComplete = complete batch 1 5 batch_history ≡ true

abbrev pub TurnIsComplete : Type 0
TurnIsComplete = complete turn 2 5 turn_history ≡ true

abbrev pub EnrolledIsComplete : Type 0
EnrolledIsComplete = complete enrolled 2 5 enrolled_history ≡ true

abbrev pub ReducedIsComplete : Type 0
ReducedIsComplete = complete reduced 2 5 reduced_history ≡ true

abbrev pub NestedIsComplete : Type 0
NestedIsComplete = complete nested 1 5 nested_history ≡ true

abbrev pub TrappedIsLegal : Type 0
TrappedIsLegal = legal trapped 1 5 trapped_history ≡ true

-- The scripts.

-- A task, which stands so, makes the actions of a script while it gets these replies, and then ends.
abbrev pub Plays : Program → Script → ℕ → List ℕ → List ℕ → Stands → List Reply → Type 0
Plays text script target args words at [] = at.0 ≡ slice_index_or (script target args words) (length words / 2) action.End
Plays text script target args words at (answer ∷ answers) = (at.0 ≡ slice_index_or (script target args words) (length words / 2) action.End)
    × Plays text script target args (words ++ answer.first ∷ answer.second ∷ []) (next text 5 (go_on at.1 answer)) answers

abbrev pub PlaysFrom : Program → Script → ℕ → List ℕ → List Reply → Type 0
PlaysFrom text script target args answers = Plays text script target args [] (next text 5 (start text target args)) answers

abbrev pub CounterPlays : Type 0
CounterPlays = PlaysFrom counter counter_script 0 [] (one 0 ∷ nothing ∷ [])

abbrev pub RemotePlays : Type 0
RemotePlays = PlaysFrom remote remote_script 0 [] (one 0 ∷ nothing ∷ [])

abbrev pub WaitsPlay : Type 0
WaitsPlay = PlaysFrom waits waits_script 0 (1 ∷ []) (one 0 ∷ []) × PlaysFrom waits waits_script 0 (2 ∷ []) (one 1 ∷ [])
    × PlaysFrom waits waits_script 1 [] (nothing ∷ nothing ∷ nothing ∷ nothing ∷ one 3 ∷ nothing ∷ [])

abbrev pub LoopedPlays : Type 0
LoopedPlays = PlaysFrom looped looped_script 0 (0 ∷ []) (one 0 ∷ []) × PlaysFrom looped looped_script 0 (1 ∷ []) (one 0 ∷ [])
    × PlaysFrom looped looped_script 0 (2 ∷ []) (one 1 ∷ []) × PlaysFrom looped looped_script 0 (3 ∷ []) (one 3 ∷ [])
    × PlaysFrom looped looped_script 1 [] (nothing ∷ [])

abbrev pub BatchPlays : Type 0
BatchPlays = PlaysFrom batch batch_script 0 [] (one 1 ∷ nothing ∷ []) × PlaysFrom batch batch_script 0 [] (one 0 ∷ nothing ∷ [])
    × PlaysFrom batch batch_script 1 [] (nothing ∷ nothing ∷ nothing ∷ nothing ∷ nothing ∷ [])

abbrev pub TurnPlays : Type 0
TurnPlays = PlaysFrom turn turn_script 0 (5 ∷ []) (nothing ∷ []) × PlaysFrom turn turn_script 1 [] (reply 1 5 ∷ nothing ∷ [])
    × PlaysFrom turn turn_script 2 [] (nothing ∷ nothing ∷ nothing ∷ nothing ∷ [])

abbrev pub EnrolledPlays : Type 0
EnrolledPlays = PlaysFrom enrolled enrolled_script 0 [] [] × PlaysFrom enrolled enrolled_script 1 [] (nothing ∷ [])
    × PlaysFrom enrolled enrolled_script 2 [] (nothing ∷ nothing ∷ nothing ∷ nothing ∷ [])

abbrev pub ReducedPlays : Type 0
ReducedPlays = PlaysFrom reduced reduced_script 0 [] (one 0 ∷ []) × PlaysFrom reduced reduced_script 1 [] (one 10 ∷ [])
    × PlaysFrom reduced reduced_script 2 [] (nothing ∷ nothing ∷ nothing ∷ nothing ∷ nothing ∷ nothing ∷ [])

abbrev pub NestedPlays : Type 0
NestedPlays = PlaysFrom nested nested_script 0 [] [] × PlaysFrom nested nested_script 1 [] (nothing ∷ nothing ∷ nothing ∷ nothing ∷ nothing ∷ nothing ∷ [])

abbrev pub TrappedPlays : Type 0
TrappedPlays = PlaysFrom trapped trapped_script 0 [] (nothing ∷ one 0 ∷ [])
