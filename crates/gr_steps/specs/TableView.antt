-- What the tables of a program stand for.
use Rattle.std.specs.Prelude.{◌≡◌, ℕ, Bool, false, nat_lt, Option, Some, None, List, [], ◌∷◌, ◌++◌, map}
use Rattle.gr_steps.specs.declared.table.TaskRow.{TaskRow}
use Rattle.gr_steps.specs.HeapRanges.{IsHeap}
use Rattle.gr_steps.specs.declared.table.Table.TheInside.{Inside}
use Rattle.gr_syntax.specs.declared.syntax.Item.{Item}
use Rattle.gr_syntax.specs.declared.syntax.Item.TheVariants as i
use Rattle.gr_syntax.specs.declared.syntax.Stmt.{Stmt}
use Rattle.gr_syntax.specs.Items.{TaskText, tasks_of}
use Rattle.gr_lang.specs.Next.{Running, given, lets_of, runs}

-- A task of the text: the names of its locals, and its body.
pub record Known : Type 0 where
  pub locals : List (List ℕ)
  pub body : List Stmt

-- A task of the table.
abbrev pub row_of : TaskRow → Known
row_of r = record { locals = map (λ n. n.now) r.locals.items; body = r.body.now }

-- A task with its locals: its parameters, then what its body gives.
abbrev pub known_of : TaskText → Known
known_of t = record { locals = t.params ++ lets_of t.body; body = t.body }

-- The tasks in their order.
abbrev pub knowns_of : List TaskText → List Known
knowns_of = map known_of

-- A task of the table, at its start.
abbrev pub started : Option Known → List ℕ → Running
started None ws = record { todo = []; locals = [] }
started (Some t) ws = record { todo = runs t.body; locals = given t.locals ws }

-- The number of places of each object: an array has places, and no other object has.
abbrev pub reaches_of : List Item → List ℕ
reaches_of [] = []
reaches_of (i.Array name words ∷ more) = words.value ∷ reaches_of more
reaches_of (i.Set name ∷ more) = 0 ∷ reaches_of more
reaches_of (i.Map name ∷ more) = 0 ∷ reaches_of more
reaches_of (i.Vector name ∷ more) = 0 ∷ reaches_of more
reaches_of (_ ∷ more) = reaches_of more

-- Whether the place is below the number of places.
abbrev pub within : Option ℕ → ℕ → Bool
within None place = false
within (Some reach) place = nat_lt place reach

-- The tables are those of the program.
pub record IsTable (t : Inside) : Type 0 where
  pub reaches : t.reaches.items ≡ reaches_of t.names.items
  pub tasks : map row_of t.tasks.items ≡ knowns_of (tasks_of t.names.items)
  pub heap : IsHeap t.heap t.names
