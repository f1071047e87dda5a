-- What one turn of a task does, and the first words of its locals.
use Rattle.std.specs.Prelude.{◌≡◌, ℕ, ◌-◌, Bool, true, false, List, ◌++◌, length, take, replicate, Some, None}
use Rattle.gr_lang.specs.Next.{Running, Look, pure, acts}
use Rattle.gr_code.specs.Points.{Lowered, point_at}
use Rattle.gr_task.specs.declared.task.Turn.{Turn}
use Rattle.gr_task.specs.declared.task.Turn.TheVariants as turn
use Rattle.gr_task.specs.States.{Task}

-- The task has a word for each local at its point.
abbrev pub HasWords : Lowered → Task → Type 0
HasWords code task = length task.words ≡ length (point_at code.points task.at).names

-- Whether a pure step stands first.
abbrev pub is_pure : Look → Bool
is_pure (pure u) = true
is_pure (acts a) = false

-- What one turn came to: a pure step is made only where it may be.
abbrev pub Turns : Bool → Look → Running → Turn → Running → Type 0
Turns may_move look old turn.Moved new = (may_move ≡ true) × (look ≡ pure (Some new))
Turns may_move look old turn.Divided new = (may_move ≡ true) × (look ≡ pure None) × (new ≡ old)
Turns may_move look old turn.Limit new = (may_move ≡ false) × (is_pure look ≡ true) × (new ≡ old)
Turns may_move look old (turn.Acts action) new = (look ≡ acts action) × (new ≡ old)

-- So many first words; 0 where there are no more.
abbrev pub first_of : ℕ → List ℕ → List ℕ
first_of count words = take count words ++ replicate (count - length words) 0
