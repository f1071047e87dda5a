-- What one turn of a task does.
use Rattle.std.specs.Prelude.{◌≡◌, Bool, true, false, List, [], ◌∷◌, Some, None}
use Rattle.gr_lang.specs.Next.{Todo as Due, Running, run, arrive, Look, pure, acts}
use Rattle.gr_steps.specs.declared.running.Top.{Top}
use Rattle.gr_steps.specs.declared.running.Top.TheVariants as top
use Rattle.gr_steps.specs.declared.running.Turn.{Turn}
use Rattle.gr_steps.specs.declared.running.Turn.TheVariants as turn

-- All but the first thing to do.
abbrev pub tail_of : List Due → List Due
tail_of [] = []
tail_of (t ∷ ts) = ts

-- which thing stands first
abbrev pub IsTop : Top → List Due → Type 0
IsTop top.End todo = todo ≡ []
IsTop top.Arrive todo = todo ≡ arrive ∷ tail_of todo
IsTop (top.Run stmt) todo = todo ≡ run stmt.now ∷ tail_of todo

-- Whether a pure step stands first.
abbrev pub is_pure : Look → Bool
is_pure (pure u) = true
is_pure (acts a) = false

-- What one turn came to: a pure step is made only where it may be.
abbrev pub Turns : Bool → Look → Running → Turn → Running → Type 0
Turns may_move look old turn.Moved new = (may_move ≡ true) × (look ≡ pure (Some new))
Turns may_move look old turn.Divided new = (may_move ≡ true) × (look ≡ pure None) × (new ≡ old)
Turns may_move look old turn.Limit new = (may_move ≡ false) × (is_pure look ≡ true) × (new ≡ old)
Turns may_move look old (turn.Acts action) new = (look ≡ acts action) × (new ≡ old)
