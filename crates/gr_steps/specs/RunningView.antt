-- What a task's stack stands for: its last item is the next to do.
use Rattle.std.specs.Prelude.{List, [], ◌∷◌, fold}
use Rattle.gr_steps.specs.declared.running.Todo.{Todo}
use Rattle.gr_steps.specs.declared.running.Todo.TheVariants as code
use Rattle.gr_lang.specs.Next.{Todo as Due, run, arrive}

-- One thing to do.
abbrev pub due_of : Todo → Due
due_of (code.Run stmt) = run stmt.now
due_of code.Arrive = arrive

-- A thing to do before those below it in the stack.
abbrev pub due_under : List Due → Todo → List Due
due_under below t = due_of t ∷ below

-- All that is to do, in its order.
abbrev pub dues_of : List Todo → List Due
dues_of = fold due_under []
