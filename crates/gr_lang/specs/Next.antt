-- A task's next action: it makes pure steps, an assignment of an expression or a test, until an action or a trap stands next.
use Rattle.std.specs.Prelude.{ℕ, zero, suc, ◌==◌, Bool, true, if◌then◌else◌, List, [], ◌∷◌, ◌++◌, map, slice_get, Option, Some, None, unwrap_or, is_some}
use Rattle.std.specs.Option.{option_map, option_map_or}
use Rattle.gr_syntax.specs.declared.syntax.Stmt.{Stmt, out-Stmt, fold-Stmt}
use Rattle.gr_syntax.specs.declared.syntax.Stmt.TheOpen.{Stmt-F}
use Rattle.gr_syntax.specs.declared.syntax.Expr.{Expr}
use Rattle.gr_syntax.specs.declared.syntax.Name.{Name}
use Rattle.gr_syntax.specs.declared.syntax.Right.{Right}
use Rattle.gr_syntax.specs.declared.syntax.Right.TheVariants as right
use Rattle.gr_syntax.specs.declared.syntax.HowText.{HowText}
use Rattle.gr_syntax.specs.declared.syntax.HowText.TheVariants as place
use Rattle.gr_syntax.specs.declared.syntax.CallText.{CallText}
use Rattle.gr_syntax.specs.declared.syntax.Program.{Program}
use Rattle.gr_accept.specs.declared.operation.Operation.{Operation}
use Rattle.gr_lang.specs.declared.action.Op.{Op}
use Rattle.gr_lang.specs.declared.action.Op.TheVariants as op
use Rattle.gr_lang.specs.declared.action.How.{How}
use Rattle.gr_lang.specs.declared.action.How.TheVariants as how
use Rattle.gr_lang.specs.declared.action.Action.{Action}
use Rattle.gr_lang.specs.declared.action.Action.TheVariants as action
use Rattle.gr_lang.specs.declared.action.TrapKind.TheVariants as trap
use Rattle.gr_lang.specs.declared.action.Reply.{Reply}
use Rattle.gr_lang.specs.Locals.{Locals, set_word}
use Rattle.gr_lang.specs.Expressions.{value, values}
use Rattle.gr_accept.specs.Operations.{operation_of, reducer_of}
use Rattle.gr_lang.specs.Parts.{op_of}
use Rattle.gr_lang.specs.Objects.{address, Objects}
use Rattle.gr_syntax.specs.Items.{TaskText, tasks_of, texts}
use Rattle.gr_lang.specs.Openings.{object_of, target_of, opening}

-- What is to do: a statement, or the end of a `finish`.
pub data Todo : Type 0 where
  run : Stmt → Todo
  arrive : Todo

-- A task's state: what is left to do, and the words of its locals.
pub record Running : Type 0 where
  pub todo : List Todo
  pub locals : Locals

abbrev pub runs : List Stmt → List Todo
runs = map run

-- Targets take words from left to right.
abbrev pub set_all : Locals → List Name → List ℕ → Locals
set_all locals [] words = locals
set_all locals (n ∷ ns) [] = locals
set_all locals (n ∷ ns) (word ∷ words) = set_all (set_word locals n.text word) ns words

-- The number of the reducer that a call names; 0 where it names none.
abbrev pub reducer_number : Option Name → ℕ
reducer_number name = option_map_or (λ n. unwrap_or (reducer_of n.text) 0) name 0

-- Whether a word call's place is in its object; a call without a place always fits.
abbrev pub fits : Objects → Op → Bool
fits all (op.Read object place) = is_some (address all object place)
fits all (op.Write object place word) = is_some (address all object place)
fits all (op.Add object place word) = is_some (address all object place)
fits all (op.Cas object place old new) = is_some (address all object place)
fits all (op.Reduce object reducer place word) = is_some (address all object place)
fits all _ = true

-- An action with evaluated words, or the trap of a zero divisor.
abbrev pub acted : (List ℕ → Action) → Option (List ℕ) → Action
acted f None = action.Trap trap.Div
acted f (Some words) = f words

-- The call, or the trap of a place outside the object.
abbrev pub if_fits : Program → Op → Action
if_fits program op = if fits (opening program) op then action.Call op else action.Trap trap.Place

-- An accepted program names an operation in each of its calls; elsewhere a call is a trap, so that a task ends at the end of its body alone.
abbrev pub named_action : Program → Option Operation → ℕ → ℕ → List ℕ → Action
named_action program None object reducer words = action.Trap trap.Place
named_action program (Some operation) object reducer words = if_fits program (op_of operation object reducer words)

abbrev pub call_action : Program → Locals → CallText → Action
call_action program locals call = acted (named_action program (operation_of call.op.text) (object_of program call.object.text) (reducer_number call.reducer)) (values locals call.args)

abbrev pub print_action : Locals → Expr → Action
print_action locals expr = option_map_or (λ word. action.Call (op.Print word)) (value locals expr) (action.Trap trap.Div)

abbrev pub how_of : Locals → HowText → Option How
how_of locals place.Here = Some how.Here
how_of locals (place.At core) = option_map (λ word. how.At word) (value locals core)
how_of locals place.Offer = Some how.Offer

-- A spawn's core is evaluated before its arguments.
abbrev pub spawn_action : Program → Locals → Option How → Name → List Expr → Action
spawn_action program locals None target args = action.Trap trap.Div
spawn_action program locals (Some way) target args = acted (λ words. action.Spawn way (target_of program target.text) words) (values locals args)

-- A grain of 0 counts as 1.
abbrev pub loop_action : Program → Name → List ℕ → Action
loop_action program target (lo ∷ hi ∷ grain ∷ words) = action.Loop lo hi (if grain == 0 then 1 else grain) (target_of program target.text) words
loop_action program target _ = action.Trap trap.Place

-- What stands first: a pure step, which gives nothing where it divides by 0, or an action.
pub data Look : Type 0 where
  pure : Option Running → Look
  acts : Action → Look

abbrev pub look_set : Program → Running → List Todo → List Name → Right → Look
look_set program running rest targets (right.Value expr) = pure (option_map (λ word. record { todo = rest; locals = set_all running.locals targets (word ∷ []) }) (value running.locals expr))
look_set program running rest targets (right.Result call) = acts (call_action program running.locals call)

abbrev pub look_if : Running → List Todo → Expr → List Stmt → List Stmt → Look
look_if running rest test one other = pure (option_map (λ word. record { todo = runs (if word == 0 then other else one) ++ rest; locals = running.locals }) (value running.locals test))

-- A loop whose test holds does its body and then stands there again.
abbrev pub look_while : Running → List Todo → Expr → List Stmt → Look
look_while running rest test body = pure (option_map (λ word. record { todo = if word == 0 then rest else runs body ++ running.todo; locals = running.locals }) (value running.locals test))

abbrev pub look_at : Program → Running → List Todo → Stmt-F Stmt → Look
look_at program running rest (Stmt-F.Set1 fresh targets right) = look_set program running rest targets right
look_at program running rest (Stmt-F.Do call) = acts (call_action program running.locals call)
look_at program running rest (Stmt-F.Print expr) = acts (print_action running.locals expr)
look_at program running rest (Stmt-F.If test one other) = look_if running rest test one other
look_at program running rest (Stmt-F.While test body) = look_while running rest test body
look_at program running rest (Stmt-F.Finish body) = acts action.Finish
look_at program running rest (Stmt-F.Spawn way target args) = acts (spawn_action program running.locals (how_of running.locals way) target args)
look_at program running rest (Stmt-F.Forall lo hi grain target args) = acts (acted (loop_action program target) (values running.locals (lo ∷ hi ∷ grain ∷ args)))

abbrev pub look_todo : Program → Running → List Todo → Look
look_todo program running [] = acts action.End
look_todo program running (arrive ∷ rest) = acts action.Arrive
look_todo program running (run s ∷ rest) = look_at program running rest (out-Stmt s)

unfoldable pub look : Program → Running → Look
look program running = look_todo program running running.todo

-- An action, and the state in which it stands.
abbrev pub Stands : Type 0
Stands = Action × Running

-- Where no pure step is left, a pure step is the trap of the limit.
abbrev pub at_limit : Running → Look → Stands
at_limit running (acts action) = (action, running)
at_limit running (pure u) = (action.Trap trap.Steps, running)

abbrev pub after_look : (Running → Stands) → Running → Look → Stands
after_look f running (acts action) = (action, running)
after_look f running (pure None) = (action.Trap trap.Div, running)
after_look f running (pure (Some u)) = f u

-- The next action, after at most so many pure steps.
unfoldable pub next : Program → ℕ → Running → Stands
next program zero running = at_limit running (look program running)
next program (suc left) running = after_look (next program left) running (look program running)

-- How a task goes on after the action at which it stands: the targets take the reply's words, a `finish` is entered.
abbrev pub reply_words : Reply → List ℕ
reply_words word = word.first ∷ word.second ∷ []

abbrev pub go_on_at : Running → List Todo → Reply → Stmt-F Stmt → Running
go_on_at running rest word (Stmt-F.Set1 fresh targets right) = record { todo = rest; locals = set_all running.locals targets (reply_words word) }
go_on_at running rest word (Stmt-F.Finish body) = record { todo = runs body ++ (arrive ∷ rest); locals = running.locals }
go_on_at running rest word _ = record { todo = rest; locals = running.locals }

abbrev pub go_on_todo : Running → List Todo → Reply → Running
go_on_todo running [] word = running
go_on_todo running (arrive ∷ rest) word = record { todo = rest; locals = running.locals }
go_on_todo running (run s ∷ rest) word = go_on_at running rest word (out-Stmt s)

unfoldable pub go_on : Running → Reply → Running
go_on running word = go_on_todo running running.todo word

abbrev pub joined : {A : Type 0} → List (List A) → List A
joined [] = []
joined (xs ∷ more) = xs ++ joined more

-- The names that statements give with `let`, in the order of the text.
abbrev pub lets_step : Stmt-F (List (List ℕ)) → List (List ℕ)
lets_step (Stmt-F.Set1 fresh targets right) = if fresh then texts targets else []
lets_step (Stmt-F.If test one other) = joined one ++ joined other
lets_step (Stmt-F.While test body) = joined body
lets_step (Stmt-F.Finish body) = joined body
lets_step _ = []

abbrev pub lets : Stmt → List (List ℕ)
lets = fold-Stmt (List (List ℕ)) lets_step

abbrev pub lets_of : List Stmt → List (List ℕ)
lets_of ss = joined (map lets ss)

-- Names with their first words; a name without a word has 0.
abbrev pub given : List (List ℕ) → List ℕ → Locals
given [] words = []
given (name ∷ names) [] = (name, 0) ∷ given names []
given (name ∷ names) (word ∷ words) = (name, word) ∷ given names words

abbrev pub start_at : Option TaskText → List ℕ → Running
start_at None words = record { todo = []; locals = [] }
start_at (Some running) words = record { todo = runs running.body; locals = given (running.params ++ lets_of running.body) words }

-- How the task of this number starts with these arguments.
unfoldable pub start : Program → ℕ → List ℕ → Running
start program target words = start_at (slice_get (tasks_of program.items) target) words
