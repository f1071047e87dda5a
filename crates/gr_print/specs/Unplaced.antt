-- Programs and tokens without their places: two programs are the same but for places where these are equal.
use Rattle.std.specs.Prelude.{◌≡◌, map}
use Rattle.std.specs.Option.{option_map}
use Rattle.gr_syntax.specs.declared.syntax.Place.{Place}
use Rattle.gr_syntax.specs.declared.syntax.Name.{Name}
use Rattle.gr_syntax.specs.declared.syntax.Number.{Number}
use Rattle.gr_syntax.specs.declared.syntax.Expr.{Expr}
use Rattle.gr_syntax.specs.declared.syntax.Expr.TheFolds.{fold-Expr}
use Rattle.gr_syntax.specs.declared.syntax.Expr.TheOpen.{Expr-F}
use Rattle.gr_syntax.specs.declared.syntax.Expr.TheVariants as exprs
use Rattle.gr_syntax.specs.declared.syntax.CallText.{CallText}
use Rattle.gr_syntax.specs.declared.syntax.Right.{Right}
use Rattle.gr_syntax.specs.declared.syntax.Right.TheVariants as rights
use Rattle.gr_syntax.specs.declared.syntax.HowText.{HowText}
use Rattle.gr_syntax.specs.declared.syntax.HowText.TheVariants as hows
use Rattle.gr_syntax.specs.declared.syntax.Stmt.{Stmt}
use Rattle.gr_syntax.specs.declared.syntax.Stmt.TheFolds.{fold-Stmt}
use Rattle.gr_syntax.specs.declared.syntax.Stmt.TheOpen.{Stmt-F}
use Rattle.gr_syntax.specs.declared.syntax.Stmt.TheVariants as stmts
use Rattle.gr_syntax.specs.declared.syntax.Item.{Item}
use Rattle.gr_syntax.specs.declared.syntax.Item.TheVariants as items
use Rattle.gr_syntax.specs.declared.syntax.Program.{Program}
use Rattle.gr_expressions.specs.Tok.{Tok}

-- The one place that stands for every place.
abbrev pub nowhere : Place
nowhere = record { line = 1; column = 1 }

-- A name without its place.
abbrev pub unplaced_name : Name → Name
unplaced_name name = record { text = name.text; at = nowhere }

-- A number without its place.
abbrev pub unplaced_number : Number → Number
unplaced_number number = record { value = number.value; at = nowhere }

-- A token without the place that it keeps, if it keeps one.
abbrev pub unplaced_tok : Tok → Tok
unplaced_tok (Tok.name given) = Tok.name (unplaced_name given)
unplaced_tok (Tok.number given) = Tok.number (unplaced_number given)
unplaced_tok (Tok.heap at) = Tok.heap nowhere
unplaced_tok (Tok.key word) = Tok.key word
unplaced_tok (Tok.sign mark) = Tok.sign mark
unplaced_tok Tok.missing = Tok.missing

-- An expression of which the operands have no places any more.
abbrev pub unplaced_expr_step : Expr-F Expr → Expr
unplaced_expr_step (Expr-F.Lit number) = exprs.Lit (unplaced_number number)
unplaced_expr_step (Expr-F.Local name) = exprs.Local (unplaced_name name)
unplaced_expr_step (Expr-F.Not inner) = exprs.Not inner
unplaced_expr_step (Expr-F.Two op one other) = exprs.Two op one other

-- An expression without the places of its names and numbers.
unfoldable pub unplaced_expr : Expr → Expr
unplaced_expr = fold-Expr Expr unplaced_expr_step

-- A call without the places of its names and arguments.
abbrev pub unplaced_call : CallText → CallText
unplaced_call call = record { object = unplaced_name call.object; op = unplaced_name call.op; reducer = option_map unplaced_name call.reducer; args = map unplaced_expr call.args }

-- What stands right of `=`, without places.
abbrev pub unplaced_right : Right → Right
unplaced_right (rights.Value value) = rights.Value (unplaced_expr value)
unplaced_right (rights.Result call) = rights.Result (unplaced_call call)

-- Where a new task may run, without places.
abbrev pub unplaced_how : HowText → HowText
unplaced_how hows.Here = hows.Here
unplaced_how (hows.At core) = hows.At (unplaced_expr core)
unplaced_how hows.Offer = hows.Offer

-- A statement of which the blocks have no places any more.
abbrev pub unplaced_stmt_step : Stmt-F Stmt → Stmt
unplaced_stmt_step (Stmt-F.Set1 fresh targets right) = stmts.Set1 fresh (map unplaced_name targets) (unplaced_right right)
unplaced_stmt_step (Stmt-F.Do call) = stmts.Do (unplaced_call call)
unplaced_stmt_step (Stmt-F.Print value) = stmts.Print (unplaced_expr value)
unplaced_stmt_step (Stmt-F.If test one other) = stmts.If (unplaced_expr test) one other
unplaced_stmt_step (Stmt-F.While test body) = stmts.While (unplaced_expr test) body
unplaced_stmt_step (Stmt-F.Finish body) = stmts.Finish body
unplaced_stmt_step (Stmt-F.Spawn how target args) = stmts.Spawn (unplaced_how how) (unplaced_name target) (map unplaced_expr args)
unplaced_stmt_step (Stmt-F.Forall lo hi grain target args) = stmts.Forall (unplaced_expr lo) (unplaced_expr hi) (unplaced_expr grain) (unplaced_name target) (map unplaced_expr args)

-- A statement without places.
unfoldable pub unplaced_stmt : Stmt → Stmt
unplaced_stmt = fold-Stmt Stmt unplaced_stmt_step

-- An item without places.
abbrev pub unplaced_item : Item → Item
unplaced_item (items.Array name words) = items.Array (unplaced_name name) (unplaced_number words)
unplaced_item (items.Set name) = items.Set (unplaced_name name)
unplaced_item (items.Map name) = items.Map (unplaced_name name)
unplaced_item (items.Vector name) = items.Vector (unplaced_name name)
unplaced_item (items.Heap words) = items.Heap (unplaced_number words)
unplaced_item (items.Show name) = items.Show (unplaced_name name)
unplaced_item (items.Input name values) = items.Input (unplaced_name name) (map unplaced_number values)
unplaced_item (items.Task name params body) = items.Task (unplaced_name name) (map unplaced_name params) (map unplaced_stmt body)

-- A program without places, that of its end included.
abbrev pub unplaced : Program → Program
unplaced program = record { items = map unplaced_item program.items; end = nowhere }

-- The programs are the same but for places.
abbrev pub SameButForPlaces : Program → Program → Type 0
SameButForPlaces one other = unplaced one ≡ unplaced other
