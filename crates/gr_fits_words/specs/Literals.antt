-- What is asked of the numbers of a program: each is a word. The reader of texts gives no others.
use Rattle.std.specs.Prelude.{◌≡◌, ◌+◌, ◌≤◌, ◌^◌, Bool, true, ◌&&◌, nat_lt, List, [], ◌∷◌, map}
use Rattle.gr_syntax.specs.declared.syntax.Expr.{Expr, fold-Expr}
use Rattle.gr_syntax.specs.declared.syntax.Expr.TheOpen.{Expr-F}
use Rattle.gr_syntax.specs.declared.syntax.Number.{Number}
use Rattle.gr_syntax.specs.declared.syntax.Right.{Right}
use Rattle.gr_syntax.specs.declared.syntax.Right.TheVariants as right
use Rattle.gr_syntax.specs.declared.syntax.HowText.{HowText}
use Rattle.gr_syntax.specs.declared.syntax.HowText.TheVariants as place
use Rattle.gr_syntax.specs.declared.syntax.Stmt.{Stmt, fold-Stmt}
use Rattle.gr_syntax.specs.declared.syntax.Stmt.TheOpen.{Stmt-F}
use Rattle.gr_syntax.specs.declared.syntax.Item.{Item}
use Rattle.gr_syntax.specs.declared.syntax.Item.TheVariants as item
use Rattle.gr_syntax.specs.declared.syntax.Program.{Program}
use Rattle.gr_lang.specs.Openings.{heap_of}

-- All of these hold.
abbrev pub all_hold : List Bool → Bool
all_hold [] = true
all_hold (b ∷ more) = b && all_hold more

-- The number is a word.
abbrev pub number_fits : Number → Bool
number_fits number = nat_lt number.value (2 ^ 64)

-- So is each number of an expression, of some, of what stands right of `=` and of where a task may run.
abbrev pub expr_step : Expr-F Bool → Bool
expr_step (Expr-F.Lit number) = number_fits number
expr_step (Expr-F.Local name) = true
expr_step (Expr-F.Not inner) = inner
expr_step (Expr-F.Two sign one other) = one && other

abbrev pub expr_fits : Expr → Bool
expr_fits = fold-Expr Bool expr_step

abbrev pub exprs_fit : List Expr → Bool
exprs_fit [] = true
exprs_fit (expr ∷ more) = expr_fits expr && exprs_fit more

abbrev pub right_fits : Right → Bool
right_fits (right.Value expr) = expr_fits expr
right_fits (right.Result call) = exprs_fit call.args

abbrev pub how_fits : HowText → Bool
how_fits (place.At core) = expr_fits core
how_fits _ = true

-- So is each number of a statement.
abbrev pub stmt_step : Stmt-F Bool → Bool
stmt_step (Stmt-F.Set1 fresh targets right) = right_fits right
stmt_step (Stmt-F.Do call) = exprs_fit call.args
stmt_step (Stmt-F.Print expr) = expr_fits expr
stmt_step (Stmt-F.If test one other) = expr_fits test && (all_hold one && all_hold other)
stmt_step (Stmt-F.While test body) = expr_fits test && all_hold body
stmt_step (Stmt-F.Finish body) = all_hold body
stmt_step (Stmt-F.Spawn way target args) = how_fits way && exprs_fit args
stmt_step (Stmt-F.Forall lo hi grain target args) = exprs_fit (lo ∷ hi ∷ grain ∷ args)

abbrev pub stmt_fits : Stmt → Bool
stmt_fits = fold-Stmt Bool stmt_step

abbrev pub stmts_fit : List Stmt → Bool
stmts_fit body = all_hold (map stmt_fits body)

-- So is each number of an input, and of a task's body.
abbrev pub item_fits : Item → Bool
item_fits (item.Input of values) = all_hold (map number_fits values)
item_fits (item.Task name params body) = stmts_fit body
item_fits _ = true

abbrev pub items_fit : List Item → Bool
items_fit [] = true
items_fit (item ∷ more) = item_fits item && items_fit more

-- The numbers of the program's inputs and tasks are words; and so are the addresses of its heap, which lies behind its arrays.
pub record LiteralsFit (program : Program) : Type 0 where
  pub numbers : items_fit program.items ≡ true
  pub heap : (heap_of program).from + (heap_of program).count ≤ 2 ^ 64
