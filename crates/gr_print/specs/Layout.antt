-- How a program is laid out: one item or statement a line, blocks indented by two blanks, one blank around binary signs, and brackets only where the grouping needs them.
use Rattle.std.specs.Prelude.{ℕ, suc, ◌+◌, Bool, true, false, if◌then◌else◌, nat_le, ◌==◌, List, [], ◌∷◌, ◌++◌, map, replicate, Option, Some, None}
use Rattle.gr_syntax.specs.declared.syntax.Name.{Name}
use Rattle.gr_syntax.specs.declared.syntax.Number.{Number}
use Rattle.gr_syntax.specs.declared.syntax.BinOp.{BinOp}
use Rattle.gr_syntax.specs.declared.syntax.Expr.{Expr}
use Rattle.gr_syntax.specs.declared.syntax.Expr.TheFolds.{fold-Expr}
use Rattle.gr_syntax.specs.declared.syntax.Expr.TheOpen.{Expr-F}
use Rattle.gr_syntax.specs.declared.syntax.CallText.{CallText}
use Rattle.gr_syntax.specs.declared.syntax.Right.{Right}
use Rattle.gr_syntax.specs.declared.syntax.Right.TheVariants as rights
use Rattle.gr_syntax.specs.declared.syntax.HowText.{HowText}
use Rattle.gr_syntax.specs.declared.syntax.HowText.TheVariants as hows
use Rattle.gr_syntax.specs.declared.syntax.Stmt.{Stmt}
use Rattle.gr_syntax.specs.declared.syntax.Stmt.TheFolds.{fold-Stmt}
use Rattle.gr_syntax.specs.declared.syntax.Stmt.TheOpen.{Stmt-F}
use Rattle.gr_syntax.specs.declared.syntax.Item.{Item}
use Rattle.gr_syntax.specs.declared.syntax.Item.TheVariants as items
use Rattle.gr_syntax.specs.declared.syntax.Program.{Program}
use Rattle.gr_text.specs.declared.token.Keyword.TheVariants as keywords
use Rattle.gr_text.specs.declared.token.Sign.{Sign}
use Rattle.gr_text.specs.declared.token.Sign.TheVariants as signs
use Rattle.gr_expressions.specs.Tok.{sign_of, level_of}
use Rattle.gr_expressions.specs.declared.limits.TheConstants.{LOOSEST}
use Rattle.gr_print.specs.Pieces.{Piece, Layout, bytes_of, name, number, key, sign, semicolon, heap, object}

-- ---- lists

-- Each behind a comma and a blank.
abbrev pub behind : List Layout → Layout
behind [] = []
behind (first ∷ others) = sign signs.Comma ∷ Piece.blank ∷ (first ++ behind others)

-- With a comma and a blank between two.
abbrev pub listed : List Layout → Layout
listed [] = []
listed (first ∷ others) = first ++ behind others

-- Names, as targets and parameters.
abbrev pub names : List Name → Layout
names given = listed (map (λ one. name one ∷ []) given)

-- Numbers, as those of an input.
abbrev pub numbers : List Number → Layout
numbers given = listed (map (λ one. number one ∷ []) given)

-- ---- expressions

-- An expression without brackets around it, and the level of its loosest sign: 0 where it has none, else one more than that of the sign.
pub record Shown : Type 0 where
  pub rank : ℕ
  pub bare : Layout

-- A bracket where it is needed.
abbrev pub bracket : Bool → Sign → Layout
bracket needed mark = if needed then sign mark ∷ [] else []

-- With brackets around.
abbrev pub bracketed : Layout → Layout
bracketed inside = bracket true signs.LeftParen ++ (inside ++ bracket true signs.RightParen)

-- Where only signs below this level may stand without brackets.
abbrev pub below : ℕ → Shown → Layout
below level inner = if nat_le inner.rank level then inner.bare else bracketed inner.bare

-- Left of a sign, signs of its own level need no brackets, since they group to the left. Comparisons don't group.
abbrev pub left_level : ℕ → ℕ
left_level level = if level == LOOSEST then LOOSEST else suc level

-- Two operands with a sign between them.
abbrev pub joined : BinOp → Shown → Shown → Layout
joined op one other = below (left_level (level_of op)) one ++ (Piece.blank ∷ sign (sign_of op) ∷ Piece.blank ∷ below (level_of op) other)

-- An expression whose operands are laid out already.
abbrev pub expr_step : Expr-F Shown → Shown
expr_step (Expr-F.Lit value) = record { rank = 0; bare = number value ∷ [] }
expr_step (Expr-F.Local local) = record { rank = 0; bare = name local ∷ [] }
expr_step (Expr-F.Not inner) = record { rank = 0; bare = sign signs.Bang ∷ below 0 inner }
expr_step (Expr-F.Two op one other) = record { rank = suc (level_of op); bare = joined op one other }

-- An expression with its rank.
unfoldable pub shown : Expr → Shown
shown = fold-Expr Shown expr_step

-- Above the level of every sign.
abbrev pub whole : ℕ
whole = suc LOOSEST

-- A whole expression, which needs no brackets.
abbrev pub expr : Expr → Layout
expr value = below whole (shown value)

-- ---- arguments and calls

-- Expressions, as arguments.
abbrev pub exprs : List Expr → Layout
exprs values = listed (map expr values)

-- Arguments in their brackets.
abbrev pub args : List Expr → Layout
args values = sign signs.LeftParen ∷ (exprs values ++ sign signs.RightParen ∷ [])

-- A reducer stands between two blanks.
abbrev pub reducer : Option Name → Layout
reducer None = []
reducer (Some given) = Piece.blank ∷ name given ∷ Piece.blank ∷ []

-- A call: an object, a dot, an operation, and arguments.
abbrev pub call : CallText → Layout
call given = object given.object ∷ sign signs.Dot ∷ name given.op ∷ (reducer given.reducer ++ args given.args)

-- ---- statements

-- What stands right of `=`.
abbrev pub right_side : Right → Layout
right_side (rights.Value value) = expr value
right_side (rights.Result given) = call given

-- Where a new task may run.
abbrev pub start : HowText → Layout
start hows.Here = key keywords.Spawn ∷ []
start (hows.At core) = key keywords.Spawn ∷ Piece.blank ∷ key keywords.At ∷ Piece.blank ∷ expr core
start hows.Offer = key keywords.Offer ∷ []

-- The task that is started, with its arguments.
abbrev pub started : Name → List Expr → Layout
started target values = Piece.blank ∷ name target ∷ (args values ++ semicolon)

-- The head of a `forall`: its bounds and its grain.
abbrev pub range : Expr → Expr → Expr → Layout
range lo hi grain = key keywords.Forall ∷ Piece.blank ∷ (expr lo ++ (Piece.blank ∷ sign signs.DotDot ∷ Piece.blank ∷ (expr hi ++ (Piece.blank ∷ key keywords.Grain ∷ Piece.blank ∷ expr grain))))

-- The word before fresh targets.
abbrev pub let_word : Bool → Layout
let_word true = key keywords.Let ∷ Piece.blank ∷ []
let_word false = []

-- Targets, and what they are set to.
abbrev pub assignment : Bool → List Name → Right → Layout
assignment fresh targets right = let_word fresh ++ (names targets ++ (Piece.blank ∷ sign signs.Assign ∷ Piece.blank ∷ (right_side right ++ semicolon)))

-- A line behind a margin of so many blanks.
abbrev pub line : ℕ → Layout → Layout
line margin pieces = replicate margin Piece.blank ++ (pieces ++ Piece.newline ∷ [])

-- Statements, each in a line with this margin.
abbrev pub lines : List (ℕ → Layout) → ℕ → Layout
lines [] margin = []
lines (first ∷ others) margin = line margin (first margin) ++ lines others margin

-- A block that begins in a line with this margin: its statements have two blanks more, and its brace stands behind the margin.
abbrev pub block : List (ℕ → Layout) → ℕ → Layout
block body margin = sign signs.LeftBrace ∷ Piece.newline ∷ (lines body (margin + 2) ++ (replicate margin Piece.blank ++ sign signs.RightBrace ∷ []))

-- A block behind `else`, or nothing where it is empty.
abbrev pub else_part : List (ℕ → Layout) → ℕ → Layout
else_part [] margin = []
else_part (first ∷ others) margin = Piece.blank ∷ key keywords.Else ∷ Piece.blank ∷ block (first ∷ others) margin

-- A statement that begins in a line with this margin, from its first token to its last. Its blocks' statements are laid out already, each for its margin.
abbrev pub stmt_step : Stmt-F (ℕ → Layout) → ℕ → Layout
stmt_step (Stmt-F.Set1 fresh targets right) margin = assignment fresh targets right
stmt_step (Stmt-F.Do given) margin = call given ++ semicolon
stmt_step (Stmt-F.Print value) margin = key keywords.Print ∷ Piece.blank ∷ (expr value ++ semicolon)
stmt_step (Stmt-F.If test one other) margin = key keywords.If ∷ Piece.blank ∷ (expr test ++ (Piece.blank ∷ (block one margin ++ else_part other margin)))
stmt_step (Stmt-F.While test body) margin = key keywords.While ∷ Piece.blank ∷ (expr test ++ (Piece.blank ∷ block body margin))
stmt_step (Stmt-F.Finish body) margin = key keywords.Finish ∷ Piece.blank ∷ block body margin
stmt_step (Stmt-F.Spawn how target values) margin = start how ++ started target values
stmt_step (Stmt-F.Forall lo hi grain target values) margin = range lo hi grain ++ started target values

-- A statement that begins in a line with this margin.
unfoldable pub stmt : Stmt → ℕ → Layout
stmt = fold-Stmt (ℕ → Layout) stmt_step

-- ---- items and programs

-- The first words of an array.
abbrev pub input : Name → List Number → Layout
input array values = key keywords.Input ∷ Piece.blank ∷ name array ∷ Piece.blank ∷ sign signs.Assign ∷ Piece.blank ∷ (numbers values ++ semicolon)

-- A task with its parameters and body.
abbrev pub task : Name → List Name → List Stmt → Layout
task title params body = key keywords.Task ∷ Piece.blank ∷ name title ∷ sign signs.LeftParen ∷ (names params ++ (sign signs.RightParen ∷ Piece.blank ∷ block (map stmt body) 0))

-- An item, from its first token to its last.
abbrev pub item : Item → Layout
item (items.Array title words) = key keywords.Array ∷ Piece.blank ∷ name title ∷ sign signs.LeftBracket ∷ number words ∷ sign signs.RightBracket ∷ semicolon
item (items.Set title) = key keywords.Set ∷ Piece.blank ∷ name title ∷ semicolon
item (items.Map title) = key keywords.Map ∷ Piece.blank ∷ name title ∷ semicolon
item (items.Vector title) = key keywords.Vector ∷ Piece.blank ∷ name title ∷ semicolon
item (items.Heap words) = heap ∷ Piece.blank ∷ number words ∷ semicolon
item (items.Show title) = key keywords.Show ∷ Piece.blank ∷ name title ∷ semicolon
item (items.Input array values) = input array values
item (items.Task title params body) = task title params body

-- Each item in a line that has no margin.
abbrev pub program : List Item → Layout
program [] = []
program (first ∷ others) = line 0 (item first) ++ program others

-- The text of a program.
abbrev pub program_text : Program → List ℕ
program_text given = bytes_of (program given.items)
