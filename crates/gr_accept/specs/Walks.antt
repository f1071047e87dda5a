-- The sites of a task's text, each with the names that the task has before it and those that are visible there.
use Rattle.std.specs.Prelude.{ℕ, ◌+◌, Bool, true, false, List, [], ◌∷◌, ◌++◌, length}
use Rattle.gr_syntax.specs.declared.syntax.Name.{Name}
use Rattle.gr_syntax.specs.declared.syntax.CallText.{CallText}
use Rattle.gr_syntax.specs.declared.syntax.Expr.{Expr, fold-Expr}
use Rattle.gr_syntax.specs.declared.syntax.Expr.TheOpen.{Expr-F}
use Rattle.gr_syntax.specs.declared.syntax.Right.{Right}
use Rattle.gr_syntax.specs.declared.syntax.Right.TheVariants as right
use Rattle.gr_syntax.specs.declared.syntax.HowText.{HowText}
use Rattle.gr_syntax.specs.declared.syntax.HowText.TheVariants as place
use Rattle.gr_syntax.specs.declared.syntax.Stmt.{Stmt, fold-Stmt}
use Rattle.gr_syntax.specs.declared.syntax.Stmt.TheOpen.{Stmt-F}
use Rattle.gr_syntax.specs.Names.{with_name}
use Rattle.gr_accept.specs.Sites.{Site, gives, mentions, calls, starts}

-- Parts that give no names: their sites where these names are visible.

abbrev pub expr_step : List (List ℕ) → Expr-F (List Site) → List Site
expr_step visible (Expr-F.Lit number) = []
expr_step visible (Expr-F.Local name) = mentions name visible ∷ []
expr_step visible (Expr-F.Not inner) = inner
expr_step visible (Expr-F.Two op left right) = left ++ right

-- Each local that an expression reads.
unfoldable pub expr_sites : List (List ℕ) → Expr → List Site
expr_sites visible = fold-Expr (List Site) (expr_step visible)

abbrev pub exprs_sites : List (List ℕ) → List Expr → List Site
exprs_sites visible [] = []
exprs_sites visible (e ∷ es) = expr_sites visible e ++ exprs_sites visible es

-- Each local that is assigned without `let`.
abbrev pub locals_sites : List (List ℕ) → List Name → List Site
locals_sites visible [] = []
locals_sites visible (n ∷ ns) = mentions n visible ∷ locals_sites visible ns

abbrev pub call_sites : List Name → CallText → List (List ℕ) → List Site
call_sites targets call visible = calls call targets ∷ exprs_sites visible call.args

abbrev pub right_sites : List Name → Right → List (List ℕ) → List Site
right_sites targets (right.Value value) visible = expr_sites visible value
right_sites targets (right.Result call) visible = call_sites targets call visible

abbrev pub how_sites : HowText → List (List ℕ) → List Site
how_sites place.Here visible = []
how_sites (place.At core) visible = expr_sites visible core
how_sites place.Offer visible = []

-- A task that is started has the words of the arguments.
abbrev pub spawn_sites : HowText → Name → List Expr → List (List ℕ) → List Site
spawn_sites how target args visible = how_sites how visible ++ (starts target (length args) ∷ exprs_sites visible args)

-- The task of a `forall` has one word more: the index.
abbrev pub forall_sites : Expr → Expr → Expr → Name → List Expr → List (List ℕ) → List Site
forall_sites lo hi grain target args visible =
    expr_sites visible lo ++ (expr_sites visible hi ++ (expr_sites visible grain ++ (starts target (length args + 1) ∷ exprs_sites visible args)))

-- Parts that may give names.

-- What a task's names are at a place of its text.
pub record LexicalScope : Type 0 where
  pub named : List (List ℕ)  -- the names that the task has so far
  pub visible : List (List ℕ)  -- those of them that are visible

-- The sites of a part, and the scope after it.
pub record Seen : Type 0 where
  pub sites : List Site
  pub scope : LexicalScope

-- A part of a task's text: what is seen in it, from the scope in front of it.
abbrev pub Part : Type 0
Part = LexicalScope → Seen

-- A part that gives no name.
abbrev pub only : (List (List ℕ) → List Site) → Part
only f s = record { sites = f s.visible; scope = s }

-- One part, then another in the scope after it.
abbrev pub both : Part → Part → Part
both f g s = record { sites = (f s).sites ++ (g (f s).scope).sites; scope = (g (f s).scope).scope }

-- Some parts, one after another.
abbrev pub all : List Part → Part
all [] = only (λ visible. [])
all (f ∷ fs) = both f (all fs)

-- The names that a block gives stay the task's, and are visible to the end of the block.
abbrev pub closed : Part → Part
closed f s = record { sites = (f s).sites; scope = record { named = (f s).scope.named; visible = s.visible } }

abbrev pub block : List Part → Part
block fs = closed (all fs)

-- A parameter or `let` target gives its name.
abbrev pub given : Name → Part
given n s = record {
  sites = gives n s.named ∷ [];
  scope = record { named = with_name s.named n.text; visible = with_name s.visible n.text };
}

abbrev pub givens : List Name → Part
givens [] = only (λ visible. [])
givens (n ∷ ns) = both (given n) (givens ns)

-- The targets of an assignment: `let` gives them, else they are locals of the task.
abbrev pub targets : Bool → List Name → Part
targets true names = givens names
targets false names = only (λ visible. locals_sites visible names)

-- A statement, of whose blocks the statements are looked at already. The right side of `=` comes before the targets, so a
-- `let` name is visible from the end of its statement.
abbrev pub stmt_step : Stmt-F Part → Part
stmt_step (Stmt-F.Set1 fresh names right) = both (only (right_sites names right)) (targets fresh names)
stmt_step (Stmt-F.Do call) = only (call_sites [] call)
stmt_step (Stmt-F.Print value) = only (λ visible. expr_sites visible value)
stmt_step (Stmt-F.If test one other) = both (only (λ visible. expr_sites visible test)) (both (block one) (block other))
stmt_step (Stmt-F.While test body) = both (only (λ visible. expr_sites visible test)) (block body)
stmt_step (Stmt-F.Finish body) = block body
stmt_step (Stmt-F.Spawn how target args) = only (spawn_sites how target args)
stmt_step (Stmt-F.Forall lo hi grain target args) = only (forall_sites lo hi grain target args)

unfoldable pub stmt : Stmt → Part
stmt = fold-Stmt Part stmt_step

abbrev pub stmts : List Stmt → Part
stmts [] = only (λ visible. [])
stmts (s ∷ ss) = both (stmt s) (stmts ss)

-- A task's parameters are visible in its whole body.
abbrev pub body_look : List Name → List Stmt → Part
body_look params body = both (givens params) (stmts body)

abbrev pub body_sites : List Name → List Stmt → List Site
body_sites params body = (body_look params body (record { named = []; visible = [] })).sites
