-- Whether each assignment of a program has as many targets as the grammar gives it.
use Rattle.std.specs.Prelude.{◌==◌, Bool, true, ◌&&◌, ◌||◌, List, length}
use Rattle.std.specs.List.{list_all}
use Rattle.gr_syntax.specs.declared.syntax.Item.{Item}
use Rattle.gr_syntax.specs.declared.syntax.Item.TheVariants as item
use Rattle.gr_syntax.specs.declared.syntax.Name.{Name}
use Rattle.gr_syntax.specs.declared.syntax.Program.{Program}
use Rattle.gr_syntax.specs.declared.syntax.Right.{Right}
use Rattle.gr_syntax.specs.declared.syntax.Right.TheVariants as right
use Rattle.gr_syntax.specs.declared.syntax.Stmt.{Stmt, fold-Stmt}
use Rattle.gr_syntax.specs.declared.syntax.Stmt.TheOpen.{Stmt-F}

-- One target before an expression, and one or two before a call.
abbrev pub fit : List Name → Right → Bool
fit targets (right.Value value) = length targets == 1
fit targets (right.Result call) = (length targets == 1) || (length targets == 2)

-- A statement, of whose blocks it is known which statements fit.
abbrev pub fit_step : Stmt-F Bool → Bool
fit_step (Stmt-F.Set1 fresh targets right) = fit targets right
fit_step (Stmt-F.If test one other) = list_all (λ b. b) one && list_all (λ b. b) other
fit_step (Stmt-F.While test body) = list_all (λ b. b) body
fit_step (Stmt-F.Finish body) = list_all (λ b. b) body
fit_step _ = true

unfoldable pub stmt_fits : Stmt → Bool
stmt_fits = fold-Stmt Bool fit_step

abbrev pub item_fits : Item → Bool
item_fits (item.Task name params body) = list_all stmt_fits body
item_fits _ = true

-- Each assignment in each task's body has one target before an expression, and one or two before a call.
abbrev pub targets_fit : Program → Bool
targets_fit p = list_all item_fits p.items
