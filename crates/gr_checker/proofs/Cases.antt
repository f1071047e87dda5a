-- What is visible only grows within a block.
use Rattle.std.proofs.Common.{◌≡◌, ℕ, Bool, true, false, if◌then◌else◌, List, [], ◌∷◌, ◌++◌, length, take, refl, ap, sym, subst, ◌∙◌}
use Rattle.std.proofs.lemmas.List.{append-nil, append_assoc}
use Rattle.std.proofs.Math.Seq.{take-append_seam}
use Rattle.gr_syntax.specs.declared.syntax.Name.{Name}
use Rattle.gr_syntax.specs.declared.syntax.Stmt.{Stmt, fold-Stmt, out-Stmt, roll-Stmt, roll-out-Stmt}
use Rattle.gr_syntax.specs.declared.syntax.Stmt.TheFolds.{fold-roll-Stmt}
use Rattle.gr_syntax.specs.declared.syntax.Stmt.TheOpen.{Stmt-F}
use Rattle.gr_syntax.specs.Names.{has, with_name}
use Rattle.gr_accept.specs.Walks.{Part, LexicalScope, givens, stmt, stmts, stmt_step}

record Grows (a b : List (List ℕ)) : Type 0 where
  more : List (List ℕ)
  is : b ≡ a ++ more

same : (a : List (List ℕ)) → Grows a a
same a = record { more = []; is = sym (append-nil a) }

joined : (a b c : List (List ℕ)) → Grows a b → Grows b c → Grows a c
joined a b c g h = record { more = g.more ++ h.more; is = h.is ∙ ap (λ l. l ++ h.more) g.is ∙ append_assoc a g.more h.more }

named : (a : List (List ℕ)) (n : List ℕ) → Grows a (with_name a n)
named a n = by (has a n)
  where
    by : (b : Bool) → Grows a (if b then a else a ++ n ∷ [])
    by true = same a
    by false = record { more = n ∷ []; is = refl }

grows-givens : (names : List Name) (s : LexicalScope) → Grows s.visible (givens names s).scope.visible
grows-givens [] s = same s.visible
grows-givens (n ∷ ns) s = joined s.visible (with_name s.visible n.text) _ (named s.visible n.text) (grows-givens ns (record { named = with_name s.named n.text; visible = with_name s.visible n.text }))

grows-stmt : (st : Stmt) (s : LexicalScope) → Grows s.visible (stmt st s).scope.visible
unfolding stmt
grows-stmt st s = subst (λ y. Grows s.visible (fold-Stmt Part stmt_step y s).scope.visible) (roll-out-Stmt st) (by (out-Stmt st))
  where
    level : (x : Stmt-F Stmt) (f : Part) → fold-Stmt Part stmt_step (roll-Stmt x) ≡ f → Grows s.visible (f s).scope.visible → Grows s.visible (fold-Stmt Part stmt_step (roll-Stmt x) s).scope.visible
    level x f e g = subst (λ l. Grows s.visible (l s).scope.visible) (sym e) g

    by : (x : Stmt-F Stmt) → Grows s.visible (fold-Stmt Part stmt_step (roll-Stmt x) s).scope.visible
    by (Stmt-F.Set1 true names right) = level _ _ (fold-roll-Stmt Part stmt_step (Stmt-F.Set1 true names right)) (grows-givens names s)
    by (Stmt-F.Set1 false names right) = level _ _ (fold-roll-Stmt Part stmt_step (Stmt-F.Set1 false names right)) (same s.visible)
    by (Stmt-F.Do call) = level _ _ (fold-roll-Stmt Part stmt_step (Stmt-F.Do call)) (same s.visible)
    by (Stmt-F.Print value) = level _ _ (fold-roll-Stmt Part stmt_step (Stmt-F.Print value)) (same s.visible)
    by (Stmt-F.If test one other) = level _ _ (fold-roll-Stmt Part stmt_step (Stmt-F.If test one other)) (same s.visible)
    by (Stmt-F.While test body) = level _ _ (fold-roll-Stmt Part stmt_step (Stmt-F.While test body)) (same s.visible)
    by (Stmt-F.Finish body) = level _ _ (fold-roll-Stmt Part stmt_step (Stmt-F.Finish body)) (same s.visible)
    by (Stmt-F.Spawn how target args) = level _ _ (fold-roll-Stmt Part stmt_step (Stmt-F.Spawn how target args)) (same s.visible)
    by (Stmt-F.Forall lo hi grain target args) = level _ _ (fold-roll-Stmt Part stmt_step (Stmt-F.Forall lo hi grain target args)) (same s.visible)

grows-stmts : (ss : List Stmt) (s : LexicalScope) → Grows s.visible (stmts ss s).scope.visible
grows-stmts [] s = same s.visible
grows-stmts (st ∷ ss) s = joined s.visible (stmt st s).scope.visible _ (grows-stmt st s) (grows-stmts ss (stmt st s).scope)

-- after a block the names before it are visible
pub restored : (ss : List Stmt) (s : LexicalScope) → take (length s.visible) (stmts ss s).scope.visible ≡ s.visible
restored ss s = let g = grows-stmts ss s in ap (take (length s.visible)) g.is ∙ take-append_seam s.visible g.more
