-- The tokens that are laid out for statements and blocks spell them, and each spelling has them.
use Rattle.std.proofs.Common.{◌≡◌, ℕ, suc, ◌+◌, Bool, true, false, List, [], ◌∷◌, ◌++◌, map, replicate, refl, sym, ap, subst, ◌∙◌, append_assoc}
use Rattle.std.proofs.lemmas.List.{map-append, append-nil}
use Rattle.gr_syntax.specs.declared.syntax.Name.{Name}
use Rattle.gr_syntax.specs.declared.syntax.Expr.{Expr}
use Rattle.gr_syntax.specs.declared.syntax.CallText.{CallText}
use Rattle.gr_syntax.specs.declared.syntax.Right.{Right}
use Rattle.gr_syntax.specs.declared.syntax.Right.TheVariants as right
use Rattle.gr_syntax.specs.declared.syntax.HowText.{HowText}
use Rattle.gr_syntax.specs.declared.syntax.HowText.TheVariants as how
use Rattle.gr_syntax.specs.declared.syntax.Stmt.{Stmt}
use Rattle.gr_syntax.specs.declared.syntax.Stmt.TheVariants as st
use Rattle.gr_text.specs.declared.token.Keyword.TheVariants as k
use Rattle.gr_text.specs.declared.token.Sign.TheVariants as s
use Rattle.gr_expressions.specs.Tok.{Tok, Toks}
use Rattle.gr_expressions.specs.Expressions.{IsExpr, IsArgs, IsCall}
use Rattle.gr_parse.specs.Grammar.{IsRight, IsAssignment, IsHow, IsStmt, IsBlock, IsStmts}
use Rattle.gr_print.specs.Unplaced.{unplaced_name, unplaced_tok, unplaced_expr, unplaced_call, unplaced_right, unplaced_how, unplaced_stmt}
use Rattle.gr_print.specs.Pieces.{Piece, Layout, key, sign}
use Rattle.gr_print.specs.Layout.{names, expr, args, call, right_side, start, started, range, lines, block, stmt}
use Rattle.gr_print.specs.Printed.{IsSubsequence, AreWritten}
use Rattle.gr_print.proofs.Layouts.{stmt_set, stmt_do, stmt_print, stmt_if, stmt_while, stmt_finish, stmt_spawn, stmt_forall}
use Rattle.gr_print.proofs.PrintsExprs.{Written, expr_written}
use Rattle.gr_print.proofs.PrintsLists.{args_written, call_written}
use Rattle.gr_print.proofs.Respelled.{Each, each_nil, each_sign, each_key, each_name, each_part, each_last, Freely}
use Rattle.gr_print.proofs.Samenesses.{same_set, same_do, same_print, same_if, same_while, same_finish, same_spawn, same_forall}
use Rattle.gr_print.proofs.Seen.{tokens_of, tokens_of-append, tokens_of-margin, tokens_of-line}
use Rattle.gr_print.proofs.Subsequences as part

-- ---- parts

pub front_written : (ts us : Toks) → AreWritten (ts ++ us) → AreWritten ts
front_written [] us h = tt
front_written (t ∷ ts) us h = (h.0, front_written ts us h.1)

pub behind_written : (ts us : Toks) → AreWritten (ts ++ us) → AreWritten us
behind_written [] us h = h
behind_written (t ∷ ts) us h = behind_written ts us h.1

-- A part, and then others.
pub each_then : {A : Type 0} {bare : A → A} {L : Toks → A → Type 0} {K : Toks → Type 0} {x : A} (ps qs : Layout) → Freely bare L (tokens_of ps) x
    → ((f : Toks) (y : A) → L f y → bare y ≡ bare x → Each (λ r. K (f ++ r)) (tokens_of qs)) → Each K (tokens_of (ps ++ qs))
each_then {K} ps qs h go = subst (Each K) (sym (tokens_of-append ps qs)) (each_part h go)

pub within_then : (ps qs : Layout) (ts us : Toks) → IsSubsequence (tokens_of ps) (map unplaced_tok ts) → IsSubsequence (tokens_of qs) (map unplaced_tok us) → IsSubsequence (tokens_of (ps ++ qs)) (map unplaced_tok (ts ++ us))
within_then ps qs ts us h k =
    subst (λ (u : Toks). IsSubsequence u (map unplaced_tok (ts ++ us))) (sym (tokens_of-append ps qs))
    (subst (IsSubsequence (tokens_of ps ++ tokens_of qs)) (sym (map-append unplaced_tok ts us)) (part.joined h k))

abbrev semicolon : Layout
semicolon = sign s.Semicolon ∷ []

abbrev semicolons : Toks
semicolons = Tok.sign s.Semicolon ∷ []

-- ---- assignments

right_written : {d : ℕ} {ts : Toks} {r : Right} → IsRight d ts r → AreWritten ts → Written unplaced_right (IsRight d) (right_side r) ts r
right_written (IsRight.value {depth = d} {inside = ts} {inner = x} p) h =
    let w = expr_written d ts x p in
    record { spelled = record { each = each_last w.spelled (λ f y q same. record { tree = right.Value y; spelled = IsRight.value q; same = ap (λ (z : Expr). right.Value z) same }) }; within = w.within }
right_written (IsRight.result {depth = d} {inside = ts} {done = c} p) h =
    let w = call_written p h in
    record { spelled = record { each = each_last w.spelled (λ f y q same. record { tree = right.Result y; spelled = IsRight.result q; same = ap (λ (z : CallText). right.Result z) same }) }; within = w.within }

-- An assignment without its `let`.
abbrev assigned : List Name → Right → Layout
assigned ns r = names ns ++ (Piece.blank ∷ sign s.Assign ∷ Piece.blank ∷ (right_side r ++ semicolon))

record Assigned (d : ℕ) (fresh : Bool) (ts : Toks) (x : Stmt) : Type 0 where
  targets : List Name
  value : Right
  is : x ≡ st.Set1 fresh targets value
  written : Written unplaced_stmt (IsAssignment d fresh) (assigned targets value) ts x

one_case : (d : ℕ) (fresh : Bool) (n : Name) (ts : Toks) (r : Right) → IsRight d ts r → AreWritten (Tok.name n ∷ Tok.sign s.Assign ∷ (ts ++ semicolons))
    → Assigned d fresh (Tok.name n ∷ Tok.sign s.Assign ∷ (ts ++ semicolons)) (st.Set1 fresh (n ∷ []) r)
one_case d fresh n ts r p h =
    let w = right_written p (front_written ts semicolons h.1.1) in
    record {
      targets = n ∷ [];
      value = r;
      is = refl;
      written = record {
        spelled = record {
          each = each_name n (λ m same. each_sign s.Assign (each_then (right_side r) semicolon w.spelled (λ f q g alike. each_sign s.Semicolon (each_nil (record {
            tree = st.Set1 fresh (m ∷ []) q;
            spelled = IsAssignment.one g;
            same = same_set fresh (m ∷ []) (n ∷ []) q r (ap (λ (z : Name). z ∷ []) same) alike;
          })))));
        };
        within = IsSubsequence.kept (IsSubsequence.kept (within_then (right_side r) semicolon ts semicolons w.within (part.whole semicolons)));
      };
    }

two_case : (d : ℕ) (fresh : Bool) (n m : Name) (ts : Toks) (c : CallText) → IsCall d ts c → AreWritten (Tok.name n ∷ Tok.sign s.Comma ∷ Tok.name m ∷ Tok.sign s.Assign ∷ (ts ++ semicolons))
    → Assigned d fresh (Tok.name n ∷ Tok.sign s.Comma ∷ Tok.name m ∷ Tok.sign s.Assign ∷ (ts ++ semicolons)) (st.Set1 fresh (n ∷ m ∷ []) (right.Result c))
two_case d fresh n m ts c p h =
    let w = call_written p (front_written ts semicolons h.1.1.1.1) in
    record {
      targets = n ∷ m ∷ [];
      value = right.Result c;
      is = refl;
      written = record {
        spelled = record {
          each = each_name n (λ o same. each_sign s.Comma (each_name m (λ q alike. each_sign s.Assign (each_then (call c) semicolon w.spelled (λ f b g eq. each_sign s.Semicolon (each_nil (record {
            tree = st.Set1 fresh (o ∷ q ∷ []) (right.Result b);
            spelled = IsAssignment.two g;
            same = same_set fresh (o ∷ q ∷ []) (n ∷ m ∷ []) (right.Result b) (right.Result c) (ap (λ (z : Name). z ∷ unplaced_name q ∷ []) same ∙ ap (λ (z : Name). unplaced_name n ∷ z ∷ []) alike) (ap (λ (z : CallText). right.Result z) eq);
          })))))));
        };
        within = IsSubsequence.kept (IsSubsequence.kept (IsSubsequence.kept (IsSubsequence.kept (within_then (call c) semicolon ts semicolons w.within (part.whole semicolons)))));
      };
    }

assignment_written : {d : ℕ} {fresh : Bool} {ts : Toks} {x : Stmt} → IsAssignment d fresh ts x → AreWritten ts → Assigned d fresh ts x
assignment_written (IsAssignment.one {depth = d} {fresh} {target = n} {inside = ts} {right = r} p) h = one_case d fresh n ts r p h
assignment_written (IsAssignment.two {depth = d} {fresh} {first = n} {second = m} {inside = ts} {done = c} p) h = two_case d fresh n m ts c p h

-- ---- statements

-- A statement with its layout at each margin.
pub record StmtWritten (d : ℕ) (ts : Toks) (x : Stmt) : Type 0 where
  pub at : (m : ℕ) → Written unplaced_stmt (IsStmt d) (stmt x m) ts x

pub record BlockWritten (d : ℕ) (ts : Toks) (xs : List Stmt) : Type 0 where
  pub at : (m : ℕ) → Written (map unplaced_stmt) (IsBlock d) (block (map stmt xs) m) ts xs

pub record StmtsWritten (d : ℕ) (ts : Toks) (xs : List Stmt) : Type 0 where
  pub at : (m : ℕ) → Written (map unplaced_stmt) (IsStmts d) (lines (map stmt xs) m) ts xs

laid_out : (d : ℕ) (ts : Toks) (x : Stmt) (ps : ℕ → Layout) → ((m : ℕ) → stmt x m ≡ ps m) → ((m : ℕ) → Written unplaced_stmt (IsStmt d) (ps m) ts x) → StmtWritten d ts x
laid_out d ts x ps is w = record { at = λ m. subst (λ (qs : Layout). Written unplaced_stmt (IsStmt d) qs ts x) (sym (is m)) (w m) }

assign_case : (d : ℕ) (ts : Toks) (x : Stmt) → Assigned d false ts x → StmtWritten d ts x
assign_case d ts x a = laid_out d ts x (λ m. assigned a.targets a.value) (λ m. ap (λ (y : Stmt). stmt y m) a.is ∙ stmt_set false a.targets a.value m) (λ m. record {
  spelled = record { each = each_last a.written.spelled (λ f y p same. record { tree = y; spelled = IsStmt.assign p; same = same }) };
  within = a.written.within;
})

let_case : (d : ℕ) (ts : Toks) (x : Stmt) → Assigned d true ts x → StmtWritten d (Tok.key k.Let ∷ ts) x
let_case d ts x a = laid_out d (Tok.key k.Let ∷ ts) x (λ m. key k.Let ∷ Piece.blank ∷ assigned a.targets a.value) (λ m. ap (λ (y : Stmt). stmt y m) a.is ∙ stmt_set true a.targets a.value m) (λ m. record {
  spelled = record { each = each_key k.Let (each_last a.written.spelled (λ f y p same. record { tree = y; spelled = IsStmt.let_fresh p; same = same })) };
  within = IsSubsequence.kept a.written.within;
})

do_case : (d : ℕ) (ts : Toks) (c : CallText) → Written unplaced_call (IsCall d) (call c) ts c → StmtWritten d (ts ++ semicolons) (st.Do c)
do_case d ts c w = laid_out d (ts ++ semicolons) (st.Do c) (λ m. call c ++ semicolon) (stmt_do c) (λ m. record {
  spelled = record { each = each_then (call c) semicolon w.spelled (λ f b p same. each_sign s.Semicolon (each_nil (record { tree = st.Do b; spelled = IsStmt.call p; same = same_do b c same }))) };
  within = within_then (call c) semicolon ts semicolons w.within (part.whole semicolons);
})

print_case : (d : ℕ) (ts : Toks) (x : Expr) → IsExpr d ts x → StmtWritten d (Tok.key k.Print ∷ (ts ++ semicolons)) (st.Print x)
print_case d ts x p =
    let w = expr_written d ts x p in
    laid_out d (Tok.key k.Print ∷ (ts ++ semicolons)) (st.Print x) (λ m. key k.Print ∷ Piece.blank ∷ (expr x ++ semicolon)) (stmt_print x) (λ m. record {
      spelled = record { each = each_key k.Print (each_then (expr x) semicolon w.spelled (λ f y q same. each_sign s.Semicolon (each_nil (record { tree = st.Print y; spelled = IsStmt.print q; same = same_print y x same })))) };
      within = IsSubsequence.kept (within_then (expr x) semicolon ts semicolons w.within (part.whole semicolons));
    })

-- Without an `else`.
if_only_case : (d : ℕ) (ts us : Toks) (x : Expr) (xs : List Stmt) (more : Toks) → IsExpr d ts x → BlockWritten d us xs → StmtWritten d (Tok.key k.If ∷ (ts ++ (us ++ more))) (st.If x xs [])
if_only_case d ts us x xs more p b =
    let w = expr_written d ts x p in
    laid_out d (Tok.key k.If ∷ (ts ++ (us ++ more))) (st.If x xs []) (λ m. key k.If ∷ Piece.blank ∷ (expr x ++ (Piece.blank ∷ block (map stmt xs) m)))
    (λ m. stmt_if x xs [] m ∙ ap (λ (ps : Layout). key k.If ∷ Piece.blank ∷ (expr x ++ (Piece.blank ∷ ps))) (append-nil (block (map stmt xs) m)))
    (λ m. record {
      spelled = record {
        each = each_key k.If (each_then (expr x) (Piece.blank ∷ block (map stmt xs) m) w.spelled (λ f y q same. each_last (b.at m).spelled (λ g ys r alike. record {
          tree = st.If y ys [];
          spelled = IsStmt.if_only q r;
          same = same_if y x ys [] xs [] same alike refl;
        })));
      };
      within = IsSubsequence.kept (within_then (expr x) (Piece.blank ∷ block (map stmt xs) m) ts (us ++ more) w.within
          (subst (IsSubsequence (tokens_of (block (map stmt xs) m))) (sym (map-append unplaced_tok us more)) (part.before (map unplaced_tok more) (b.at m).within)));
    })

if_else_case : (d : ℕ) (ts us vs : Toks) (x : Expr) (xs ys : List Stmt) → IsExpr d ts x → BlockWritten d us xs → BlockWritten d vs ys → StmtWritten d (Tok.key k.If ∷ (ts ++ (us ++ Tok.key k.Else ∷ vs))) (st.If x xs ys)
if_else_case d ts us vs x xs [] p b c = if_only_case d ts us x xs (Tok.key k.Else ∷ vs) p b
if_else_case d ts us vs x xs (z ∷ zs) p b c =
    let w = expr_written d ts x p in
    laid_out d (Tok.key k.If ∷ (ts ++ (us ++ Tok.key k.Else ∷ vs))) (st.If x xs (z ∷ zs))
    (λ m. key k.If ∷ Piece.blank ∷ (expr x ++ (Piece.blank ∷ (block (map stmt xs) m ++ (Piece.blank ∷ key k.Else ∷ Piece.blank ∷ block (map stmt (z ∷ zs)) m)))))
    (stmt_if x xs (z ∷ zs))
    (λ m. record {
      spelled = record {
        each = each_key k.If (each_then (expr x) (Piece.blank ∷ (block (map stmt xs) m ++ (Piece.blank ∷ key k.Else ∷ Piece.blank ∷ block (map stmt (z ∷ zs)) m))) w.spelled (λ f y q same.
            each_then (block (map stmt xs) m) (Piece.blank ∷ key k.Else ∷ Piece.blank ∷ block (map stmt (z ∷ zs)) m) (b.at m).spelled (λ g ys r alike. each_key k.Else (each_last (c.at m).spelled (λ h ws t eq. record {
              tree = st.If y ys ws;
              spelled = IsStmt.if_else q r t;
              same = same_if y x ys ws xs (z ∷ zs) same alike eq;
            })))));
      };
      within = IsSubsequence.kept (within_then (expr x) (Piece.blank ∷ (block (map stmt xs) m ++ (Piece.blank ∷ key k.Else ∷ Piece.blank ∷ block (map stmt (z ∷ zs)) m))) ts (us ++ Tok.key k.Else ∷ vs) w.within
          (within_then (block (map stmt xs) m) (Piece.blank ∷ key k.Else ∷ Piece.blank ∷ block (map stmt (z ∷ zs)) m) us (Tok.key k.Else ∷ vs) (b.at m).within (IsSubsequence.kept (c.at m).within)));
    })

while_case : (d : ℕ) (ts us : Toks) (x : Expr) (xs : List Stmt) → IsExpr d ts x → BlockWritten d us xs → StmtWritten d (Tok.key k.While ∷ (ts ++ us)) (st.While x xs)
while_case d ts us x xs p b =
    let w = expr_written d ts x p in
    laid_out d (Tok.key k.While ∷ (ts ++ us)) (st.While x xs) (λ m. key k.While ∷ Piece.blank ∷ (expr x ++ (Piece.blank ∷ block (map stmt xs) m))) (stmt_while x xs) (λ m. record {
      spelled = record {
        each = each_key k.While (each_then (expr x) (Piece.blank ∷ block (map stmt xs) m) w.spelled (λ f y q same. each_last (b.at m).spelled (λ g ys r alike. record {
          tree = st.While y ys;
          spelled = IsStmt.while_loop q r;
          same = same_while y x ys xs same alike;
        })));
      };
      within = IsSubsequence.kept (within_then (expr x) (Piece.blank ∷ block (map stmt xs) m) ts us w.within (b.at m).within);
    })

finish_case : (d : ℕ) (ts : Toks) (xs : List Stmt) → BlockWritten d ts xs → StmtWritten d (Tok.key k.Finish ∷ ts) (st.Finish xs)
finish_case d ts xs b = laid_out d (Tok.key k.Finish ∷ ts) (st.Finish xs) (λ m. key k.Finish ∷ Piece.blank ∷ block (map stmt xs) m) (stmt_finish xs) (λ m. record {
  spelled = record { each = each_key k.Finish (each_last (b.at m).spelled (λ g ys r alike. record { tree = st.Finish ys; spelled = IsStmt.finish r; same = same_finish ys xs alike })) };
  within = IsSubsequence.kept (b.at m).within;
})

-- ---- tasks that are started

how_written : {d : ℕ} {ts : Toks} {w : HowText} → IsHow d ts w → Written unplaced_how (IsHow d) (start w) ts w
how_written IsHow.here = record { spelled = record { each = each_key k.Spawn (each_nil (record { tree = how.Here; spelled = IsHow.here; same = refl })) }; within = part.whole (Tok.key k.Spawn ∷ []) }
how_written IsHow.offer = record { spelled = record { each = each_key k.Offer (each_nil (record { tree = how.Offer; spelled = IsHow.offer; same = refl })) }; within = part.whole (Tok.key k.Offer ∷ []) }
how_written (IsHow.at {depth = d} {inside = ts} {core = x} p) =
    let w = expr_written d ts x p in
    record {
      spelled = record { each = each_key k.Spawn (each_key k.At (each_last w.spelled (λ f y q same. record { tree = how.At y; spelled = IsHow.at q; same = ap (λ (z : Expr). how.At z) same }))) };
      within = IsSubsequence.kept (IsSubsequence.kept w.within);
    }

-- A task's name and arguments, behind tokens that stand before.
each_started : {K : Toks → Type 0} {d : ℕ} (n : Name) (xs : List Expr) → Freely (map unplaced_expr) (IsArgs d) (tokens_of (args xs)) xs
    → ((m : Name) (f : Toks) (ys : List Expr) → unplaced_name m ≡ unplaced_name n → IsArgs d f ys → map unplaced_expr ys ≡ map unplaced_expr xs → K (Tok.name m ∷ (f ++ semicolons))) → Each K (tokens_of (started n xs))
each_started n xs w go = each_name n (λ m same. each_then (args xs) semicolon w (λ f ys p alike. each_sign s.Semicolon (each_nil (go m f ys same p alike))))

within_started : (n : Name) (xs : List Expr) (ts : Toks) → IsSubsequence (tokens_of (args xs)) (map unplaced_tok ts) → IsSubsequence (tokens_of (started n xs)) (map unplaced_tok (Tok.name n ∷ (ts ++ semicolons)))
within_started n xs ts h = IsSubsequence.kept (within_then (args xs) semicolon ts semicolons h (part.whole semicolons))

spawn_case : (d : ℕ) (us ts : Toks) (w : HowText) (n : Name) (xs : List Expr) → IsHow d us w → Written (map unplaced_expr) (IsArgs d) (args xs) ts xs → StmtWritten d (us ++ Tok.name n ∷ (ts ++ semicolons)) (st.Spawn w n xs)
spawn_case d us ts w n xs p a =
    let h = how_written p in
    laid_out d (us ++ Tok.name n ∷ (ts ++ semicolons)) (st.Spawn w n xs) (λ m. start w ++ started n xs) (stmt_spawn w n xs) (λ m. record {
      spelled = record {
        each = each_then (start w) (started n xs) h.spelled (λ f v q same. each_started n xs a.spelled (λ o g ys alike r eq. record {
          tree = st.Spawn v o ys;
          spelled = IsStmt.spawn q r;
          same = same_spawn v w o n ys xs same alike eq;
        }));
      };
      within = within_then (start w) (started n xs) us (Tok.name n ∷ (ts ++ semicolons)) h.within (within_started n xs ts a.within);
    })

range_then : (lo hi grain : Expr) (qs : Layout)
    → range lo hi grain ++ qs ≡ key k.Forall ∷ Piece.blank ∷ (expr lo ++ (Piece.blank ∷ sign s.DotDot ∷ Piece.blank ∷ (expr hi ++ (Piece.blank ∷ key k.Grain ∷ Piece.blank ∷ (expr grain ++ qs)))))
range_then lo hi grain qs =
    ap (λ (ps : Layout). key k.Forall ∷ Piece.blank ∷ ps) (append_assoc (expr lo) (Piece.blank ∷ sign s.DotDot ∷ Piece.blank ∷ (expr hi ++ (Piece.blank ∷ key k.Grain ∷ Piece.blank ∷ expr grain))) qs
    ∙ ap (λ (ps : Layout). expr lo ++ (Piece.blank ∷ sign s.DotDot ∷ Piece.blank ∷ ps)) (append_assoc (expr hi) (Piece.blank ∷ key k.Grain ∷ Piece.blank ∷ expr grain) qs))

forall_case : (d : ℕ) (a b c ts : Toks) (lo hi grain : Expr) (n : Name) (xs : List Expr) → IsExpr d a lo → IsExpr d b hi → IsExpr d c grain → Written (map unplaced_expr) (IsArgs d) (args xs) ts xs
    → StmtWritten d (Tok.key k.Forall ∷ (a ++ Tok.sign s.DotDot ∷ (b ++ Tok.key k.Grain ∷ (c ++ Tok.name n ∷ (ts ++ semicolons))))) (st.Forall lo hi grain n xs)
forall_case d a b c ts lo hi grain n xs p q r w =
    let one = expr_written d a lo p in
    let two = expr_written d b hi q in
    let three = expr_written d c grain r in
    let last = expr grain ++ started n xs in
    let middle = expr hi ++ (Piece.blank ∷ key k.Grain ∷ Piece.blank ∷ last) in
    laid_out d (Tok.key k.Forall ∷ (a ++ Tok.sign s.DotDot ∷ (b ++ Tok.key k.Grain ∷ (c ++ Tok.name n ∷ (ts ++ semicolons))))) (st.Forall lo hi grain n xs)
    (λ m. key k.Forall ∷ Piece.blank ∷ (expr lo ++ (Piece.blank ∷ sign s.DotDot ∷ Piece.blank ∷ middle)))
    (λ m. stmt_forall lo hi grain n xs m ∙ range_then lo hi grain (started n xs))
    (λ m. record {
      spelled = record {
        each = each_key k.Forall (each_then (expr lo) (Piece.blank ∷ sign s.DotDot ∷ Piece.blank ∷ middle) one.spelled (λ f x g same. each_sign s.DotDot
            (each_then (expr hi) (Piece.blank ∷ key k.Grain ∷ Piece.blank ∷ last) two.spelled (λ h y i alike. each_key k.Grain
            (each_then (expr grain) (started n xs) three.spelled (λ j z l eq. each_started n xs w.spelled (λ o t ys like u equal. record {
              tree = st.Forall x y z o ys;
              spelled = IsStmt.forall_loop g i l u;
              same = same_forall x y z lo hi grain o n ys xs same alike eq like equal;
            })))))));
      };
      within = IsSubsequence.kept (within_then (expr lo) (Piece.blank ∷ sign s.DotDot ∷ Piece.blank ∷ middle) a (Tok.sign s.DotDot ∷ (b ++ Tok.key k.Grain ∷ (c ++ Tok.name n ∷ (ts ++ semicolons)))) one.within
          (IsSubsequence.kept (within_then (expr hi) (Piece.blank ∷ key k.Grain ∷ Piece.blank ∷ last) b (Tok.key k.Grain ∷ (c ++ Tok.name n ∷ (ts ++ semicolons))) two.within
          (IsSubsequence.kept (within_then (expr grain) (started n xs) c (Tok.name n ∷ (ts ++ semicolons)) three.within (within_started n xs ts w.within))))));
    })

-- ---- blocks

braces_case : (d : ℕ) (ts : Toks) (xs : List Stmt) → StmtsWritten d ts xs → BlockWritten (suc d) (Tok.sign s.LeftBrace ∷ (ts ++ Tok.sign s.RightBrace ∷ [])) xs
braces_case d ts xs w = record {
  at = λ m.
      let end = replicate m Piece.blank ++ sign s.RightBrace ∷ [] in
      let last = tokens_of-margin m (sign s.RightBrace ∷ []) in
      record {
        spelled = record {
          each = each_sign s.LeftBrace (each_then (lines (map stmt xs) (m + 2)) end (w.at (m + 2)).spelled (λ f ys p same.
              subst (Each (λ r. _)) (sym last) (each_sign s.RightBrace (each_nil (record { tree = ys; spelled = IsBlock.braces p; same = same })))));
        };
        within = IsSubsequence.kept (within_then (lines (map stmt xs) (m + 2)) end ts (Tok.sign s.RightBrace ∷ []) (w.at (m + 2)).within
            (subst (λ (u : Toks). IsSubsequence u (Tok.sign s.RightBrace ∷ [])) (sym last) (part.whole (Tok.sign s.RightBrace ∷ []))));
      };
}

more_case : (d : ℕ) (ts us : Toks) (x : Stmt) (xs : List Stmt) → StmtWritten d ts x → StmtsWritten d us xs → StmtsWritten d (ts ++ us) (x ∷ xs)
more_case d ts us x xs a b = record {
  at = λ m.
      let seen = tokens_of-line m (stmt x m) (lines (map stmt xs) m) in
      record {
        spelled = subst (λ (u : Toks). Freely (map unplaced_stmt) (IsStmts d) u (x ∷ xs)) (sym seen) (record {
          each = each_part (a.at m).spelled (λ f y p same. each_last (b.at m).spelled (λ g ys q alike. record {
            tree = y ∷ ys;
            spelled = IsStmts.one_more p q;
            same = ap (λ (z : Stmt). z ∷ map unplaced_stmt ys) same ∙ ap (λ (zs : List Stmt). unplaced_stmt x ∷ zs) alike;
          }));
        });
        within = subst (λ (u : Toks). IsSubsequence u (map unplaced_tok (ts ++ us))) (sym seen)
            (subst (IsSubsequence (tokens_of (stmt x m) ++ tokens_of (lines (map stmt xs) m))) (sym (map-append unplaced_tok ts us)) (part.joined (a.at m).within (b.at m).within));
      };
}

none_case : (d : ℕ) → StmtsWritten d [] []
none_case d = record { at = λ m. record { spelled = record { each = each_nil (record { tree = []; spelled = IsStmts.none; same = refl }) }; within = IsSubsequence.none } }

-- ---- by the derivation

mutual
  stmt_written : {d : ℕ} {ts : Toks} {x : Stmt} → IsStmt d ts x → AreWritten ts → StmtWritten d ts x
  stmt_written (IsStmt.assign {depth = d} {inside = ts} {assignment = x} p) h = assign_case d ts x (assignment_written p h)
  stmt_written (IsStmt.let_fresh {depth = d} {inside = ts} {assignment = x} p) h = let_case d ts x (assignment_written p h.1)
  stmt_written (IsStmt.call {depth = d} {inside = ts} {done = c} p) h = do_case d ts c (call_written p (front_written ts semicolons h))
  stmt_written (IsStmt.print {depth = d} {inside = ts} {value = x} p) h = print_case d ts x p
  stmt_written (IsStmt.if_only {depth = d} {front = ts} {inside = us} {test = x} {body = xs} p q) h =
      subst (λ (u : Toks). StmtWritten d (Tok.key k.If ∷ (ts ++ u)) (st.If x xs [])) (append-nil us) (if_only_case d ts us x xs [] p (block_written q (behind_written ts us h.1)))
  stmt_written (IsStmt.if_else {depth = d} {front = ts} {inside = us} {back = vs} {test = x} {body = xs} {other = ys} p q r) h =
      let rest = behind_written ts (us ++ Tok.key k.Else ∷ vs) h.1 in
      if_else_case d ts us vs x xs ys p (block_written q (front_written us (Tok.key k.Else ∷ vs) rest)) (block_written r (behind_written us (Tok.key k.Else ∷ vs) rest).1)
  stmt_written (IsStmt.while_loop {depth = d} {front = ts} {inside = us} {test = x} {body = xs} p q) h = while_case d ts us x xs p (block_written q (behind_written ts us h.1))
  stmt_written (IsStmt.finish {depth = d} {inside = ts} {body = xs} q) h = finish_case d ts xs (block_written q h.1)
  stmt_written (IsStmt.spawn {depth = d} {front = us} {inside = ts} {how = w} {task = n} {args = xs} p q) h =
      spawn_case d us ts w n xs p (args_written q (front_written ts semicolons (behind_written us (Tok.name n ∷ (ts ++ semicolons)) h).1))
  stmt_written (IsStmt.forall_loop {depth = d} {from = a} {to = b} {by = c} {inside = ts} {lo} {hi} {grain} {task = n} {args = xs} p q r t) h =
      let last = Tok.name n ∷ (ts ++ semicolons) in
      let middle = Tok.key k.Grain ∷ (c ++ last) in
      let one = behind_written a (Tok.sign s.DotDot ∷ (b ++ middle)) h.1 in
      let two = behind_written b middle one.1 in
      let three = behind_written c last two.1 in
      forall_case d a b c ts lo hi grain n xs p q r (args_written t (front_written ts semicolons three.1))

  pub block_written : {d : ℕ} {ts : Toks} {xs : List Stmt} → IsBlock d ts xs → AreWritten ts → BlockWritten d ts xs
  block_written IsBlock.missing h = absurd h.0
  block_written (IsBlock.braces {depth = d} {inside = ts} {body = xs} p) h = braces_case d ts xs (stmts_written p (front_written ts (Tok.sign s.RightBrace ∷ []) h.1))

  stmts_written : {d : ℕ} {ts : Toks} {xs : List Stmt} → IsStmts d ts xs → AreWritten ts → StmtsWritten d ts xs
  stmts_written (IsStmts.none {depth = d}) h = none_case d
  stmts_written (IsStmts.one_more {depth = d} {front = ts} {back = us} {first = x} {others = xs} p q) h = more_case d ts us x xs (stmt_written p (front_written ts us h)) (stmts_written q (behind_written ts us h))
