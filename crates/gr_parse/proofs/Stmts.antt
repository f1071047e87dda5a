-- Statements and blocks: what was read is spelled so, and what was refused goes on until there.
use Rattle.std.proofs.Common.{◌≡◌, ℕ, zero, suc, Bool, true, false, List, [], ◌∷◌, ◌++◌, Option, Some, None, refl, sym, subst}
use Rattle.std.proofs.lemmas.List.{append-nil}
use Rattle.gr_meets.specs.Parsers.{Parser, ◌>>=◌, pure, peek}
use Rattle.gr_meets.specs.LanguageWords.{Read, Meets}
use Rattle.gr_meets.specs.Lists.{Repeated}
use Rattle.gr_meets.proofs.Meets.{weaken, meets_pure, meets_refuse, look_meets, skip_then, expect_then, either_meets, bind, peek_means}
use Rattle.gr_meets.proofs.Runs.{run_meets}
use Rattle.gr_syntax.specs.declared.syntax.Name.{Name}
use Rattle.gr_syntax.specs.declared.syntax.Expr.{Expr}
use Rattle.gr_syntax.specs.declared.syntax.Expr.TheVariants as tree
use Rattle.gr_syntax.specs.declared.syntax.CallText.{CallText}
use Rattle.gr_syntax.specs.declared.syntax.Right.TheVariants as right
use Rattle.gr_syntax.specs.declared.syntax.HowText.{HowText}
use Rattle.gr_syntax.specs.declared.syntax.HowText.TheVariants as how
use Rattle.gr_syntax.specs.declared.syntax.Stmt.{Stmt}
use Rattle.gr_syntax.specs.declared.syntax.Stmt.TheVariants as st
use Rattle.gr_text.specs.declared.token.Keyword.TheVariants as keys
use Rattle.gr_text.specs.declared.token.Sign.TheVariants as signs
use Rattle.gr_expressions.specs.Tok.{Tok, is_sign, Toks}
use Rattle.gr_expressions.specs.TokWords.{name_of, heap_of}
use Rattle.gr_expressions.specs.OperandsWords.{method, no_room}
use Rattle.gr_expressions.specs.Expressions.{IsExpr, IsArgs, IsObject, IsOperation, IsCall}
use Rattle.gr_expressions.proofs.TokenTests.{sign_test, key_test, missing_test, name_is, heap_is}
use Rattle.gr_expressions.proofs.Exprs.{nought, nought_is, expr_meets, expr_from_meets}
use Rattle.gr_expressions.proofs.Calls.{nameless, name_then, semicolon_then, some_args, some_call, args_meets, operation_meets, method_meets, call_meets}
use Rattle.gr_parse.specs.ParsingWords.{named_right, heap_right, right_by, right_side, one_target, two_targets, assignment, let_statement, named_statement, heap_statement, print, else_block, if_statement, while_statement, finish, started, spawned_at, spawn, forall_statement, plain_statement, key_statement, heap_or, name_or, statement_with, braces, statement, block}
use Rattle.gr_parse.specs.Grammar.{IsRight, IsAssignment, IsHow, IsStmt, IsBlock, IsStmts}

-- ---- the right side of an assignment

value_made : {d : ℕ} (ts : Toks) (x : Expr) → IsExpr d ts x → IsRight d (ts ++ []) (right.Value x)
value_made {d} ts x h = subst (λ (u : Toks). IsRight d u (right.Value x)) (sym (append-nil ts)) (IsRight.value h)

result_made : {d : ℕ} (ts : Toks) (c : CallText) → IsCall d ts c → IsRight d (ts ++ []) (right.Result c)
result_made {d} ts c h = subst (λ (u : Toks). IsRight d u (right.Result c)) (sym (append-nil ts)) (IsRight.result h)

named_call : {d : ℕ} {n : Name} {ts : Toks} {c : CallText} → IsOperation d n ts c → IsCall d (Tok.name n ∷ (Tok.sign signs.Dot ∷ ts)) c
named_call h = IsCall.call IsObject.named h

named_right_meets : (turns d : ℕ) (n : Name) → Meets (named_right turns d n) (λ b y. IsRight d (Tok.name n ∷ b) y) (λ b y. IsRight d (Tok.name n ∷ b) y)
unfolding named_right
named_right_meets turns d n = either_meets (sign_test signs.Dot)
    (bind (operation_meets turns d n)
    (λ c. meets_pure (λ a h. result_made (Tok.name n ∷ (Tok.sign signs.Dot ∷ a)) c (named_call h)))
    (λ a c h. ([], right.Result c, result_made (Tok.name n ∷ (Tok.sign signs.Dot ∷ a)) c (named_call h))))
    (bind (expr_from_meets d (Tok.name n) (tree.Local n) refl)
    (λ x. meets_pure (λ a h. value_made (Tok.name n ∷ a) x h))
    (λ a x h. ([], right.Value x, value_made (Tok.name n ∷ a) x h)))

module _ (turns d : ℕ) where
  heap_right_read : (o : Option Name) (ts : Toks) → peek heap_of ts ≡ o → Read (heap_right turns d o) (IsRight d) (IsRight d) ts (heap_right turns d o ts)
  heap_right_read None ts h = (bind {K = IsRight d} {W = IsRight d} (expr_meets d) (λ x. meets_pure (λ a k. value_made a x k)) (λ a x k. ([], right.Value x, value_made a x k))).at ts
  heap_right_read (Some n) ts h =
      let m = peek_means heap_of n ts h in
      skip_then m.token (method turns d n >>= λ c. pure (right.Result c)) (IsRight d) (IsRight d) ts m.heads
      (bind (method_meets turns d m.token n (heap_is m.token n m.means)) (λ c. meets_pure (λ a k. result_made (m.token ∷ a) c k)) (λ a c k. ([], right.Result c, result_made (m.token ∷ a) c k)))

  right_read : (o : Option Name) (ts : Toks) → peek name_of ts ≡ o → Read (right_by turns d o) (IsRight d) (IsRight d) ts (right_by turns d o ts)
  right_read None ts h = (look_meets heap_of (heap_right turns d) heap_right_read).at ts
  right_read (Some n) ts h =
      let m = peek_means name_of n ts h in
      skip_then m.token (named_right turns d n) (IsRight d) (IsRight d) ts m.heads
      (subst (λ (u : Tok). Meets (named_right turns d n) (λ b y. IsRight d (u ∷ b) y) (λ b y. IsRight d (u ∷ b) y)) (sym (name_is m.token n m.means)) (named_right_meets turns d n))

  pub right_meets : Meets (right_side turns d) (IsRight d) (IsRight d)
  unfolding right_side
  right_meets = look_meets name_of (right_by turns d) right_read

-- ---- assignments

nought_right : (d : ℕ) → IsRight d (Tok.number nought ∷ []) (right.Value (tree.Lit nought))
nought_right d = IsRight.value (nought_is d)

one_target_meets : (turns d : ℕ) (fresh : Bool) (n : Name) → Meets (one_target turns d fresh n) (λ b y. IsAssignment d fresh (Tok.name n ∷ (Tok.sign signs.Assign ∷ b)) y) (λ b y. IsAssignment d fresh (Tok.name n ∷ (Tok.sign signs.Assign ∷ b)) y)
unfolding one_target
one_target_meets turns d fresh n = bind (right_meets turns d)
    (λ r. semicolon_then (meets_pure (λ a h. IsAssignment.one h)) [] (st.Set1 fresh (n ∷ []) r) (λ a h. IsAssignment.one h))
    (λ a r h. (Tok.sign signs.Semicolon ∷ [], st.Set1 fresh (n ∷ []) r, IsAssignment.one h))

two_targets_meets : (turns d : ℕ) (fresh : Bool) (n : Name) → Meets (two_targets turns d fresh n) (λ b y. IsAssignment d fresh (Tok.name n ∷ (Tok.sign signs.Comma ∷ b)) y) (λ b y. IsAssignment d fresh (Tok.name n ∷ (Tok.sign signs.Comma ∷ b)) y)
unfolding two_targets
two_targets_meets turns d fresh n =
    let any = some_call d in
    let end : Toks = any.0 ++ Tok.sign signs.Semicolon ∷ [] in
    name_then
    (λ m. expect_then (sign_test signs.Assign)
    (bind (call_meets turns d)
    (λ c. semicolon_then (meets_pure (λ a h. IsAssignment.two h)) [] (st.Set1 fresh (n ∷ m ∷ []) (right.Result c)) (λ a h. IsAssignment.two h))
    (λ a c h. (Tok.sign signs.Semicolon ∷ [], st.Set1 fresh (n ∷ m ∷ []) (right.Result c), IsAssignment.two h)))
    end (st.Set1 fresh (n ∷ m ∷ []) (right.Result any.1)) (IsAssignment.two any.2))
    (Tok.name n ∷ (Tok.sign signs.Assign ∷ end)) (st.Set1 fresh (n ∷ n ∷ []) (right.Result any.1)) (IsAssignment.two any.2)

-- An assignment behind its first target.
pub assignment_meets : (turns d : ℕ) (fresh : Bool) (n : Name) → Meets (assignment turns d fresh n) (λ b y. IsAssignment d fresh (Tok.name n ∷ b) y) (λ b y. IsAssignment d fresh (Tok.name n ∷ b) y)
unfolding assignment
assignment_meets turns d fresh n =
    let any = some_call d in
    either_meets (sign_test signs.Assign) (one_target_meets turns d fresh n)
    (expect_then (sign_test signs.Comma) (two_targets_meets turns d fresh n)
    (Tok.name n ∷ (Tok.sign signs.Assign ∷ (any.0 ++ Tok.sign signs.Semicolon ∷ []))) (st.Set1 fresh (n ∷ n ∷ []) (right.Result any.1)) (IsAssignment.two any.2))

-- ---- statements without blocks

some_assignment : (d : ℕ) (fresh : Bool) → IsAssignment d fresh (Tok.name nameless ∷ (Tok.sign signs.Assign ∷ (Tok.number nought ∷ (Tok.sign signs.Semicolon ∷ [])))) (st.Set1 fresh (nameless ∷ []) (right.Value (tree.Lit nought)))
some_assignment d fresh = IsAssignment.one {inside = Tok.number nought ∷ []} (nought_right d)

let_meets : (turns d : ℕ) → Meets (let_statement turns d) (λ b y. IsStmt d (Tok.key keys.Let ∷ b) y) (λ b y. IsStmt d (Tok.key keys.Let ∷ b) y)
unfolding let_statement
let_meets turns d = name_then
    (λ n. weaken (assignment_meets turns d true n) (λ ts x h. IsStmt.let_fresh h) (λ ts x h. IsStmt.let_fresh h))
    (Tok.name nameless ∷ (Tok.sign signs.Assign ∷ (Tok.number nought ∷ (Tok.sign signs.Semicolon ∷ [])))) (st.Set1 true (nameless ∷ []) (right.Value (tree.Lit nought))) (IsStmt.let_fresh (some_assignment d true))

named_statement_meets : (turns d : ℕ) (n : Name) → Meets (named_statement turns d n) (λ b y. IsStmt d (Tok.name n ∷ b) y) (λ b y. IsStmt d (Tok.name n ∷ b) y)
unfolding named_statement
named_statement_meets turns d n = either_meets (sign_test signs.Dot)
    (bind (operation_meets turns d n)
    (λ c. semicolon_then (meets_pure (λ a h. IsStmt.call (named_call h))) [] (st.Do c) (λ a h. IsStmt.call (named_call h)))
    (λ a c h. (Tok.sign signs.Semicolon ∷ [], st.Do c, IsStmt.call (named_call h))))
    (weaken (assignment_meets turns d false n) (λ ts x h. IsStmt.assign h) (λ ts x h. IsStmt.assign h))

heap_statement_meets : (turns d : ℕ) (t : Tok) (n : Name) → IsObject t n → Meets (heap_statement turns d n) (λ b y. IsStmt d (t ∷ b) y) (λ b y. IsStmt d (t ∷ b) y)
unfolding heap_statement
heap_statement_meets turns d t n o = bind (method_meets turns d t n o)
    (λ c. semicolon_then (meets_pure (λ a h. IsStmt.call h)) [] (st.Do c) (λ a h. IsStmt.call h))
    (λ a c h. (Tok.sign signs.Semicolon ∷ [], st.Do c, IsStmt.call h))

print_meets : (d : ℕ) → Meets (print d) (λ b y. IsStmt d (Tok.key keys.Print ∷ b) y) (λ b y. IsStmt d (Tok.key keys.Print ∷ b) y)
unfolding print
print_meets d = bind (expr_meets d)
    (λ x. semicolon_then (meets_pure (λ a h. IsStmt.print h)) [] (st.Print x) (λ a h. IsStmt.print h))
    (λ a x h. (Tok.sign signs.Semicolon ∷ [], st.Print x, IsStmt.print h))

-- A task's name and its arguments, where what is made of them is in K.
started_meets : (turns d : ℕ) (make : Name → List Expr → Stmt) (K : Toks → Stmt → Type 0) → ((n : Name) (ts : Toks) (xs : List Expr) → IsArgs d ts xs → K (Tok.name n ∷ (ts ++ Tok.sign signs.Semicolon ∷ [])) (make n xs)) → Meets (started turns d make) K K
unfolding started
started_meets turns d make K holds =
    let any = some_args d in
    name_then
    (λ n. bind (args_meets turns d)
    (λ xs. semicolon_then (meets_pure (λ a k. holds n a xs k)) [] (make n xs) (λ a k. holds n a xs k))
    (λ a xs k. (Tok.sign signs.Semicolon ∷ [], make n xs, holds n a xs k)))
    (Tok.name nameless ∷ (any.0 ++ Tok.sign signs.Semicolon ∷ [])) (make nameless []) (holds nameless any.0 [] any.1)

at_made : {d : ℕ} (ts : Toks) (x : Expr) → IsExpr d ts x → IsHow d (Tok.key keys.Spawn ∷ (Tok.key keys.At ∷ (ts ++ []))) (how.At x)
at_made {d} ts x h = subst (λ (u : Toks). IsHow d (Tok.key keys.Spawn ∷ (Tok.key keys.At ∷ u)) (how.At x)) (sym (append-nil ts)) (IsHow.at h)

pub spawned_at_meets : (d : ℕ) → Meets (spawned_at d) (λ ts h. IsHow d (Tok.key keys.Spawn ∷ ts) h) (λ ts h. IsHow d (Tok.key keys.Spawn ∷ ts) h)
unfolding spawned_at
spawned_at_meets d = either_meets (key_test keys.At)
    (bind (expr_meets d) (λ x. meets_pure (λ a h. at_made a x h)) (λ a x h. ([], how.At x, at_made a x h)))
    (meets_pure IsHow.here)

spawn_meets : (turns d : ℕ) → Meets (spawn turns d) (λ b y. IsStmt d (Tok.key keys.Spawn ∷ b) y) (λ b y. IsStmt d (Tok.key keys.Spawn ∷ b) y)
unfolding spawn
spawn_meets turns d =
    let any = some_args d in
    bind (spawned_at_meets d)
    (λ h. started_meets turns d (st.Spawn h) (λ b y. (a : Toks) → IsHow d (Tok.key keys.Spawn ∷ a) h → IsStmt d (Tok.key keys.Spawn ∷ (a ++ b)) y) (λ n ts xs k a j. IsStmt.spawn j k))
    (λ a h j. (Tok.name nameless ∷ (any.0 ++ Tok.sign signs.Semicolon ∷ []), st.Spawn h nameless [], IsStmt.spawn j any.1))

offer_meets : (turns d : ℕ) → Meets (started turns d (st.Spawn how.Offer)) (λ b y. IsStmt d (Tok.key keys.Offer ∷ b) y) (λ b y. IsStmt d (Tok.key keys.Offer ∷ b) y)
offer_meets turns d = started_meets turns d (st.Spawn how.Offer) (λ b y. IsStmt d (Tok.key keys.Offer ∷ b) y) (λ n ts xs k. IsStmt.spawn IsHow.offer k)

forall_meets : (turns d : ℕ) → Meets (forall_statement turns d) (λ b y. IsStmt d (Tok.key keys.Forall ∷ b) y) (λ b y. IsStmt d (Tok.key keys.Forall ∷ b) y)
unfolding forall_statement
forall_meets turns d =
    let any = some_args d in
    let one : Toks = Tok.number nought ∷ [] in
    let task : Toks = Tok.name nameless ∷ (any.0 ++ Tok.sign signs.Semicolon ∷ []) in
    let grained : Toks = Tok.key keys.Grain ∷ (one ++ task) in
    let zero_one : Expr = tree.Lit nought in
    let k = nought_is d in
    bind (expr_meets d)
    (λ lo. expect_then (sign_test signs.DotDot)
    (bind (expr_meets d)
    (λ hi. expect_then (key_test keys.Grain)
    (bind (expr_meets d)
    (λ grain. started_meets turns d (st.Forall lo hi grain)
    (λ v y. (c : Toks) → IsExpr d c grain → (b : Toks) → IsExpr d b hi → (a : Toks) → IsExpr d a lo → IsStmt d (Tok.key keys.Forall ∷ (a ++ Tok.sign signs.DotDot ∷ (b ++ Tok.key keys.Grain ∷ (c ++ v)))) y)
    (λ n ts xs j c h b g a f. IsStmt.forall_loop f g h j))
    (λ c grain h. (task, st.Forall lo hi grain nameless [], λ b g a f. IsStmt.forall_loop f g h any.1)))
    (one ++ task) (st.Forall lo hi zero_one nameless []) (λ b g a f. IsStmt.forall_loop f g k any.1))
    (λ b hi g. (grained, st.Forall lo hi zero_one nameless [], λ a f. IsStmt.forall_loop f g k any.1)))
    (one ++ grained) (st.Forall lo zero_one zero_one nameless []) (λ a f. IsStmt.forall_loop f k k any.1))
    (λ a lo f. (Tok.sign signs.DotDot ∷ (one ++ grained), st.Forall lo zero_one zero_one nameless [], IsStmt.forall_loop f k k any.1))

plain_meets : (turns d : ℕ) → Meets (plain_statement turns d) (IsStmt d) (IsStmt d)
unfolding plain_statement
plain_meets turns d = either_meets (key_test keys.Let) (let_meets turns d)
    (either_meets (key_test keys.Print) (print_meets d)
    (either_meets (key_test keys.Spawn) (spawn_meets turns d)
    (either_meets (key_test keys.Offer) (offer_meets turns d)
    (either_meets (key_test keys.Forall) (forall_meets turns d)
    (meets_refuse (Tok.key keys.Print ∷ (Tok.number nought ∷ (Tok.sign signs.Semicolon ∷ []))) (st.Print (tree.Lit nought)) (IsStmt.print {inside = Tok.number nought ∷ []} (nought_is d)))))))

-- ---- statements with blocks

pub some_block : (d : ℕ) → (ts : Toks) × IsBlock d ts []
some_block zero = (Tok.missing ∷ [], IsBlock.missing)
some_block (suc d) = (Tok.sign signs.LeftBrace ∷ (Tok.sign signs.RightBrace ∷ []), IsBlock.braces IsStmts.none)

-- The block behind `else`, or nothing.
pub data IsElse : ℕ → Toks → List Stmt → Type 0 where
  without : {d : ℕ} → IsElse d [] []
  otherwise : {d : ℕ} {ts : Toks} {xs : List Stmt} → IsBlock d ts xs → IsElse d (Tok.key keys.Else ∷ ts) xs

if_made : {d : ℕ} {ts us vs : Toks} {x : Expr} {xs ys : List Stmt} → IsExpr d ts x → IsBlock d us xs → IsElse d vs ys → IsStmt d (Tok.key keys.If ∷ (ts ++ (us ++ (vs ++ [])))) (st.If x xs ys)
if_made {d} {ts} {us} {x} {xs} h k IsElse.without = subst (λ (v : Toks). IsStmt d (Tok.key keys.If ∷ (ts ++ v)) (st.If x xs [])) (sym (append-nil us)) (IsStmt.if_only h k)
if_made {d} {ts} {us} {x} {xs} {ys} h k (IsElse.otherwise {ts = vs} l) = subst (λ (v : Toks). IsStmt d (Tok.key keys.If ∷ (ts ++ (us ++ Tok.key keys.Else ∷ v))) (st.If x xs ys)) (sym (append-nil vs)) (IsStmt.if_else h k l)

while_made : {d : ℕ} {ts us : Toks} {x : Expr} {xs : List Stmt} → IsExpr d ts x → IsBlock d us xs → IsStmt d (Tok.key keys.While ∷ (ts ++ (us ++ []))) (st.While x xs)
while_made {d} {ts} {us} {x} {xs} h k = subst (λ (v : Toks). IsStmt d (Tok.key keys.While ∷ (ts ++ v)) (st.While x xs)) (sym (append-nil us)) (IsStmt.while_loop h k)

finish_made : {d : ℕ} {us : Toks} {xs : List Stmt} → IsBlock d us xs → IsStmt d (Tok.key keys.Finish ∷ (us ++ [])) (st.Finish xs)
finish_made {d} {us} {xs} k = subst (λ (v : Toks). IsStmt d (Tok.key keys.Finish ∷ v) (st.Finish xs)) (sym (append-nil us)) (IsStmt.finish k)

module _ (turns d : ℕ) (inner : Parser Tok (List Stmt)) (reads : Meets inner (IsBlock d) (IsBlock d)) where
  pub else_meets : Meets (else_block inner) (IsElse d) (IsElse d)
  unfolding else_block
  else_meets = either_meets (key_test keys.Else) (weaken reads (λ ts xs h. IsElse.otherwise h) (λ ts xs h. IsElse.otherwise h)) (meets_pure IsElse.without)

  if_meets : Meets (if_statement d inner) (λ b y. IsStmt d (Tok.key keys.If ∷ b) y) (λ b y. IsStmt d (Tok.key keys.If ∷ b) y)
  unfolding if_statement
  if_meets =
      let any = some_block d in
      bind (expr_meets d)
      (λ x. bind reads
      (λ xs. bind else_meets
      (λ ys. meets_pure (λ c l b k a h. if_made h k l))
      (λ c ys l. ([], st.If x xs ys, λ b k a h. if_made h k l)))
      (λ b xs k. ([], st.If x xs [], λ a h. if_made h k IsElse.without)))
      (λ a x h. (any.0 ++ [], st.If x [] [], if_made h any.1 IsElse.without))

  while_meets : Meets (while_statement d inner) (λ b y. IsStmt d (Tok.key keys.While ∷ b) y) (λ b y. IsStmt d (Tok.key keys.While ∷ b) y)
  unfolding while_statement
  while_meets =
      let any = some_block d in
      bind (expr_meets d)
      (λ x. bind reads
      (λ xs. meets_pure (λ b k a h. while_made h k))
      (λ b xs k. ([], st.While x xs, λ a h. while_made h k)))
      (λ a x h. (any.0 ++ [], st.While x [], while_made h any.1))

  finish_meets : Meets (finish inner) (λ b y. IsStmt d (Tok.key keys.Finish ∷ b) y) (λ b y. IsStmt d (Tok.key keys.Finish ∷ b) y)
  unfolding finish
  finish_meets = bind reads (λ xs. meets_pure (λ b k. finish_made k)) (λ b xs k. ([], st.Finish xs, finish_made k))

  key_meets : Meets (key_statement turns d inner) (IsStmt d) (IsStmt d)
  unfolding key_statement
  key_meets = either_meets (key_test keys.If) if_meets
      (either_meets (key_test keys.While) while_meets
      (either_meets (key_test keys.Finish) finish_meets (plain_meets turns d)))

  heap_or_read : (o : Option Name) (ts : Toks) → peek heap_of ts ≡ o → Read (heap_or turns d inner o) (IsStmt d) (IsStmt d) ts (heap_or turns d inner o ts)
  heap_or_read None ts h = key_meets.at ts
  heap_or_read (Some n) ts h =
      let m = peek_means heap_of n ts h in
      skip_then m.token (heap_statement turns d n) (IsStmt d) (IsStmt d) ts m.heads (heap_statement_meets turns d m.token n (heap_is m.token n m.means))

  name_or_read : (o : Option Name) (ts : Toks) → peek name_of ts ≡ o → Read (name_or turns d inner o) (IsStmt d) (IsStmt d) ts (name_or turns d inner o ts)
  name_or_read None ts h = (look_meets heap_of (heap_or turns d inner) heap_or_read).at ts
  name_or_read (Some n) ts h =
      let m = peek_means name_of n ts h in
      skip_then m.token (named_statement turns d n) (IsStmt d) (IsStmt d) ts m.heads
      (subst (λ (u : Tok). Meets (named_statement turns d n) (λ b y. IsStmt d (u ∷ b) y) (λ b y. IsStmt d (u ∷ b) y)) (sym (name_is m.token n m.means)) (named_statement_meets turns d n))

  statement_with_meets : Meets (statement_with turns d inner) (IsStmt d) (IsStmt d)
  unfolding statement_with
  statement_with_meets = look_meets name_of (name_or turns d inner) name_or_read

-- ---- blocks

pub from_repeated : {d : ℕ} {ts : Toks} {xs : List Stmt} → Repeated (IsStmt d) ts xs → IsStmts d ts xs
from_repeated Repeated.none = IsStmts.none
from_repeated (Repeated.one_more h k) = IsStmts.one_more h (from_repeated k)

pub to_repeated : {d : ℕ} {ts : Toks} {xs : List Stmt} → IsStmts d ts xs → Repeated (IsStmt d) ts xs
to_repeated IsStmts.none = Repeated.none
to_repeated (IsStmts.one_more h k) = Repeated.one_more h (to_repeated k)

pub braces_meets : (turns d : ℕ) (p : Parser Tok Stmt) → Meets p (IsStmt d) (IsStmt d) → Meets (braces turns p) (IsBlock (suc d)) (IsBlock (suc d))
unfolding braces
braces_meets turns d p reads = expect_then (sign_test signs.LeftBrace)
    (bind (run_meets (is_sign signs.RightBrace) turns reads)
    (λ xs. expect_then (sign_test signs.RightBrace) (meets_pure (λ a h. IsBlock.braces (from_repeated h))) [] xs (λ a h. IsBlock.braces (from_repeated h)))
    (λ a xs h. (Tok.sign signs.RightBrace ∷ [], xs, IsBlock.braces (from_repeated h))))
    (Tok.sign signs.RightBrace ∷ []) [] (IsBlock.braces IsStmts.none)

pub no_room_meets : Meets {A = List Stmt} no_room (IsBlock 0) (IsBlock 0)
no_room_meets = expect_then missing_test (meets_pure IsBlock.missing) [] [] IsBlock.missing

pub statement_meets : (turns d : ℕ) → Meets (statement turns d) (IsStmt d) (IsStmt d)
unfolding statement
statement_meets turns zero = statement_with_meets turns 0 no_room no_room_meets
statement_meets turns (suc d) = statement_with_meets turns (suc d) (braces turns (statement turns d)) (braces_meets turns d (statement turns d) (statement_meets turns d))

pub block_meets : (turns d : ℕ) → Meets (block turns d) (IsBlock d) (IsBlock d)
unfolding block
block_meets turns zero = no_room_meets
block_meets turns (suc d) = braces_meets turns d (statement turns d) (statement_meets turns d)
