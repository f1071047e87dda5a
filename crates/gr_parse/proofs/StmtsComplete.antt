-- Statements and blocks: what is spelled is read.
use Rattle.std.proofs.Common.{◌≡◌, ℕ, zero, suc, ◌<◌, Bool, true, false, List, [], ◌∷◌, ◌++◌, length, Ok, refl, sym, ap, subst, ◌∙◌, append_assoc, arith}
use Rattle.std.proofs.lemmas.List.{length-append}
use Rattle.gr_meets.specs.Parsers.{Parser, ◌>>=◌, ◌>>◌, pure, next, peek, sees, halts, expect, run}
use Rattle.gr_meets.specs.LanguageWords.{Completes}
use Rattle.gr_meets.specs.ListsWords.{Begins}
use Rattle.gr_meets.proofs.Meets.{sees_heads}
use Rattle.gr_meets.proofs.Completes.{then_reads, expect_reads, either_first, either_second, reads_then, sees_own}
use Rattle.gr_meets.proofs.Runs.{run_completes}
use Rattle.gr_syntax.specs.declared.syntax.Place.{Place}
use Rattle.gr_syntax.specs.declared.syntax.Name.{Name}
use Rattle.gr_syntax.specs.declared.syntax.Expr.{Expr}
use Rattle.gr_syntax.specs.declared.syntax.Expr.TheVariants as tree
use Rattle.gr_syntax.specs.declared.syntax.CallText.{CallText}
use Rattle.gr_syntax.specs.declared.syntax.Right.{Right}
use Rattle.gr_syntax.specs.declared.syntax.Right.TheVariants as right
use Rattle.gr_syntax.specs.declared.syntax.HowText.{HowText}
use Rattle.gr_syntax.specs.declared.syntax.HowText.TheVariants as how
use Rattle.gr_syntax.specs.declared.syntax.Stmt.{Stmt}
use Rattle.gr_syntax.specs.declared.syntax.Stmt.TheVariants as st
use Rattle.gr_text.specs.declared.token.Keyword.{Keyword}
use Rattle.gr_text.specs.declared.token.Keyword.TheVariants as keys
use Rattle.gr_text.specs.declared.token.Sign.TheVariants as signs
use Rattle.gr_expressions.specs.Tok.{Tok, is_sign, same_sign, heap_name, Toks}
use Rattle.gr_expressions.specs.TokWords.{is_key, same_key, operator}
use Rattle.gr_expressions.specs.OperandsWords.{semicolon, expr, expr_from, args, operation, call, no_room}
use Rattle.gr_expressions.specs.Expressions.{IsUnary, IsLevel, IsComparison, IsExpr, IsArgs, IsObject, IsOperation, IsCall}
use Rattle.gr_expressions.proofs.TokenTests.{sign_test, key_test, missing_test}
use Rattle.gr_expressions.proofs.Complete.{Any, NoOperator, expr_completes, expr_first}
use Rattle.gr_expressions.proofs.CallsComplete.{BeginsExpr, expr_begins, name_reads, semicolon_reads, args_complete, operation_completes, method_reads, call_completes, semicolon_none, left_brace_none, dot_dot_none, name_none, key_none, missing_none}
use Rattle.gr_parse.specs.ParsingWords.{named_right, right_side, one_target, two_targets, assignment, let_statement, done, named_statement, heap_statement, print, else_block, if_statement, while_statement, finish, started, spawned_at, spawn, forall_statement, plain_statement, key_statement, statement_with, braces, statement, block}
use Rattle.gr_parse.specs.Grammar.{IsRight, IsAssignment, IsHow, IsStmt, IsBlock, IsStmts}
use Rattle.gr_parse.proofs.Stmts.{to_repeated}

-- ---- lengths

pub behind_few : (n : ℕ) (a b rest : Toks) → length ((a ++ b) ++ rest) < n → length (b ++ rest) < n
behind_few n a b rest few = omega (arith, few, ap length (append_assoc a b rest), length-append a (b ++ rest))

-- ---- the right side of an assignment

local_is : (d : ℕ) (v : Name) → IsExpr d (Tok.name v ∷ []) (tree.Local v)
local_is d v = record { count = 0; spelled = IsComparison.one (IsLevel.tighter (IsLevel.tighter (IsLevel.tighter (IsLevel.tighter (IsLevel.tighter (IsLevel.unary IsUnary.local)))))); few = omega arith }

dot_none : (rest : Toks) → NoOperator (Tok.sign signs.Dot ∷ rest)
unfolding peek operator
dot_none rest = λ i k. refl

-- A local in front of a dot is a whole expression.
local_then_dot : (d : ℕ) (v : Name) (us : Toks) → expr d (Tok.name v ∷ (Tok.sign signs.Dot ∷ us)) ≡ Ok (tree.Local v, Tok.sign signs.Dot ∷ us)
local_then_dot d v us =
    let n : ℕ = suc (length (Tok.name v ∷ (Tok.sign signs.Dot ∷ us))) in
    (expr_completes n d).reads (Tok.name v ∷ []) (tree.Local v) (local_is d v) (Tok.sign signs.Dot ∷ us) (dot_none us) (omega arith)

no_dot : (d : ℕ) (v : Name) (ts rest : Toks) (x : Expr) → expr d (Tok.name v ∷ ts) ≡ Ok (x, rest) → sees (is_sign signs.Dot) rest ≡ false → (b : Bool) → sees (is_sign signs.Dot) ts ≡ b → b ≡ false
no_dot d v ts rest x h f false e = refl
no_dot d v ts rest x h f true e =
    let heads = (sees_heads (sign_test signs.Dot) ts e).is in
    let one : expr d (Tok.name v ∷ ts) ≡ Ok (tree.Local v, Tok.sign signs.Dot ∷ next ts) = ap (λ (u : Toks). expr d (Tok.name v ∷ u)) heads ∙ local_then_dot d v (next ts) in
    let both = sym one ∙ h in
    let pair : ◌≡◌ {A = Expr × Toks} (tree.Local v, Tok.sign signs.Dot ∷ next ts) (x, rest) = cc in
    let tails : Tok.sign signs.Dot ∷ next ts ≡ rest = ap (λ z. z.1) pair in
    let seen : sees (is_sign signs.Dot) rest ≡ true = ap (sees (is_sign signs.Dot)) (sym tails) ∙ sees_own (sign_test signs.Dot) (next ts) in
    sym seen ∙ f

value_reads : (n d : ℕ) (x : Expr) (rest : Toks) → sees (is_sign signs.Dot) rest ≡ false → {us : Toks} → BeginsExpr us → expr d us ≡ Ok (x, rest) → right_side n d us ≡ Ok (right.Value x, rest)
unfolding right_side named_right peek next
value_reads n d x rest f (BeginsExpr.a_number {v} {ts}) h = then_reads (λ x. pure (right.Value x)) h refl
value_reads n d x rest f (BeginsExpr.a_local {v} {ts}) h =
    either_second (is_sign signs.Dot) (operation n d v >>= λ c. pure (right.Result c)) (expr_from d (tree.Local v) >>= λ x. pure (right.Value x)) ts (no_dot d v ts rest x h f (sees (is_sign signs.Dot) ts) refl)
    (then_reads (λ x. pure (right.Value x)) (sym (expr_first d (Tok.name v) (tree.Local v) ts refl) ∙ h) refl)
value_reads n d x rest f (BeginsExpr.bang {ts}) h = then_reads (λ x. pure (right.Value x)) h refl
value_reads n d x rest f (BeginsExpr.bracket {ts}) h = then_reads (λ x. pure (right.Value x)) h refl

result_reads : {d : ℕ} {t : Tok} {object : Name} {ts : Toks} {c : CallText} → IsObject t object → IsOperation d object ts c → (n : ℕ) (rest : Toks) → length (ts ++ rest) < n → right_side n d (t ∷ (Tok.sign signs.Dot ∷ (ts ++ rest))) ≡ Ok (right.Result c, rest)
unfolding right_side named_right peek next
result_reads {d} {ts} {c} (IsObject.named {object = m}) h n rest few =
    either_first (sign_test signs.Dot) (operation n d m >>= λ c. pure (right.Result c)) (expr_from d (tree.Local m) >>= λ x. pure (right.Value x)) (ts ++ rest)
    (then_reads (λ c. pure (right.Result c)) ((operation_completes n d m).reads ts c h rest tt few) refl)
result_reads {d} {ts} {c} (IsObject.heap {at}) h n rest few = then_reads (λ c. pure (right.Result c)) (method_reads h n rest few) refl

semicolon_no_dot : (rest : Toks) → sees (is_sign signs.Dot) (Tok.sign signs.Semicolon ∷ rest) ≡ false
unfolding sees same_sign
semicolon_no_dot rest = refl

-- A right side is read in front of its semicolon.
pub right_reads : {d : ℕ} {ts : Toks} {r : Right} → IsRight d ts r → (n : ℕ) (rest : Toks) → length (ts ++ Tok.sign signs.Semicolon ∷ rest) < n → right_side n d (ts ++ Tok.sign signs.Semicolon ∷ rest) ≡ Ok (r, Tok.sign signs.Semicolon ∷ rest)
right_reads (IsRight.value {depth = d} {inside = ts} {inner = x} h) n rest few =
    value_reads n d x (Tok.sign signs.Semicolon ∷ rest) (semicolon_no_dot rest) (expr_begins h (Tok.sign signs.Semicolon ∷ rest)) ((expr_completes n d).reads ts x h (Tok.sign signs.Semicolon ∷ rest) (semicolon_none rest) few)
right_reads (IsRight.result (IsCall.call o h)) n rest few = result_reads o h n (Tok.sign signs.Semicolon ∷ rest) (omega (arith, few))

-- ---- assignments

one_reads : {d : ℕ} {ts : Toks} {r : Right} (fresh : Bool) (m : Name) → IsRight d ts r → (n : ℕ) (rest : Toks) → length ((ts ++ Tok.sign signs.Semicolon ∷ []) ++ rest) < n
    → assignment n d fresh m (Tok.sign signs.Assign ∷ ((ts ++ Tok.sign signs.Semicolon ∷ []) ++ rest)) ≡ Ok (st.Set1 fresh (m ∷ []) r, rest)
unfolding assignment one_target
one_reads {d} {ts} {r} fresh m h n rest few =
    let cut : (ts ++ Tok.sign signs.Semicolon ∷ []) ++ rest ≡ ts ++ Tok.sign signs.Semicolon ∷ rest = append_assoc ts (Tok.sign signs.Semicolon ∷ []) rest in
    either_first (sign_test signs.Assign) (one_target n d fresh m) (expect (is_sign signs.Comma) >> two_targets n d fresh m) ((ts ++ Tok.sign signs.Semicolon ∷ []) ++ rest)
    (ap (one_target n d fresh m) cut
    ∙ then_reads (λ r. semicolon >> pure (st.Set1 fresh (m ∷ []) r)) (right_reads h n rest (subst (λ (u : Toks). length u < n) cut few)) (semicolon_reads (pure (st.Set1 fresh (m ∷ []) r)) rest refl))

two_read : {d : ℕ} {ts : Toks} {c : CallText} (fresh : Bool) (m o : Name) → IsCall d ts c → (n : ℕ) (rest : Toks) → length ((ts ++ Tok.sign signs.Semicolon ∷ []) ++ rest) < n
    → assignment n d fresh m (Tok.sign signs.Comma ∷ (Tok.name o ∷ (Tok.sign signs.Assign ∷ ((ts ++ Tok.sign signs.Semicolon ∷ []) ++ rest)))) ≡ Ok (st.Set1 fresh (m ∷ o ∷ []) (right.Result c), rest)
unfolding assignment two_targets sees same_sign
two_read {d} {ts} {c} fresh m o h n rest few =
    let all : Toks = (ts ++ Tok.sign signs.Semicolon ∷ []) ++ rest in
    either_second (is_sign signs.Assign) (one_target n d fresh m) (expect (is_sign signs.Comma) >> two_targets n d fresh m) (Tok.sign signs.Comma ∷ (Tok.name o ∷ (Tok.sign signs.Assign ∷ all))) refl
    (expect_reads (sign_test signs.Comma) (two_targets n d fresh m) (Tok.name o ∷ (Tok.sign signs.Assign ∷ all))
    (name_reads o (λ o. expect (is_sign signs.Assign) >> (call n d >>= λ c. semicolon >> pure (st.Set1 fresh (m ∷ o ∷ []) (right.Result c)))) (Tok.sign signs.Assign ∷ all)
    (expect_reads (sign_test signs.Assign) (call n d >>= λ c. semicolon >> pure (st.Set1 fresh (m ∷ o ∷ []) (right.Result c))) all
    (reads_then (call_completes n d) h (Tok.sign signs.Semicolon ∷ []) rest tt few (λ c. semicolon >> pure (st.Set1 fresh (m ∷ o ∷ []) (right.Result c)))
    (semicolon_reads (pure (st.Set1 fresh (m ∷ o ∷ []) (right.Result c))) rest refl)))))

-- An assignment is read by whoever takes its first target and goes on with the rest of an assignment.
assignment_reads : {d : ℕ} {fresh : Bool} {ts : Toks} {x : Stmt} → IsAssignment d fresh ts x → (n : ℕ) (p : Parser Tok Stmt) → ((m : Name) (us : Toks) → sees (is_sign signs.Dot) us ≡ false → p (Tok.name m ∷ us) ≡ assignment n d fresh m us)
    → (rest : Toks) → length (ts ++ rest) < n → p (ts ++ rest) ≡ Ok (x, rest)
unfolding sees same_sign
assignment_reads (IsAssignment.one {depth = d} {fresh} {target = m} {inside = ts} {right = r} h) n p start rest few =
    start m (Tok.sign signs.Assign ∷ ((ts ++ Tok.sign signs.Semicolon ∷ []) ++ rest)) refl ∙ one_reads fresh m h n rest (omega (arith, few))
assignment_reads (IsAssignment.two {depth = d} {fresh} {first = m} {second = o} {inside = ts} {done = c} h) n p start rest few =
    start m (Tok.sign signs.Comma ∷ (Tok.name o ∷ (Tok.sign signs.Assign ∷ ((ts ++ Tok.sign signs.Semicolon ∷ []) ++ rest)))) refl ∙ two_read fresh m o h n rest (omega (arith, few))

-- ---- how a statement begins

module _ (n d : ℕ) (inner : Parser Tok (List Stmt)) where
  with_name : (m : Name) (ts : Toks) → statement_with n d inner (Tok.name m ∷ ts) ≡ named_statement n d m ts
  unfolding statement_with peek next
  with_name m ts = refl

  with_target : (m : Name) (ts : Toks) → sees (is_sign signs.Dot) ts ≡ false → statement_with n d inner (Tok.name m ∷ ts) ≡ assignment n d false m ts
  unfolding named_statement
  with_target m ts f = with_name m ts ∙ either_second (is_sign signs.Dot) (operation n d m >>= done) (assignment n d false m) ts f refl

  with_heap : (at : Place) (ts : Toks) → statement_with n d inner (Tok.heap at ∷ ts) ≡ heap_statement n d (heap_name at) ts
  unfolding statement_with peek next
  with_heap at ts = refl

  with_let : (ts : Toks) → statement_with n d inner (Tok.key keys.Let ∷ ts) ≡ let_statement n d ts
  unfolding statement_with key_statement plain_statement peek next sees same_key
  with_let ts = refl

  with_print : (ts : Toks) → statement_with n d inner (Tok.key keys.Print ∷ ts) ≡ print d ts
  unfolding statement_with key_statement plain_statement peek next sees same_key
  with_print ts = refl

  with_spawn : (ts : Toks) → statement_with n d inner (Tok.key keys.Spawn ∷ ts) ≡ spawn n d ts
  unfolding statement_with key_statement plain_statement peek next sees same_key
  with_spawn ts = refl

  with_offer : (ts : Toks) → statement_with n d inner (Tok.key keys.Offer ∷ ts) ≡ started n d (st.Spawn how.Offer) ts
  unfolding statement_with key_statement plain_statement peek next sees same_key
  with_offer ts = refl

  with_forall : (ts : Toks) → statement_with n d inner (Tok.key keys.Forall ∷ ts) ≡ forall_statement n d ts
  unfolding statement_with key_statement plain_statement peek next sees same_key
  with_forall ts = refl

  with_if : (ts : Toks) → statement_with n d inner (Tok.key keys.If ∷ ts) ≡ if_statement d inner ts
  unfolding statement_with key_statement peek next sees same_key
  with_if ts = refl

  with_while : (ts : Toks) → statement_with n d inner (Tok.key keys.While ∷ ts) ≡ while_statement d inner ts
  unfolding statement_with key_statement peek next sees same_key
  with_while ts = refl

  with_finish : (ts : Toks) → statement_with n d inner (Tok.key keys.Finish ∷ ts) ≡ finish inner ts
  unfolding statement_with key_statement peek next sees same_key
  with_finish ts = refl

-- ---- statements without blocks

call_reads : {d : ℕ} {t : Tok} {object : Name} {ts : Toks} {c : CallText} → IsObject t object → IsOperation d object ts c → (n : ℕ) (inner : Parser Tok (List Stmt)) (rest : Toks) → length ((ts ++ Tok.sign signs.Semicolon ∷ []) ++ rest) < n
    → statement_with n d inner (t ∷ (Tok.sign signs.Dot ∷ ((ts ++ Tok.sign signs.Semicolon ∷ []) ++ rest))) ≡ Ok (st.Do c, rest)
unfolding named_statement heap_statement
call_reads {d} {ts} {c} (IsObject.named {object = m}) h n inner rest few =
    with_name n d inner m (Tok.sign signs.Dot ∷ ((ts ++ Tok.sign signs.Semicolon ∷ []) ++ rest))
    ∙ either_first (sign_test signs.Dot) (operation n d m >>= done) (assignment n d false m) ((ts ++ Tok.sign signs.Semicolon ∷ []) ++ rest)
    (reads_then (operation_completes n d m) h (Tok.sign signs.Semicolon ∷ []) rest tt few done (semicolon_reads (pure (st.Do c)) rest refl))
call_reads {d} {ts} {c} (IsObject.heap {at}) h n inner rest few =
    let cut : (ts ++ Tok.sign signs.Semicolon ∷ []) ++ rest ≡ ts ++ Tok.sign signs.Semicolon ∷ rest = append_assoc ts (Tok.sign signs.Semicolon ∷ []) rest in
    with_heap n d inner at (Tok.sign signs.Dot ∷ ((ts ++ Tok.sign signs.Semicolon ∷ []) ++ rest))
    ∙ ap (λ (u : Toks). heap_statement n d (heap_name at) (Tok.sign signs.Dot ∷ u)) cut
    ∙ then_reads done (method_reads h n (Tok.sign signs.Semicolon ∷ rest) (subst (λ (u : Toks). length u < n) cut few)) (semicolon_reads (pure (st.Do c)) rest refl)

let_reads : {d : ℕ} {ts : Toks} {x : Stmt} → IsAssignment d true ts x → (n : ℕ) (rest : Toks) → length (ts ++ rest) < n → let_statement n d (ts ++ rest) ≡ Ok (x, rest)
unfolding let_statement
let_reads {d} h n rest few = assignment_reads h n (let_statement n d) (λ m us f. name_reads m (assignment n d true) us refl) rest few

print_reads : {d : ℕ} {ts : Toks} {x : Expr} → IsExpr d ts x → (n : ℕ) (rest : Toks) → length ((ts ++ Tok.sign signs.Semicolon ∷ []) ++ rest) < n → print d ((ts ++ Tok.sign signs.Semicolon ∷ []) ++ rest) ≡ Ok (st.Print x, rest)
unfolding print
print_reads {d} {ts} {x} h n rest few = reads_then (expr_completes n d) h (Tok.sign signs.Semicolon ∷ []) rest (semicolon_none rest) few (λ x. semicolon >> pure (st.Print x)) (semicolon_reads (pure (st.Print x)) rest refl)

started_reads : {d : ℕ} {ts : Toks} {xs : List Expr} → IsArgs d ts xs → (n : ℕ) (make : Name → List Expr → Stmt) (m : Name) (rest : Toks) → length ((ts ++ Tok.sign signs.Semicolon ∷ []) ++ rest) < n
    → started n d make (Tok.name m ∷ ((ts ++ Tok.sign signs.Semicolon ∷ []) ++ rest)) ≡ Ok (make m xs, rest)
unfolding started
started_reads {d} {ts} {xs} k n make m rest few =
    name_reads m (λ n'. args n d >>= λ xs. semicolon >> pure (make n' xs)) ((ts ++ Tok.sign signs.Semicolon ∷ []) ++ rest)
    (reads_then (args_complete n d) k (Tok.sign signs.Semicolon ∷ []) rest tt few (λ xs. semicolon >> pure (make m xs)) (semicolon_reads (pure (make m xs)) rest refl))

here_reads : (d : ℕ) (m : Name) (us : Toks) → spawned_at d (Tok.name m ∷ us) ≡ Ok (how.Here, Tok.name m ∷ us)
unfolding spawned_at sees
here_reads d m us = refl

at_reads : {d : ℕ} {a : Toks} {x : Expr} → IsExpr d a x → (n : ℕ) (m : Name) (b rest : Toks) → length ((a ++ Tok.name m ∷ b) ++ rest) < n → spawned_at d (Tok.key keys.At ∷ ((a ++ Tok.name m ∷ b) ++ rest)) ≡ Ok (how.At x, Tok.name m ∷ (b ++ rest))
unfolding spawned_at
at_reads {d} {a} {x} h n m b rest few =
    either_first (key_test keys.At) (expr d >>= λ x. pure (how.At x)) (pure how.Here) ((a ++ Tok.name m ∷ b) ++ rest)
    (reads_then (expr_completes n d) h (Tok.name m ∷ b) rest (name_none m (b ++ rest)) few (λ x. pure (how.At x)) refl)

spawn_reads : {d : ℕ} {us ts : Toks} {h : HowText} {xs : List Expr} → IsHow d us h → IsArgs d ts xs → (n : ℕ) (inner : Parser Tok (List Stmt)) (m : Name) (rest : Toks) → length ((us ++ Tok.name m ∷ (ts ++ Tok.sign signs.Semicolon ∷ [])) ++ rest) < n
    → statement_with n d inner ((us ++ Tok.name m ∷ (ts ++ Tok.sign signs.Semicolon ∷ [])) ++ rest) ≡ Ok (st.Spawn h m xs, rest)
unfolding spawn
spawn_reads {ts} (IsHow.here {depth = d}) k n inner m rest few =
    with_spawn n d inner (Tok.name m ∷ ((ts ++ Tok.sign signs.Semicolon ∷ []) ++ rest))
    ∙ then_reads (λ h. started n d (st.Spawn h)) (here_reads d m ((ts ++ Tok.sign signs.Semicolon ∷ []) ++ rest)) (started_reads k n (st.Spawn how.Here) m rest (omega (arith, few)))
spawn_reads {ts} (IsHow.at {depth = d} {inside = a} {core = x} h) k n inner m rest few =
    let b : Toks = ts ++ Tok.sign signs.Semicolon ∷ [] in
    let less : length (Tok.name m ∷ (b ++ rest)) < n = behind_few n a (Tok.name m ∷ b) rest (omega (arith, few)) in
    with_spawn n d inner (Tok.key keys.At ∷ ((a ++ Tok.name m ∷ b) ++ rest))
    ∙ then_reads (λ h. started n d (st.Spawn h)) (at_reads h n m b rest (omega (arith, few))) (started_reads k n (st.Spawn (how.At x)) m rest (omega (arith, less)))
spawn_reads {ts} (IsHow.offer {depth = d}) k n inner m rest few =
    with_offer n d inner (Tok.name m ∷ ((ts ++ Tok.sign signs.Semicolon ∷ []) ++ rest)) ∙ started_reads k n (st.Spawn how.Offer) m rest (omega (arith, few))

forall_reads : {d : ℕ} {a b c ts : Toks} {lo hi grain : Expr} {xs : List Expr} → IsExpr d a lo → IsExpr d b hi → IsExpr d c grain → IsArgs d ts xs → (n : ℕ) (m : Name) (rest : Toks)
    → length ((a ++ Tok.sign signs.DotDot ∷ (b ++ Tok.key keys.Grain ∷ (c ++ Tok.name m ∷ (ts ++ Tok.sign signs.Semicolon ∷ [])))) ++ rest) < n
    → forall_statement n d ((a ++ Tok.sign signs.DotDot ∷ (b ++ Tok.key keys.Grain ∷ (c ++ Tok.name m ∷ (ts ++ Tok.sign signs.Semicolon ∷ [])))) ++ rest) ≡ Ok (st.Forall lo hi grain m xs, rest)
unfolding forall_statement
forall_reads {d} {a} {b} {c} {ts} {lo} {hi} {grain} {xs} f g h k n m rest few =
    let task : Toks = ts ++ Tok.sign signs.Semicolon ∷ [] in
    let third : Toks = c ++ Tok.name m ∷ task in
    let second : Toks = b ++ Tok.key keys.Grain ∷ third in
    let few2 : length (Tok.sign signs.DotDot ∷ (second ++ rest)) < n = behind_few n a (Tok.sign signs.DotDot ∷ second) rest few in
    let few3 : length (Tok.key keys.Grain ∷ (third ++ rest)) < n = behind_few n b (Tok.key keys.Grain ∷ third) rest (omega (arith, few2)) in
    let few4 : length (Tok.name m ∷ (task ++ rest)) < n = behind_few n c (Tok.name m ∷ task) rest (omega (arith, few3)) in
    reads_then (expr_completes n d) f (Tok.sign signs.DotDot ∷ second) rest (dot_dot_none (second ++ rest)) few
    (λ lo. expect (is_sign signs.DotDot) >> (expr d >>= λ hi. expect (is_key keys.Grain) >> (expr d >>= λ grain. started n d (st.Forall lo hi grain))))
    (expect_reads (sign_test signs.DotDot) (expr d >>= λ hi. expect (is_key keys.Grain) >> (expr d >>= λ grain. started n d (st.Forall lo hi grain))) (second ++ rest)
    (reads_then (expr_completes n d) g (Tok.key keys.Grain ∷ third) rest (key_none keys.Grain (third ++ rest)) (omega (arith, few2))
    (λ hi. expect (is_key keys.Grain) >> (expr d >>= λ grain. started n d (st.Forall lo hi grain)))
    (expect_reads (key_test keys.Grain) (expr d >>= λ grain. started n d (st.Forall lo hi grain)) (third ++ rest)
    (reads_then (expr_completes n d) h (Tok.name m ∷ task) rest (name_none m (task ++ rest)) (omega (arith, few3))
    (λ grain. started n d (st.Forall lo hi grain)) (started_reads k n (st.Forall lo hi grain) m rest (omega (arith, few4)))))))

-- ---- statements with blocks

-- What may follow a statement: anything but `else`.
abbrev pub NoElse : Toks → Type 0
NoElse rest = sees (is_key keys.Else) rest ≡ false

block_begins : {d : ℕ} {ts : Toks} {xs : List Stmt} → IsBlock d ts xs → (rest : Toks) → NoOperator (ts ++ rest)
block_begins IsBlock.missing rest = missing_none rest
block_begins (IsBlock.braces {inside = ts} h) rest = left_brace_none ((ts ++ Tok.sign signs.RightBrace ∷ []) ++ rest)

no_else_reads : (inner : Parser Tok (List Stmt)) (rest : Toks) → NoElse rest → else_block inner rest ≡ Ok ([], rest)
unfolding else_block
no_else_reads inner rest f = either_second (is_key keys.Else) inner (pure []) rest f refl

module _ (n d : ℕ) (inner : Parser Tok (List Stmt)) (c : Completes n inner (IsBlock d) Any) where
  if_only_reads : {ts us : Toks} {x : Expr} {xs : List Stmt} → IsExpr d ts x → IsBlock d us xs → (rest : Toks) → NoElse rest → length ((ts ++ us) ++ rest) < n → if_statement d inner ((ts ++ us) ++ rest) ≡ Ok (st.If x xs [], rest)
  unfolding if_statement
  if_only_reads {ts} {us} {x} {xs} h k rest f few =
      reads_then (expr_completes n d) h us rest (block_begins k rest) few (λ x. inner >>= λ xs. else_block inner >>= λ ys. pure (st.If x xs ys))
      (then_reads (λ xs. else_block inner >>= λ ys. pure (st.If x xs ys)) (c.reads us xs k rest tt (behind_few n ts us rest few))
      (then_reads (λ ys. pure (st.If x xs ys)) (no_else_reads inner rest f) refl))

  if_else_reads : {ts us vs : Toks} {x : Expr} {xs ys : List Stmt} → IsExpr d ts x → IsBlock d us xs → IsBlock d vs ys → (rest : Toks) → length ((ts ++ (us ++ Tok.key keys.Else ∷ vs)) ++ rest) < n
      → if_statement d inner ((ts ++ (us ++ Tok.key keys.Else ∷ vs)) ++ rest) ≡ Ok (st.If x xs ys, rest)
  unfolding if_statement else_block
  if_else_reads {ts} {us} {vs} {x} {xs} {ys} h k l rest few =
      let few2 = behind_few n ts (us ++ Tok.key keys.Else ∷ vs) rest few in
      let few3 : length (Tok.key keys.Else ∷ (vs ++ rest)) < n = behind_few n us (Tok.key keys.Else ∷ vs) rest few2 in
      reads_then (expr_completes n d) h (us ++ Tok.key keys.Else ∷ vs) rest (subst NoOperator (sym (append_assoc us (Tok.key keys.Else ∷ vs) rest)) (block_begins k (Tok.key keys.Else ∷ (vs ++ rest)))) few
      (λ x. inner >>= λ xs. else_block inner >>= λ ys. pure (st.If x xs ys))
      (reads_then c k (Tok.key keys.Else ∷ vs) rest tt few2 (λ xs. else_block inner >>= λ ys. pure (st.If x xs ys))
      (then_reads (λ ys. pure (st.If x xs ys)) (either_first (key_test keys.Else) inner (pure []) (vs ++ rest) (c.reads vs ys l rest tt (omega (arith, few3)))) refl))

  while_reads : {ts us : Toks} {x : Expr} {xs : List Stmt} → IsExpr d ts x → IsBlock d us xs → (rest : Toks) → length ((ts ++ us) ++ rest) < n → while_statement d inner ((ts ++ us) ++ rest) ≡ Ok (st.While x xs, rest)
  unfolding while_statement
  while_reads {ts} {us} {x} {xs} h k rest few =
      reads_then (expr_completes n d) h us rest (block_begins k rest) few (λ x. inner >>= λ xs. pure (st.While x xs))
      (then_reads (λ xs. pure (st.While x xs)) (c.reads us xs k rest tt (behind_few n ts us rest few)) refl)

  finish_reads : {us : Toks} {xs : List Stmt} → IsBlock d us xs → (rest : Toks) → length (us ++ rest) < n → finish inner (us ++ rest) ≡ Ok (st.Finish xs, rest)
  unfolding finish
  finish_reads {us} {xs} k rest few = then_reads (λ xs. pure (st.Finish xs)) (c.reads us xs k rest tt few) refl

-- Statements are read by whoever reads the blocks of their room.
stmt_reads : {d : ℕ} {ts : Toks} {x : Stmt} → IsStmt d ts x → (n : ℕ) (inner : Parser Tok (List Stmt)) → Completes n inner (IsBlock d) Any → (rest : Toks) → NoElse rest → length (ts ++ rest) < n → statement_with n d inner (ts ++ rest) ≡ Ok (x, rest)
stmt_reads (IsStmt.assign {depth = d} h) n inner c rest f few = assignment_reads h n (statement_with n d inner) (with_target n d inner) rest few
stmt_reads (IsStmt.let_fresh {depth = d} {inside = ts} h) n inner c rest f few = with_let n d inner (ts ++ rest) ∙ let_reads h n rest (omega (arith, few))
stmt_reads (IsStmt.call (IsCall.call o h)) n inner c rest f few = call_reads o h n inner rest (omega (arith, few))
stmt_reads (IsStmt.print {depth = d} {inside = ts} h) n inner c rest f few = with_print n d inner ((ts ++ Tok.sign signs.Semicolon ∷ []) ++ rest) ∙ print_reads h n rest (omega (arith, few))
stmt_reads (IsStmt.if_only {depth = d} {front = ts} {inside = us} h k) n inner c rest f few = with_if n d inner ((ts ++ us) ++ rest) ∙ if_only_reads n d inner c h k rest f (omega (arith, few))
stmt_reads (IsStmt.if_else {depth = d} {front = ts} {inside = us} {back = vs} h k l) n inner c rest f few = with_if n d inner ((ts ++ (us ++ Tok.key keys.Else ∷ vs)) ++ rest) ∙ if_else_reads n d inner c h k l rest (omega (arith, few))
stmt_reads (IsStmt.while_loop {depth = d} {front = ts} {inside = us} h k) n inner c rest f few = with_while n d inner ((ts ++ us) ++ rest) ∙ while_reads n d inner c h k rest (omega (arith, few))
stmt_reads (IsStmt.finish {depth = d} {inside = ts} h) n inner c rest f few = with_finish n d inner (ts ++ rest) ∙ finish_reads n d inner c h rest (omega (arith, few))
stmt_reads (IsStmt.spawn {task = m} j k) n inner c rest f few = spawn_reads j k n inner m rest few
stmt_reads (IsStmt.forall_loop {depth = d} {from = a} {to = b} {by = e} {inside = ts} {task = m} f g h k) n inner c rest free few =
    with_forall n d inner ((a ++ Tok.sign signs.DotDot ∷ (b ++ Tok.key keys.Grain ∷ (e ++ Tok.name m ∷ (ts ++ Tok.sign signs.Semicolon ∷ [])))) ++ rest) ∙ forall_reads f g h k n m rest (omega (arith, few))

-- ---- blocks

-- A statement begins so.
data BeginsStmt : Toks → Type 0 where
  a_target : {v : Name} {ts : Toks} → BeginsStmt (Tok.name v ∷ ts)
  the_heap : {at : Place} {ts : Toks} → BeginsStmt (Tok.heap at ∷ ts)
  a_key : {ts : Toks} (w : Keyword) → same_key w keys.Else ≡ false → BeginsStmt (Tok.key w ∷ ts)

assignment_begins : {d : ℕ} {fresh : Bool} {ts : Toks} {x : Stmt} → IsAssignment d fresh ts x → (rest : Toks) → BeginsStmt (ts ++ rest)
assignment_begins (IsAssignment.one h) rest = BeginsStmt.a_target
assignment_begins (IsAssignment.two h) rest = BeginsStmt.a_target

object_begins : {t : Tok} {object : Name} → IsObject t object → (ts : Toks) → BeginsStmt (t ∷ ts)
object_begins IsObject.named ts = BeginsStmt.a_target
object_begins IsObject.heap ts = BeginsStmt.the_heap

call_begins : {d : ℕ} {ts : Toks} {c : CallText} → IsCall d ts c → (us rest : Toks) → BeginsStmt ((ts ++ us) ++ rest)
call_begins (IsCall.call {inside = ts} o h) us rest = object_begins o (Tok.sign signs.Dot ∷ ((ts ++ us) ++ rest))

how_begins : {d : ℕ} {us : Toks} {h : HowText} → IsHow d us h → (ts rest : Toks) → BeginsStmt ((us ++ ts) ++ rest)
unfolding same_key
how_begins IsHow.here ts rest = BeginsStmt.a_key keys.Spawn refl
how_begins (IsHow.at h) ts rest = BeginsStmt.a_key keys.Spawn refl
how_begins IsHow.offer ts rest = BeginsStmt.a_key keys.Offer refl

stmt_begins : {d : ℕ} {ts : Toks} {x : Stmt} → IsStmt d ts x → (rest : Toks) → BeginsStmt (ts ++ rest)
unfolding same_key
stmt_begins (IsStmt.assign h) rest = assignment_begins h rest
stmt_begins (IsStmt.let_fresh h) rest = BeginsStmt.a_key keys.Let refl
stmt_begins (IsStmt.call h) rest = call_begins h (Tok.sign signs.Semicolon ∷ []) rest
stmt_begins (IsStmt.print h) rest = BeginsStmt.a_key keys.Print refl
stmt_begins (IsStmt.if_only h k) rest = BeginsStmt.a_key keys.If refl
stmt_begins (IsStmt.if_else h k l) rest = BeginsStmt.a_key keys.If refl
stmt_begins (IsStmt.while_loop h k) rest = BeginsStmt.a_key keys.While refl
stmt_begins (IsStmt.finish h) rest = BeginsStmt.a_key keys.Finish refl
stmt_begins (IsStmt.spawn {inside = ts} {task = n} j k) rest = how_begins j (Tok.name n ∷ (ts ++ Tok.sign signs.Semicolon ∷ [])) rest
stmt_begins (IsStmt.forall_loop f g h k) rest = BeginsStmt.a_key keys.Forall refl

begun_goes : {ts : Toks} → BeginsStmt ts → halts (is_sign signs.RightBrace) ts ≡ false
unfolding halts
begun_goes BeginsStmt.a_target = refl
begun_goes BeginsStmt.the_heap = refl
begun_goes (BeginsStmt.a_key w e) = refl

begun_no_else : {ts : Toks} → BeginsStmt ts → NoElse ts
unfolding sees
begun_no_else BeginsStmt.a_target = refl
begun_no_else BeginsStmt.the_heap = refl
begun_no_else (BeginsStmt.a_key w e) = e

pub stmts_begin : (d : ℕ) → Begins (is_sign signs.RightBrace) (IsStmt d) NoElse
stmts_begin d = record { goes = λ ts x h rest. begun_goes (stmt_begins h rest); follows = λ ts x h rest. begun_no_else (stmt_begins h rest) }

pub stmt_long : (d : ℕ) (ts : Toks) (x : Stmt) → IsStmt d ts x → 0 < length ts
unfolding halts
stmt_long d [] x h = absurd (let e = (stmts_begin d).goes [] x h [] in cc)
stmt_long d (t ∷ ts) x h = omega arith

brace_ends : (rest : Toks) → NoElse (Tok.sign signs.RightBrace ∷ rest) × (halts (is_sign signs.RightBrace) (Tok.sign signs.RightBrace ∷ rest) ≡ true)
unfolding sees halts same_sign
brace_ends rest = (refl, refl)

-- Statements with less room are read.
abbrev Under : ℕ → ℕ → Type 0
Under n d = (e : ℕ) → d ≡ suc e → Completes n (statement n e) (IsStmt e) NoElse

missing_reads : (n : ℕ) (rest : Toks) → block n 0 (Tok.missing ∷ rest) ≡ Ok ([], rest)
unfolding block
missing_reads n rest = expect_reads missing_test (pure []) rest refl

braces_read : (n d : ℕ) (ts : Toks) (xs : List Stmt) → IsStmts d ts xs → Completes n (statement n d) (IsStmt d) NoElse → (rest : Toks) → length ((ts ++ Tok.sign signs.RightBrace ∷ []) ++ rest) < n
    → block n (suc d) (Tok.sign signs.LeftBrace ∷ ((ts ++ Tok.sign signs.RightBrace ∷ []) ++ rest)) ≡ Ok (xs, rest)
unfolding block braces
braces_read n d ts xs h c rest few =
    expect_reads (sign_test signs.LeftBrace) (run (is_sign signs.RightBrace) (statement n d) n [] >>= λ xs. expect (is_sign signs.RightBrace) >> pure xs) ((ts ++ Tok.sign signs.RightBrace ∷ []) ++ rest)
    (reads_then (run_completes c (stmts_begin d)) (to_repeated h) (Tok.sign signs.RightBrace ∷ []) rest (brace_ends rest) few (λ xs. expect (is_sign signs.RightBrace) >> pure xs)
    (expect_reads (sign_test signs.RightBrace) (pure xs) rest refl))

block_reads : {d : ℕ} {ts : Toks} {xs : List Stmt} → IsBlock d ts xs → (n : ℕ) → Under n d → (rest : Toks) → length (ts ++ rest) < n → block n d (ts ++ rest) ≡ Ok (xs, rest)
block_reads IsBlock.missing n under rest few = missing_reads n rest
block_reads (IsBlock.braces {depth = d} {inside = ts} {body = xs} h) n under rest few = braces_read n d ts xs h (under d refl) rest (omega (arith, few))

none_under : (n : ℕ) → Under n 0
none_under n e h = absurd (omega (arith, h))

no_room_completes : (n : ℕ) → Completes {A = List Stmt} n no_room (IsBlock 0) Any
unfolding block
no_room_completes n = record { reads = λ ts xs h rest f few. block_reads h n (none_under n) rest few }

braces_complete : (n d : ℕ) → Completes n (statement n d) (IsStmt d) NoElse → Completes n (braces n (statement n d)) (IsBlock (suc d)) Any
unfolding block
braces_complete n d c = record {
  reads = λ ts xs h rest f few. block_reads h n (λ e g. let same : d ≡ e = omega (arith, g) in subst (λ (q : ℕ). Completes n (statement n q) (IsStmt q) NoElse) same c) rest few;
}

pub statement_completes : (n d : ℕ) → Completes n (statement n d) (IsStmt d) NoElse
unfolding statement
statement_completes n zero = record { reads = λ ts x h rest f few. stmt_reads h n no_room (no_room_completes n) rest f few }
statement_completes n (suc d) = record { reads = λ ts x h rest f few. stmt_reads h n (braces n (statement n d)) (braces_complete n d (statement_completes n d)) rest f few }

pub block_completes : (n d : ℕ) → Completes n (block n d) (IsBlock d) Any
unfolding block
block_completes n zero = no_room_completes n
block_completes n (suc d) = braces_complete n d (statement_completes n d)
