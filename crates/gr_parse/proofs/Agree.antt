-- Statements, blocks, items and programs: enough turns are enough.
use Rattle.std.proofs.Common.{◌≡◌, ℕ, zero, suc, Bool, true, false, List, [], Option, Some, None, Ok, refl}
use Rattle.gr_meets.specs.Parsers.{Parser, pure, refuse, halts}
use Rattle.gr_meets.specs.LanguageWords.{Meets, Agree, Exact}
use Rattle.gr_meets.proofs.Completes.{reads_whole}
use Rattle.gr_meets.proofs.Agrees.{agree_self, agree_bind, agree_skip, agree_expect, agree_either, agree_look, shortens, takes}
use Rattle.gr_meets.proofs.Runs.{run_meets, run_agree, run_takes_all}
use Rattle.gr_syntax.specs.declared.syntax.Name.{Name}
use Rattle.gr_syntax.specs.declared.syntax.Expr.{Expr}
use Rattle.gr_syntax.specs.declared.syntax.HowText.TheVariants as how
use Rattle.gr_syntax.specs.declared.syntax.Stmt.{Stmt}
use Rattle.gr_syntax.specs.declared.syntax.Stmt.TheVariants as st
use Rattle.gr_syntax.specs.declared.syntax.Item.{Item}
use Rattle.gr_syntax.specs.declared.syntax.Item.TheVariants as items
use Rattle.gr_text.specs.declared.token.Keyword.TheVariants as keys
use Rattle.gr_text.specs.declared.token.Sign.TheVariants as signs
use Rattle.gr_expressions.specs.Tok.{Tok, is_sign, Toks}
use Rattle.gr_expressions.specs.TokWords.{is_key, name_of, heap_of, never}
use Rattle.gr_expressions.specs.OperandsWords.{no_room}
use Rattle.gr_expressions.specs.Expressions.{IsObject}
use Rattle.gr_expressions.proofs.Exprs.{expr_meets}
use Rattle.gr_expressions.proofs.Calls.{name_meets, args_meets, operation_meets, method_meets, call_meets, numbers_meets}
use Rattle.gr_expressions.proofs.CallsComplete.{args_agree, operation_agree, method_agree, call_agree, numbers_agree, params_list_agree}
use Rattle.gr_parse.specs.declared.limits.TheConstants.{MAX_NESTING}
use Rattle.gr_parse.specs.ParsingWords.{array, named_item, named_right, heap_right, right_by, right_side, one_target, two_targets, assignment, let_statement, named_statement, heap_statement, print, else_block, if_statement, while_statement, finish, started, spawn, forall_statement, plain_statement, key_statement, heap_or, name_or, statement_with, braces, statement, block, input, params, task, key_item, item_by, item, program}
use Rattle.gr_parse.specs.Grammar.{IsBlock, IsStmt, IsProgram}
use Rattle.gr_parse.proofs.Stmts.{right_meets, spawned_at_meets, else_meets, no_room_meets, braces_meets, statement_meets, block_meets}
use Rattle.gr_parse.proofs.StmtsComplete.{stmt_long}
use Rattle.gr_parse.proofs.ItemsMeet.{params_meets, item_meets, program_meets}
use Rattle.gr_parse.proofs.ItemsComplete.{item_long, program_completes}

module _ (n m d : ℕ) where
  named_right_agree : (o : Name) → Agree n m (named_right n d o) (named_right m d o)
  unfolding named_right
  named_right_agree o = agree_either (is_sign signs.Dot) (agree_bind (operation_agree n m d o) (shortens (operation_meets n d o)) (λ c. agree_self)) agree_self

  heap_right_agree : (o : Option Name) → Agree n m (heap_right n d o) (heap_right m d o)
  heap_right_agree None = agree_self
  heap_right_agree (Some o) = agree_skip (agree_bind (method_agree n m d o) (shortens (method_meets n d (Tok.name o) o IsObject.named)) (λ c. agree_self))

  right_by_agree : (o : Option Name) → Agree n m (right_by n d o) (right_by m d o)
  right_by_agree None = agree_look heap_of (heap_right n d) (heap_right m d) heap_right_agree
  right_by_agree (Some o) = agree_skip (named_right_agree o)

  right_agree : Agree n m (right_side n d) (right_side m d)
  unfolding right_side
  right_agree = agree_look name_of (right_by n d) (right_by m d) right_by_agree

  one_target_agree : (fresh : Bool) (o : Name) → Agree n m (one_target n d fresh o) (one_target m d fresh o)
  unfolding one_target
  one_target_agree fresh o = agree_bind right_agree (shortens (right_meets n d)) (λ r. agree_self)

  two_targets_agree : (fresh : Bool) (o : Name) → Agree n m (two_targets n d fresh o) (two_targets m d fresh o)
  unfolding two_targets
  two_targets_agree fresh o = agree_bind agree_self (shortens name_meets) (λ p. agree_expect (is_sign signs.Assign) (agree_bind (call_agree n m d) (shortens (call_meets n d)) (λ c. agree_self)))

  assignment_agree : (fresh : Bool) (o : Name) → Agree n m (assignment n d fresh o) (assignment m d fresh o)
  unfolding assignment
  assignment_agree fresh o = agree_either (is_sign signs.Assign) (one_target_agree fresh o) (agree_expect (is_sign signs.Comma) (two_targets_agree fresh o))

  let_agree : Agree n m (let_statement n d) (let_statement m d)
  unfolding let_statement
  let_agree = agree_bind agree_self (shortens name_meets) (λ o. assignment_agree true o)

  named_statement_agree : (o : Name) → Agree n m (named_statement n d o) (named_statement m d o)
  unfolding named_statement
  named_statement_agree o = agree_either (is_sign signs.Dot) (agree_bind (operation_agree n m d o) (shortens (operation_meets n d o)) (λ c. agree_self)) (assignment_agree false o)

  heap_statement_agree : (o : Name) → Agree n m (heap_statement n d o) (heap_statement m d o)
  unfolding heap_statement
  heap_statement_agree o = agree_bind (method_agree n m d o) (shortens (method_meets n d (Tok.name o) o IsObject.named)) (λ c. agree_self)

  started_agree : (make : Name → List Expr → Stmt) → Agree n m (started n d make) (started m d make)
  unfolding started
  started_agree make = agree_bind agree_self (shortens name_meets) (λ o. agree_bind (args_agree n m d) (shortens (args_meets n d)) (λ xs. agree_self))

  spawn_agree : Agree n m (spawn n d) (spawn m d)
  unfolding spawn
  spawn_agree = agree_bind agree_self (shortens (spawned_at_meets d)) (λ h. started_agree (st.Spawn h))

  forall_agree : Agree n m (forall_statement n d) (forall_statement m d)
  unfolding forall_statement
  forall_agree = agree_bind agree_self (shortens (expr_meets d)) (λ lo. agree_expect (is_sign signs.DotDot)
      (agree_bind agree_self (shortens (expr_meets d)) (λ hi. agree_expect (is_key keys.Grain)
      (agree_bind agree_self (shortens (expr_meets d)) (λ grain. started_agree (st.Forall lo hi grain))))))

  plain_agree : Agree n m (plain_statement n d) (plain_statement m d)
  unfolding plain_statement
  plain_agree = agree_either (is_key keys.Let) let_agree
      (agree_either (is_key keys.Print) (agree_self {p = print d})
      (agree_either (is_key keys.Spawn) spawn_agree
      (agree_either (is_key keys.Offer) (started_agree (st.Spawn how.Offer))
      (agree_either (is_key keys.Forall) forall_agree (agree_self {p = refuse})))))

  module _ (p q : Parser Tok (List Stmt)) (same : Agree n m p q) (reads : Meets p (IsBlock d) (IsBlock d)) where
    else_agree : Agree n m (else_block p) (else_block q)
    unfolding else_block
    else_agree = agree_either (is_key keys.Else) same (agree_self {p = pure []})

    if_agree : Agree n m (if_statement d p) (if_statement d q)
    unfolding if_statement
    if_agree = agree_bind agree_self (shortens (expr_meets d)) (λ x. agree_bind same (shortens reads) (λ xs. agree_bind else_agree (shortens (else_meets n d p reads)) (λ ys. agree_self)))

    while_agree : Agree n m (while_statement d p) (while_statement d q)
    unfolding while_statement
    while_agree = agree_bind agree_self (shortens (expr_meets d)) (λ x. agree_bind same (shortens reads) (λ xs. agree_self))

    finish_agree : Agree n m (finish p) (finish q)
    unfolding finish
    finish_agree = agree_bind same (shortens reads) (λ xs. agree_self)

    key_agree : Agree n m (key_statement n d p) (key_statement m d q)
    unfolding key_statement
    key_agree = agree_either (is_key keys.If) if_agree (agree_either (is_key keys.While) while_agree (agree_either (is_key keys.Finish) finish_agree plain_agree))

    heap_or_agree : (o : Option Name) → Agree n m (heap_or n d p o) (heap_or m d q o)
    heap_or_agree None = key_agree
    heap_or_agree (Some o) = agree_skip (heap_statement_agree o)

    name_or_agree : (o : Option Name) → Agree n m (name_or n d p o) (name_or m d q o)
    name_or_agree None = agree_look heap_of (heap_or n d p) (heap_or m d q) heap_or_agree
    name_or_agree (Some o) = agree_skip (named_statement_agree o)

    statement_with_agree : Agree n m (statement_with n d p) (statement_with m d q)
    unfolding statement_with
    statement_with_agree = agree_look name_of (name_or n d p) (name_or m d q) name_or_agree

-- ---- blocks

braces_agree : (n m d : ℕ) (p q : Parser Tok Stmt) → Agree n m p q → Meets p (IsStmt d) (IsStmt d) → Agree n m (braces n p) (braces m q)
unfolding braces
braces_agree n m d p q same reads = agree_expect (is_sign signs.LeftBrace)
    (agree_bind (run_agree (is_sign signs.RightBrace) [] same (takes reads (stmt_long d))) (shortens (run_meets (is_sign signs.RightBrace) n reads)) (λ xs. agree_self))

pub statement_agree : (n m d : ℕ) → Agree n m (statement n d) (statement m d)
unfolding statement
statement_agree n m zero = statement_with_agree n m 0 no_room no_room agree_self no_room_meets
statement_agree n m (suc d) = statement_with_agree n m (suc d) (braces n (statement n d)) (braces m (statement m d))
    (braces_agree n m d (statement n d) (statement m d) (statement_agree n m d) (statement_meets n d)) (braces_meets n d (statement n d) (statement_meets n d))

pub block_agree : (n m d : ℕ) → Agree n m (block n d) (block m d)
unfolding block
block_agree n m zero = agree_self
block_agree n m (suc d) = braces_agree n m d (statement n d) (statement m d) (statement_agree n m d) (statement_meets n d)

-- ---- items

module _ (n m : ℕ) where
  input_agree : Agree n m (input n) (input m)
  unfolding input
  input_agree = agree_bind agree_self (shortens name_meets) (λ o. agree_expect (is_sign signs.Assign) (agree_bind (numbers_agree n m) (shortens (numbers_meets n)) (λ ws. agree_self)))

  params_agree : Agree n m (params n) (params m)
  unfolding params
  params_agree = agree_expect (is_sign signs.LeftParen) (params_list_agree n m)

  task_agree : Agree n m (task n) (task m)
  unfolding task
  task_agree = agree_bind agree_self (shortens name_meets) (λ o. agree_bind params_agree (shortens (params_meets n)) (λ ps. agree_bind (block_agree n m MAX_NESTING) (shortens (block_meets n MAX_NESTING)) (λ xs. agree_self)))

  key_item_agree : Agree n m (key_item n) (key_item m)
  unfolding key_item
  key_item_agree = agree_either (is_key keys.Array) (agree_self {p = array})
      (agree_either (is_key keys.Set) (agree_self {p = named_item items.Set})
      (agree_either (is_key keys.Map) (agree_self {p = named_item items.Map})
      (agree_either (is_key keys.Vector) (agree_self {p = named_item items.Vector})
      (agree_either (is_key keys.Show) (agree_self {p = named_item items.Show})
      (agree_either (is_key keys.Input) input_agree
      (agree_either (is_key keys.Task) task_agree (agree_self {p = refuse})))))))

  item_by_agree : (o : Option Name) → Agree n m (item_by n o) (item_by m o)
  item_by_agree None = key_item_agree
  item_by_agree (Some o) = agree_self

  item_agree : Agree n m (item n) (item m)
  unfolding item
  item_agree = agree_look heap_of (item_by n) (item_by m) item_by_agree

  pub program_agree : Agree n m (program n) (program m)
  unfolding program
  program_agree = run_agree never [] item_agree (takes (item_meets n) item_long)

-- ---- all together

program_ends : (n : ℕ) (ts : Toks) (xs : List Item) (rest : Toks) → program n ts ≡ Ok (xs, rest) → rest ≡ []
unfolding program
program_ends n ts xs rest h = run_takes_all never (item n) n [] xs ts rest (λ t. refl) h

nothing_halts : halts never [] ≡ true
unfolding halts
nothing_halts = refl

-- The parser reads exactly the programs.
pub exact : Exact program IsProgram
exact = record {
  meets = program_meets;
  agree = program_agree;
  ends = program_ends;
  reads = λ n ts xs h few. reads_whole (program_completes n) (tt, nothing_halts) ts xs h few;
}
