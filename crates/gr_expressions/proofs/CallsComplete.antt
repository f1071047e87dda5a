-- Names, numbers, arguments and calls: what is spelled is read, and enough turns are enough.
use Rattle.std.proofs.Common.{◌≡◌, ℕ, zero, suc, ◌<◌, false, List, [], ◌∷◌, ◌++◌, length, Some, None, Ok, refl, sym, subst, append_assoc, arith}
use Rattle.gr_meets.specs.Parsers.{Outcome, Parser, ◌>>=◌, ◌>>◌, pure, next, peek, sees, enclosed, separated}
use Rattle.gr_meets.specs.LanguageWords.{Completes, Agree, Shortens}
use Rattle.gr_meets.specs.Lists.{Separated, Enclosed}
use Rattle.gr_meets.proofs.Completes.{then_reads, expect_reads, look_reads, value_reads, value_is, completes_weaken}
use Rattle.gr_meets.proofs.Agrees.{agree_self, agree_bind, agree_expect, agree_value, shortens}
use Rattle.gr_meets.proofs.Commas.{separated_meets, separated_completes, enclosed_completes, separated_agree, enclosed_agree}
use Rattle.gr_syntax.specs.declared.syntax.Name.{Name}
use Rattle.gr_syntax.specs.declared.syntax.Number.{Number}
use Rattle.gr_syntax.specs.declared.syntax.Expr.{Expr}
use Rattle.gr_syntax.specs.declared.syntax.Expr.TheVariants as tree
use Rattle.gr_syntax.specs.declared.syntax.CallText.{CallText}
use Rattle.gr_text.specs.declared.token.Keyword.{Keyword}
use Rattle.gr_text.specs.declared.token.Sign.TheVariants as signs
use Rattle.gr_expressions.specs.Tok.{Tok, is_sign, same_sign, sign_of, Toks}
use Rattle.gr_expressions.specs.TokWords.{name_of, number_of, object_of, operator}
use Rattle.gr_expressions.specs.OperandsWords.{name, number, semicolon, expr, args, some_name, reducer, operation, method, call}
use Rattle.gr_expressions.specs.Expressions.{call_of, IsUnary, IsLevel, IsComparison, IsExpr, IsName, IsNumber, IsArgs, IsOperation, IsCall}
use Rattle.gr_expressions.proofs.TokenTests.{sign_test, missing_test, object_means}
use Rattle.gr_expressions.proofs.Exprs.{expr_meets, nought, nought_is}
use Rattle.gr_expressions.proofs.Complete.{Any, NoOperator, expr_completes}
use Rattle.gr_expressions.proofs.Calls.{nameless, name_meets, number_meets, args_meets, reducer_meets}

-- ---- what things begin with

-- An expression begins so.
pub data BeginsExpr : Toks → Type 0 where
  a_number : {v : Number} {ts : Toks} → BeginsExpr (Tok.number v ∷ ts)
  a_local : {v : Name} {ts : Toks} → BeginsExpr (Tok.name v ∷ ts)
  bang : {ts : Toks} → BeginsExpr (Tok.sign signs.Bang ∷ ts)
  bracket : {ts : Toks} → BeginsExpr (Tok.sign signs.LeftParen ∷ ts)

unary_begins : {d n : ℕ} {ts : Toks} {x : Expr} → IsUnary d ts x n → (rest : Toks) → BeginsExpr (ts ++ rest)
unary_begins IsUnary.number rest = BeginsExpr.a_number
unary_begins IsUnary.local rest = BeginsExpr.a_local
unary_begins (IsUnary.not h) rest = BeginsExpr.bang
unary_begins (IsUnary.group h) rest = BeginsExpr.bracket

level_begins : {d l n : ℕ} {ts : Toks} {x : Expr} → IsLevel d l ts x n → (rest : Toks) → BeginsExpr (ts ++ rest)
level_begins (IsLevel.unary h) rest = unary_begins h rest
level_begins (IsLevel.tighter h) rest = level_begins h rest
level_begins (IsLevel.two {front = a} {back = b} o at h k) rest = subst BeginsExpr (sym (append_assoc a (Tok.sign (sign_of o) ∷ b) rest)) (level_begins h (Tok.sign (sign_of o) ∷ (b ++ rest)))

comparison_begins : {d n : ℕ} {ts : Toks} {x : Expr} → IsComparison d ts x n → (rest : Toks) → BeginsExpr (ts ++ rest)
comparison_begins (IsComparison.one h) rest = level_begins h rest
comparison_begins (IsComparison.compared {front = a} {back = b} o at h k) rest = subst BeginsExpr (sym (append_assoc a (Tok.sign (sign_of o) ∷ b) rest)) (level_begins h (Tok.sign (sign_of o) ∷ (b ++ rest)))

pub expr_begins : {d : ℕ} {ts : Toks} {x : Expr} → IsExpr d ts x → (rest : Toks) → BeginsExpr (ts ++ rest)
expr_begins h rest = comparison_begins h.spelled rest

no_close : {ts : Toks} → BeginsExpr ts → sees (is_sign signs.RightParen) ts ≡ false
unfolding sees same_sign
no_close BeginsExpr.a_number = refl
no_close BeginsExpr.a_local = refl
no_close BeginsExpr.bang = refl
no_close BeginsExpr.bracket = refl

-- Arguments begin so.
pub data BeginsArgs : Toks → Type 0 where
  missing : {ts : Toks} → BeginsArgs (Tok.missing ∷ ts)
  brackets : {ts : Toks} → BeginsArgs (Tok.sign signs.LeftParen ∷ ts)

pub args_begin : {d : ℕ} {ts : Toks} {xs : List Expr} → IsArgs d ts xs → (rest : Toks) → BeginsArgs (ts ++ rest)
args_begin IsArgs.missing rest = BeginsArgs.missing
args_begin (IsArgs.brackets h) rest = BeginsArgs.brackets

no_name : {ts : Toks} → BeginsArgs ts → peek name_of ts ≡ None
unfolding peek
no_name BeginsArgs.missing = refl
no_name BeginsArgs.brackets = refl

-- ---- names, numbers, comma lists

pub name_reads : {A : Type 0} {r : Outcome Tok A} (n : Name) (q : Name → Parser Tok A) (ts : Toks) → q n ts ≡ r → (name >>= q) (Tok.name n ∷ ts) ≡ r
unfolding name
name_reads n q ts h = value_reads name_of q ts refl h

pub number_reads : {A : Type 0} {r : Outcome Tok A} (n : Number) (q : Number → Parser Tok A) (ts : Toks) → q n ts ≡ r → (number >>= q) (Tok.number n ∷ ts) ≡ r
unfolding number
number_reads n q ts h = value_reads number_of q ts refl h

pub semicolon_reads : {A : Type 0} {r : Outcome Tok A} (p : Parser Tok A) (ts : Toks) → p ts ≡ r → (semicolon >> p) (Tok.sign signs.Semicolon ∷ ts) ≡ r
unfolding semicolon
semicolon_reads p ts h = expect_reads (sign_test signs.Semicolon) p ts h

name_is_read : (ts : Toks) (n : Name) → IsName ts n → (rest : Toks) → name (ts ++ rest) ≡ Ok (n, rest)
unfolding name
name_is_read ts n IsName.name rest = value_is name_of rest refl

pub name_completes : (n : ℕ) → Completes n name IsName Any
name_completes n = record { reads = λ ts x h rest f few. name_is_read ts x h rest }

number_is_read : (ts : Toks) (n : Number) → IsNumber ts n → (rest : Toks) → number (ts ++ rest) ≡ Ok (n, rest)
unfolding number
number_is_read ts n IsNumber.number rest = value_is number_of rest refl

pub number_completes : (n : ℕ) → Completes n number IsNumber Any
number_completes n = record { reads = λ ts x h rest f few. number_is_read ts x h rest }

-- Numbers are read in front of what is no comma.
pub numbers_complete : (n : ℕ) → Completes n (separated (is_sign signs.Comma) number n) (Separated (Tok.sign signs.Comma) IsNumber) (λ rest. sees (is_sign signs.Comma) rest ≡ false)
numbers_complete n = completes_weaken (separated_completes (sign_test signs.Comma) (number_completes n) (λ rest. tt)) (λ ts x h. h) (λ rest f. (tt, f))

name_no_close : (ts : Toks) (x : Name) → IsName ts x → (rest : Toks) → sees (is_sign signs.RightParen) (ts ++ rest) ≡ false
unfolding sees
name_no_close ts x IsName.name rest = refl

close_no_comma : is_sign signs.Comma (Tok.sign signs.RightParen) ≡ false
unfolding same_sign
close_no_comma = refl

pub params_list_completes : (n : ℕ) → Completes n (enclosed (is_sign signs.RightParen) (is_sign signs.Comma) name n) (Enclosed (Tok.sign signs.RightParen) (Tok.sign signs.Comma) IsName) Any
params_list_completes n = enclosed_completes (sign_test signs.RightParen) (sign_test signs.Comma) (name_completes n) (λ rest. tt) (λ rest. tt) close_no_comma name_no_close

-- A sign that is no binary sign may follow an expression.
pub comma_none : (rest : Toks) → NoOperator (Tok.sign signs.Comma ∷ rest)
unfolding peek operator
comma_none rest = λ i k. refl

pub right_paren_none : (rest : Toks) → NoOperator (Tok.sign signs.RightParen ∷ rest)
unfolding peek operator
right_paren_none rest = λ i k. refl

pub semicolon_none : (rest : Toks) → NoOperator (Tok.sign signs.Semicolon ∷ rest)
unfolding peek operator
semicolon_none rest = λ i k. refl

pub left_brace_none : (rest : Toks) → NoOperator (Tok.sign signs.LeftBrace ∷ rest)
unfolding peek operator
left_brace_none rest = λ i k. refl

pub dot_dot_none : (rest : Toks) → NoOperator (Tok.sign signs.DotDot ∷ rest)
unfolding peek operator
dot_dot_none rest = λ i k. refl

pub name_none : (n : Name) (rest : Toks) → NoOperator (Tok.name n ∷ rest)
unfolding peek operator
name_none n rest = λ i k. refl

pub key_none : (w : Keyword) (rest : Toks) → NoOperator (Tok.key w ∷ rest)
unfolding peek operator
key_none w rest = λ i k. refl

pub missing_none : (rest : Toks) → NoOperator (Tok.missing ∷ rest)
unfolding peek operator
missing_none rest = λ i k. refl

pub exprs_complete : (n d : ℕ) → Completes n (enclosed (is_sign signs.RightParen) (is_sign signs.Comma) (expr d) n) (Enclosed (Tok.sign signs.RightParen) (Tok.sign signs.Comma) (IsExpr d)) Any
exprs_complete n d = enclosed_completes (sign_test signs.RightParen) (sign_test signs.Comma) (expr_completes n d) comma_none right_paren_none close_no_comma (λ ts x h rest. no_close (expr_begins h rest))

-- ---- arguments

args_deep : (n d : ℕ) (ts : Toks) (r : Outcome Tok (List Expr)) → enclosed (is_sign signs.RightParen) (is_sign signs.Comma) (expr d) n ts ≡ r → args n (suc d) (Tok.sign signs.LeftParen ∷ ts) ≡ r
unfolding args
args_deep n d ts r h = expect_reads (sign_test signs.LeftParen) (enclosed (is_sign signs.RightParen) (is_sign signs.Comma) (expr d) n) ts h

args_missing : (n : ℕ) (rest : Toks) → args n 0 (Tok.missing ∷ rest) ≡ Ok ([], rest)
unfolding args
args_missing n rest = expect_reads missing_test (pure []) rest refl

args_read : {d : ℕ} {ts : Toks} {xs : List Expr} → IsArgs d ts xs → (n : ℕ) (rest : Toks) → length (ts ++ rest) < n → args n d (ts ++ rest) ≡ Ok (xs, rest)
args_read IsArgs.missing n rest few = args_missing n rest
args_read (IsArgs.brackets {depth = d} {inside = ts} {args = xs} h) n rest few = args_deep n d (ts ++ rest) (Ok (xs, rest)) ((exprs_complete n d).reads ts xs h rest tt (omega (arith, few)))

pub args_complete : (n d : ℕ) → Completes n (args n d) (IsArgs d) Any
args_complete n d = record { reads = λ ts xs h rest f few. args_read h n rest few }

-- ---- calls

no_reducer : (ts : Toks) → peek name_of ts ≡ None → reducer ts ≡ Ok (None, ts)
unfolding reducer
no_reducer ts h = look_reads name_of some_name h refl

reducer_is : (n : Name) (ts : Toks) → reducer (Tok.name n ∷ ts) ≡ Ok (Some n, ts)
unfolding reducer peek next
reducer_is n ts = refl

operation_read : {d : ℕ} {object : Name} {ts : Toks} {c : CallText} → IsOperation d object ts c → (n : ℕ) (rest : Toks) → length (ts ++ rest) < n → operation n d object (ts ++ rest) ≡ Ok (c, rest)
unfolding operation
operation_read (IsOperation.plain {depth = d} {object} {op} {inside = ts} {args = xs} h) n rest few =
    name_reads op (λ op. reducer >>= λ r. args n d >>= λ xs. pure (call_of object op r xs)) (ts ++ rest)
    (then_reads (λ r. args n d >>= λ xs. pure (call_of object op r xs)) (no_reducer (ts ++ rest) (no_name (args_begin h rest)))
    (then_reads (λ xs. pure (call_of object op None xs)) (args_read h n rest (omega (arith, few))) refl))
operation_read (IsOperation.reducing {depth = d} {object} {op} {reducer = by} {inside = ts} {args = xs} h) n rest few =
    name_reads op (λ op. reducer >>= λ r. args n d >>= λ xs. pure (call_of object op r xs)) (Tok.name by ∷ (ts ++ rest))
    (then_reads (λ r. args n d >>= λ xs. pure (call_of object op r xs)) (reducer_is by (ts ++ rest))
    (then_reads (λ xs. pure (call_of object op (Some by) xs)) (args_read h n rest (omega (arith, few))) refl))

pub operation_completes : (n d : ℕ) (object : Name) → Completes n (operation n d object) (IsOperation d object) Any
operation_completes n d object = record { reads = λ ts c h rest f few. operation_read h n rest few }

-- A call behind its object.
pub method_reads : {d : ℕ} {object : Name} {ts : Toks} {c : CallText} → IsOperation d object ts c → (n : ℕ) (rest : Toks) → length (ts ++ rest) < n → method n d object (Tok.sign signs.Dot ∷ (ts ++ rest)) ≡ Ok (c, rest)
unfolding method
method_reads {d} {object} {ts} {c} h n rest few = expect_reads (sign_test signs.Dot) (operation n d object) (ts ++ rest) (operation_read h n rest few)

call_read : {d : ℕ} {ts : Toks} {c : CallText} → IsCall d ts c → (n : ℕ) (rest : Toks) → length (ts ++ rest) < n → call n d (ts ++ rest) ≡ Ok (c, rest)
unfolding call
call_read (IsCall.call {depth = d} {token = t} {object} {inside = ts} {done = c} o h) n rest few = value_reads object_of (method n d) (Tok.sign signs.Dot ∷ (ts ++ rest)) (object_means o) (method_reads h n rest (omega (arith, few)))

pub call_completes : (n d : ℕ) → Completes n (call n d) (IsCall d) Any
call_completes n d = record { reads = λ ts c h rest f few. call_read h n rest few }

-- ---- enough turns

exprs_shorten : (n d : ℕ) → Shortens (separated (is_sign signs.Comma) (expr d) n)
exprs_shorten n d = shortens (separated_meets (sign_test signs.Comma) n (expr_meets d) (Tok.number nought ∷ []) (tree.Lit nought) (nought_is d))

pub args_agree : (n m d : ℕ) → Agree n m (args n d) (args m d)
unfolding args
args_agree n m zero = agree_self
args_agree n m (suc d) = agree_expect (is_sign signs.LeftParen) (enclosed_agree (is_sign signs.RightParen) (is_sign signs.Comma) agree_self (shortens (expr_meets d)) (exprs_shorten n d))

pub operation_agree : (n m d : ℕ) (object : Name) → Agree n m (operation n d object) (operation m d object)
unfolding operation
operation_agree n m d object = agree_bind agree_self (shortens name_meets)
    (λ op. agree_bind agree_self (shortens reducer_meets) (λ r. agree_bind (args_agree n m d) (shortens (args_meets n d)) (λ xs. agree_self)))

pub method_agree : (n m d : ℕ) (object : Name) → Agree n m (method n d object) (method m d object)
unfolding method
method_agree n m d object = agree_expect (is_sign signs.Dot) (operation_agree n m d object)

pub call_agree : (n m d : ℕ) → Agree n m (call n d) (call m d)
unfolding call
call_agree n m d = agree_value object_of (method_agree n m d)

pub numbers_agree : (n m : ℕ) → Agree n m (separated (is_sign signs.Comma) number n) (separated (is_sign signs.Comma) number m)
numbers_agree n m = separated_agree (is_sign signs.Comma) agree_self (shortens number_meets)

pub params_list_agree : (n m : ℕ) → Agree n m (enclosed (is_sign signs.RightParen) (is_sign signs.Comma) name n) (enclosed (is_sign signs.RightParen) (is_sign signs.Comma) name m)
params_list_agree n m = enclosed_agree (is_sign signs.RightParen) (is_sign signs.Comma) agree_self (shortens name_meets)
    (shortens (separated_meets (sign_test signs.Comma) n name_meets (Tok.name nameless ∷ []) nameless IsName.name))
