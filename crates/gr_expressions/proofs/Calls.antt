-- Names, numbers, arguments and calls: what was read is spelled so, and what was refused goes on until there.
use Rattle.std.proofs.Common.{◌≡◌, ℕ, zero, suc, List, [], ◌∷◌, ◌++◌, Option, Some, None, sym, subst}
use Rattle.std.proofs.lemmas.List.{append-nil}
use Rattle.gr_meets.specs.Parsers.{Parser, ◌>>=◌, ◌>>◌, pure, peek, enclosed, separated}
use Rattle.gr_meets.specs.LanguageWords.{Read, Meets}
use Rattle.gr_meets.specs.Lists.{Separated, Enclosed}
use Rattle.gr_meets.proofs.Meets.{weaken, meets_pure, look_meets, skip_then, expect_then, bind, value_then, value_meets, peek_means}
use Rattle.gr_meets.proofs.Commas.{separated_meets, enclosed_meets}
use Rattle.gr_syntax.specs.declared.syntax.Name.{Name}
use Rattle.gr_syntax.specs.declared.syntax.Number.{Number}
use Rattle.gr_syntax.specs.declared.syntax.Expr.{Expr}
use Rattle.gr_syntax.specs.declared.syntax.Expr.TheVariants as tree
use Rattle.gr_syntax.specs.declared.syntax.CallText.{CallText}
use Rattle.gr_text.specs.declared.token.Sign.TheVariants as signs
use Rattle.gr_expressions.specs.Tok.{Tok, is_sign, Toks}
use Rattle.gr_expressions.specs.TokWords.{name_of, number_of}
use Rattle.gr_expressions.specs.OperandsWords.{name, number, semicolon, expr, args, some_name, reducer, operation, method, call}
use Rattle.gr_expressions.specs.Expressions.{call_of, IsExpr, IsName, IsNumber, IsArgs, IsObject, IsOperation, IsCall}
use Rattle.gr_expressions.proofs.TokenTests.{sign_test, missing_test, name_is, number_is, object_is}
use Rattle.gr_expressions.proofs.Exprs.{expr_meets, nought, nought_is}

-- ---- names, numbers, semicolons

-- Some name, for what may stand where one is wanted.
abbrev pub nameless : Name
nameless = record { text = []; at = record { line = 0; column = 0 } }

-- A name is taken, and q goes on with it. The last three arguments: what may stand here.
pub name_then : {A : Type 0} {q : Name → Parser Tok A} {K W : Toks → A → Type 0} → ((n : Name) → Meets (q n) (λ b y. K (Tok.name n ∷ b) y) (λ b y. W (Tok.name n ∷ b) y))
    → (b : Toks) (y : A) → W b y → Meets (name >>= q) K W
unfolding name
name_then {q} {K} {W} m b y some = value_then (λ t n h. subst (λ (u : Tok). Meets (q n) (λ b y. K (u ∷ b) y) (λ b y. W (u ∷ b) y)) (sym (name_is t n h)) (m n)) b y some

pub number_then : {A : Type 0} {q : Number → Parser Tok A} {K W : Toks → A → Type 0} → ((n : Number) → Meets (q n) (λ b y. K (Tok.number n ∷ b) y) (λ b y. W (Tok.number n ∷ b) y))
    → (b : Toks) (y : A) → W b y → Meets (number >>= q) K W
unfolding number
number_then {q} {K} {W} m b y some = value_then (λ t n h. subst (λ (u : Tok). Meets (q n) (λ b y. K (u ∷ b) y) (λ b y. W (u ∷ b) y)) (sym (number_is t n h)) (m n)) b y some

-- A semicolon is taken, and p goes on. The last three arguments: what may stand behind it.
pub semicolon_then : {A : Type 0} {p : Parser Tok A} {K W : Toks → A → Type 0} → Meets p (λ b y. K (Tok.sign signs.Semicolon ∷ b) y) (λ b y. W (Tok.sign signs.Semicolon ∷ b) y)
    → (b : Toks) (y : A) → W (Tok.sign signs.Semicolon ∷ b) y → Meets (semicolon >> p) K W
unfolding semicolon
semicolon_then m b y some = expect_then (sign_test signs.Semicolon) m b y some

name_spelled : (t : Tok) (n : Name) → name_of t ≡ Some n → IsName (t ∷ []) n
name_spelled t n h = subst (λ (u : Tok). IsName (u ∷ []) n) (sym (name_is t n h)) IsName.name

pub name_meets : Meets name IsName IsName
unfolding name
name_meets = value_meets name_spelled (Tok.name nameless ∷ []) nameless IsName.name

number_spelled : (t : Tok) (n : Number) → number_of t ≡ Some n → IsNumber (t ∷ []) n
number_spelled t n h = subst (λ (u : Tok). IsNumber (u ∷ []) n) (sym (number_is t n h)) IsNumber.number

pub number_meets : Meets number IsNumber IsNumber
unfolding number
number_meets = value_meets number_spelled (Tok.number nought ∷ []) nought IsNumber.number

-- ---- comma lists

pub params_list_meets : (turns : ℕ) → Meets (enclosed (is_sign signs.RightParen) (is_sign signs.Comma) name turns) (Enclosed (Tok.sign signs.RightParen) (Tok.sign signs.Comma) IsName) (Enclosed (Tok.sign signs.RightParen) (Tok.sign signs.Comma) IsName)
params_list_meets turns = enclosed_meets (sign_test signs.RightParen) (sign_test signs.Comma) turns name_meets (Tok.name nameless ∷ []) nameless IsName.name

pub numbers_meets : (turns : ℕ) → Meets (separated (is_sign signs.Comma) number turns) (Separated (Tok.sign signs.Comma) IsNumber) (Separated (Tok.sign signs.Comma) IsNumber)
numbers_meets turns = separated_meets (sign_test signs.Comma) turns number_meets (Tok.number nought ∷ []) nought IsNumber.number

pub exprs_meets : (turns d : ℕ) → Meets (enclosed (is_sign signs.RightParen) (is_sign signs.Comma) (expr d) turns) (Enclosed (Tok.sign signs.RightParen) (Tok.sign signs.Comma) (IsExpr d)) (Enclosed (Tok.sign signs.RightParen) (Tok.sign signs.Comma) (IsExpr d))
exprs_meets turns d = enclosed_meets (sign_test signs.RightParen) (sign_test signs.Comma) turns (expr_meets d) (Tok.number nought ∷ []) (tree.Lit nought) (nought_is d)

-- ---- arguments

-- Some arguments.
pub some_args : (d : ℕ) → (ts : Toks) × IsArgs d ts []
some_args zero = (Tok.missing ∷ [], IsArgs.missing)
some_args (suc d) = (Tok.sign signs.LeftParen ∷ (Tok.sign signs.RightParen ∷ []), IsArgs.brackets Enclosed.empty)

pub args_meets : (turns d : ℕ) → Meets (args turns d) (IsArgs d) (IsArgs d)
unfolding args
args_meets turns zero = expect_then missing_test (meets_pure IsArgs.missing) [] [] IsArgs.missing
args_meets turns (suc d) = expect_then (sign_test signs.LeftParen) (weaken (exprs_meets turns d) (λ ts xs h. IsArgs.brackets h) (λ ts xs h. IsArgs.brackets h))
    (Tok.sign signs.RightParen ∷ []) [] (IsArgs.brackets Enclosed.empty)

-- ---- calls

-- A reducer's name, or nothing.
pub data IsReducer : Toks → Option Name → Type 0 where
  none : IsReducer [] None
  some : {n : Name} → IsReducer (Tok.name n ∷ []) (Some n)

reducer_read : (o : Option Name) (ts : Toks) → peek name_of ts ≡ o → Read (some_name o) IsReducer IsReducer ts (some_name o ts)
reducer_read None ts h = (meets_pure {L = IsReducer} {W = IsReducer} IsReducer.none).at ts
reducer_read (Some n) ts h =
    let m = peek_means name_of n ts h in
    skip_then m.token (pure (Some n)) IsReducer IsReducer ts m.heads
    (meets_pure (subst (λ (u : Tok). IsReducer (u ∷ []) (Some n)) (sym (name_is m.token n m.means)) IsReducer.some))

pub reducer_meets : Meets reducer IsReducer IsReducer
unfolding reducer
reducer_meets = look_meets name_of some_name reducer_read

called : {d : ℕ} {object op : Name} {us : Toks} {r : Option Name} (ts : Toks) (xs : List Expr) → IsReducer us r → IsArgs d ts xs → IsOperation d object (Tok.name op ∷ (us ++ ts)) (call_of object op r xs)
called ts xs IsReducer.none h = IsOperation.plain h
called ts xs IsReducer.some h = IsOperation.reducing h

pub some_operation : (d : ℕ) (object : Name) → (ts : Toks) × (c : CallText) × IsOperation d object ts c
some_operation d object = let a = some_args d in (Tok.name nameless ∷ a.0, call_of object nameless None [], IsOperation.plain a.1)

pub operation_meets : (turns d : ℕ) (object : Name) → Meets (operation turns d object) (IsOperation d object) (IsOperation d object)
unfolding operation
operation_meets turns d object = let any = some_operation d object in name_then
    (λ op. bind reducer_meets
    (λ r. bind (args_meets turns d)
    (λ xs. meets_pure (λ ts h us k. subst (λ (v : Toks). IsOperation d object (Tok.name op ∷ (us ++ v)) (call_of object op r xs)) (sym (append-nil ts)) (called ts xs k h)))
    (λ ts xs h. ([], call_of object op r xs, λ us k. subst (λ (v : Toks). IsOperation d object (Tok.name op ∷ (us ++ v)) (call_of object op r xs)) (sym (append-nil ts)) (called ts xs k h))))
    (λ us r k. let a = some_args d in (a.0, call_of object op r [], called a.0 [] k a.1)))
    any.0 any.1 any.2

-- A call behind its object.
pub method_meets : (turns d : ℕ) (t : Tok) (object : Name) → IsObject t object → Meets (method turns d object) (λ ts c. IsCall d (t ∷ ts) c) (λ ts c. IsCall d (t ∷ ts) c)
unfolding method
method_meets turns d t object h = let any = some_operation d object in expect_then (sign_test signs.Dot)
    (weaken (operation_meets turns d object) (λ ts c k. IsCall.call h k) (λ ts c k. IsCall.call h k)) any.0 any.1 (IsCall.call h any.2)

-- Some call.
pub some_call : (d : ℕ) → (ts : Toks) × (c : CallText) × IsCall d ts c
some_call d = let any = some_operation d nameless in (Tok.name nameless ∷ (Tok.sign signs.Dot ∷ any.0), any.1, IsCall.call IsObject.named any.2)

pub call_meets : (turns d : ℕ) → Meets (call turns d) (IsCall d) (IsCall d)
unfolding call
call_meets turns d = let any = some_call d in value_then (λ t object h. method_meets turns d t object (object_is t object h)) any.0 any.1 any.2
