-- The grammar of expressions and calls: which tokens spell a name, a number, an expression, arguments, a call.
use Rattle.std.specs.Prelude.{◌≡◌, ℕ, zero, suc, ◌+◌, ◌≤◌, List, [], ◌∷◌, ◌++◌, Option, Some, None}
use Rattle.gr_meets.specs.Lists.{Enclosed}
use Rattle.gr_syntax.specs.declared.syntax.Place.{Place}
use Rattle.gr_syntax.specs.declared.syntax.Name.{Name}
use Rattle.gr_syntax.specs.declared.syntax.Number.{Number}
use Rattle.gr_syntax.specs.declared.syntax.BinOp.{BinOp}
use Rattle.gr_syntax.specs.declared.syntax.Expr.{Expr}
use Rattle.gr_syntax.specs.declared.syntax.Expr.TheVariants as exprs
use Rattle.gr_syntax.specs.declared.syntax.CallText.{CallText}
use Rattle.gr_text.specs.declared.token.Sign.TheVariants as signs
use Rattle.gr_expressions.specs.declared.limits.TheConstants.{LOOSEST, MAX_SIGNS}
use Rattle.gr_expressions.specs.Tok.{Tok, Toks, heap_name, sign_of, level_of}

-- ---- expressions. depth: there is room for so many nestings; count, more: so many binary signs, those in brackets included

mutual
  -- unary = "!" unary | NUMBER | NAME | "(" expr ")"
  pub data IsUnary : ℕ → Toks → Expr → ℕ → Type 0 where
    number : {depth : ℕ} {value : Number} → IsUnary depth (Tok.number value ∷ []) (exprs.Lit value) 0
    local : {depth : ℕ} {name : Name} → IsUnary depth (Tok.name name ∷ []) (exprs.Local name) 0
    not : {depth count : ℕ} {inside : Toks} {inner : Expr} → IsUnary depth inside inner count → IsUnary (suc depth) (Tok.sign signs.Bang ∷ inside) (exprs.Not inner) count
    group : {depth count : ℕ} {inside : Toks} {inner : Expr} → IsComparison depth inside inner count
        → IsUnary (suc depth) (Tok.sign signs.LeftParen ∷ (inside ++ Tok.sign signs.RightParen ∷ [])) inner count

  -- Operands and the signs of the levels below this one, each level grouped to the left: product, sum, band, bxor and bor for levels from 1 to 5.
  pub data IsLevel : ℕ → ℕ → Toks → Expr → ℕ → Type 0 where
    unary : {depth count : ℕ} {inside : Toks} {inner : Expr} → IsUnary depth inside inner count → IsLevel depth 0 inside inner count
    tighter : {depth level count : ℕ} {inside : Toks} {inner : Expr} → IsLevel depth level inside inner count → IsLevel depth (suc level) inside inner count
    two : {depth level count more : ℕ} {front back : Toks} {left right : Expr} (op : BinOp) → level_of op ≡ level → IsLevel depth (suc level) front left count → IsLevel depth level back right more
        → IsLevel depth (suc level) (front ++ Tok.sign (sign_of op) ∷ back) (exprs.Two op left right) (suc (count + more))

  -- expr = bor [ ( "==" | "!=" | "<" | "<=" | ">" | ">=" ) bor ]
  pub data IsComparison : ℕ → Toks → Expr → ℕ → Type 0 where
    one : {depth count : ℕ} {inside : Toks} {inner : Expr} → IsLevel depth LOOSEST inside inner count → IsComparison depth inside inner count
    compared : {depth count more : ℕ} {front back : Toks} {left right : Expr} (op : BinOp) → level_of op ≡ LOOSEST → IsLevel depth LOOSEST front left count → IsLevel depth LOOSEST back right more
        → IsComparison depth (front ++ Tok.sign (sign_of op) ∷ back) (exprs.Two op left right) (suc (count + more))

-- An expression, with no more signs than are allowed.
pub record IsExpr (depth : ℕ) (tokens : Toks) (value : Expr) : Type 0 where
  pub count : ℕ
  pub spelled : IsComparison depth tokens value count
  pub few : count ≤ MAX_SIGNS

-- ---- names, numbers, arguments, calls

pub data IsName : Toks → Name → Type 0 where
  name : {found : Name} → IsName (Tok.name found ∷ []) found

pub data IsNumber : Toks → Number → Type 0 where
  number : {found : Number} → IsNumber (Tok.number found ∷ []) found

-- args = "(" [ expr { "," expr } ] ")"
-- Arguments for which there is no room are spelled by a token that no text has: what stands before them still begins a program.
pub data IsArgs : ℕ → Toks → List Expr → Type 0 where
  missing : IsArgs zero (Tok.missing ∷ []) []
  brackets : {depth : ℕ} {inside : Toks} {args : List Expr} → Enclosed (Tok.sign signs.RightParen) (Tok.sign signs.Comma) (IsExpr depth) inside args → IsArgs (suc depth) (Tok.sign signs.LeftParen ∷ inside) args

-- NAME | "heap"
pub data IsObject : Tok → Name → Type 0 where
  named : {object : Name} → IsObject (Tok.name object) object
  heap : {at : Place} → IsObject (Tok.heap at) (heap_name at)

abbrev pub call_of : Name → Name → Option Name → List Expr → CallText
call_of object op reducer args = record { object = object; op = op; reducer = reducer; args = args }

-- NAME [ NAME ] args, as a call of this object's operation
pub data IsOperation : ℕ → Name → Toks → CallText → Type 0 where
  plain : {depth : ℕ} {object op : Name} {inside : Toks} {args : List Expr} → IsArgs depth inside args → IsOperation depth object (Tok.name op ∷ inside) (call_of object op None args)
  reducing : {depth : ℕ} {object op reducer : Name} {inside : Toks} {args : List Expr} → IsArgs depth inside args → IsOperation depth object (Tok.name op ∷ (Tok.name reducer ∷ inside)) (call_of object op (Some reducer) args)

-- call = ( NAME | "heap" ) "." NAME [ NAME ] args
pub data IsCall : ℕ → Toks → CallText → Type 0 where
  call : {depth : ℕ} {token : Tok} {object : Name} {inside : Toks} {done : CallText} → IsObject token object → IsOperation depth object inside done → IsCall depth (token ∷ (Tok.sign signs.Dot ∷ inside)) done
