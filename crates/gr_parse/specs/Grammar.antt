-- The grammar of programs, on that of expressions and calls: which tokens spell a statement, an item, a program; and the first fault of a text that is no program.
use Rattle.std.specs.Prelude.{◌≡◌, ◌≢◌, ℕ, zero, suc, Bool, true, false, List, [], ◌∷◌, ◌++◌}
use Rattle.gr_meets.specs.Lists.{Repeated, Separated, Enclosed}
use Rattle.gr_meets.specs.Faults.{Continues}
use Rattle.gr_syntax.specs.declared.syntax.Place.{Place}
use Rattle.gr_syntax.specs.declared.syntax.Name.{Name}
use Rattle.gr_syntax.specs.declared.syntax.Number.{Number}
use Rattle.gr_syntax.specs.declared.syntax.Expr.{Expr}
use Rattle.gr_syntax.specs.declared.syntax.CallText.{CallText}
use Rattle.gr_syntax.specs.declared.syntax.Right.{Right}
use Rattle.gr_syntax.specs.declared.syntax.Right.TheVariants as rights
use Rattle.gr_syntax.specs.declared.syntax.HowText.{HowText}
use Rattle.gr_syntax.specs.declared.syntax.HowText.TheVariants as hows
use Rattle.gr_syntax.specs.declared.syntax.Stmt.{Stmt}
use Rattle.gr_syntax.specs.declared.syntax.Stmt.TheVariants as stmts
use Rattle.gr_syntax.specs.declared.syntax.Item.{Item}
use Rattle.gr_syntax.specs.declared.syntax.Item.TheVariants as items
use Rattle.gr_syntax.specs.declared.syntax.Program.{Program}
use Rattle.gr_text.specs.declared.token.Keyword.TheVariants as words
use Rattle.gr_text.specs.declared.token.Sign.TheVariants as signs
use Rattle.gr_text.specs.declared.token.TokenKind.TheVariants as kinds
use Rattle.gr_text.specs.declared.token.Token.{Token}
use Rattle.gr_expressions.specs.Tok.{Tok, Toks, toks}
use Rattle.gr_expressions.specs.Expressions.{IsExpr, IsName, IsNumber, IsArgs, IsCall}
use Rattle.gr_parse.specs.declared.fault.ParseError.{ParseError}
use Rattle.gr_parse.specs.declared.fault.ParseError.TheVariants as errors
use Rattle.gr_parse.specs.declared.limits.TheConstants.{MAX_NESTING}

-- ---- statements

-- expr | call
pub data IsRight : ℕ → Toks → Right → Type 0 where
  value : {depth : ℕ} {inside : Toks} {inner : Expr} → IsExpr depth inside inner → IsRight depth inside (rights.Value inner)
  result : {depth : ℕ} {inside : Toks} {done : CallText} → IsCall depth inside done → IsRight depth inside (rights.Result done)

-- NAME "=" ( expr | call ) ";" | NAME "," NAME "=" call ";"
pub data IsAssignment : ℕ → Bool → Toks → Stmt → Type 0 where
  one : {depth : ℕ} {fresh : Bool} {target : Name} {inside : Toks} {right : Right} → IsRight depth inside right
      → IsAssignment depth fresh (Tok.name target ∷ (Tok.sign signs.Assign ∷ (inside ++ Tok.sign signs.Semicolon ∷ []))) (stmts.Set1 fresh (target ∷ []) right)
  two : {depth : ℕ} {fresh : Bool} {first second : Name} {inside : Toks} {done : CallText} → IsCall depth inside done
      → IsAssignment depth fresh (Tok.name first ∷ (Tok.sign signs.Comma ∷ (Tok.name second ∷ (Tok.sign signs.Assign ∷ (inside ++ Tok.sign signs.Semicolon ∷ []))))) (stmts.Set1 fresh (first ∷ second ∷ []) (rights.Result done))

-- "spawn" [ "at" expr ] | "offer"
pub data IsHow : ℕ → Toks → HowText → Type 0 where
  here : {depth : ℕ} → IsHow depth (Tok.key words.Spawn ∷ []) hows.Here
  at : {depth : ℕ} {inside : Toks} {core : Expr} → IsExpr depth inside core → IsHow depth (Tok.key words.Spawn ∷ (Tok.key words.At ∷ inside)) (hows.At core)
  offer : {depth : ℕ} → IsHow depth (Tok.key words.Offer ∷ []) hows.Offer

mutual
  pub data IsStmt : ℕ → Toks → Stmt → Type 0 where
    assign : {depth : ℕ} {inside : Toks} {assignment : Stmt} → IsAssignment depth false inside assignment → IsStmt depth inside assignment
    let_fresh : {depth : ℕ} {inside : Toks} {assignment : Stmt} → IsAssignment depth true inside assignment → IsStmt depth (Tok.key words.Let ∷ inside) assignment
    call : {depth : ℕ} {inside : Toks} {done : CallText} → IsCall depth inside done → IsStmt depth (inside ++ Tok.sign signs.Semicolon ∷ []) (stmts.Do done)
    print : {depth : ℕ} {inside : Toks} {value : Expr} → IsExpr depth inside value → IsStmt depth (Tok.key words.Print ∷ (inside ++ Tok.sign signs.Semicolon ∷ [])) (stmts.Print value)
    if_only : {depth : ℕ} {front inside : Toks} {test : Expr} {body : List Stmt} → IsExpr depth front test → IsBlock depth inside body → IsStmt depth (Tok.key words.If ∷ (front ++ inside)) (stmts.If test body [])
    if_else : {depth : ℕ} {front inside back : Toks} {test : Expr} {body other : List Stmt} → IsExpr depth front test → IsBlock depth inside body → IsBlock depth back other
        → IsStmt depth (Tok.key words.If ∷ (front ++ (inside ++ Tok.key words.Else ∷ back))) (stmts.If test body other)
    while_loop : {depth : ℕ} {front inside : Toks} {test : Expr} {body : List Stmt} → IsExpr depth front test → IsBlock depth inside body → IsStmt depth (Tok.key words.While ∷ (front ++ inside)) (stmts.While test body)
    finish : {depth : ℕ} {inside : Toks} {body : List Stmt} → IsBlock depth inside body → IsStmt depth (Tok.key words.Finish ∷ inside) (stmts.Finish body)
    spawn : {depth : ℕ} {front inside : Toks} {how : HowText} {task : Name} {args : List Expr} → IsHow depth front how → IsArgs depth inside args
        → IsStmt depth (front ++ Tok.name task ∷ (inside ++ Tok.sign signs.Semicolon ∷ [])) (stmts.Spawn how task args)
    forall_loop : {depth : ℕ} {from to by inside : Toks} {lo hi grain : Expr} {task : Name} {args : List Expr} → IsExpr depth from lo → IsExpr depth to hi → IsExpr depth by grain → IsArgs depth inside args
        → IsStmt depth (Tok.key words.Forall ∷ (from ++ Tok.sign signs.DotDot ∷ (to ++ Tok.key words.Grain ∷ (by ++ Tok.name task ∷ (inside ++ Tok.sign signs.Semicolon ∷ []))))) (stmts.Forall lo hi grain task args)

  -- block = "{" { statement } "}"
  -- As for arguments: a block for which there is no room is spelled by a token that no text has.
  pub data IsBlock : ℕ → Toks → List Stmt → Type 0 where
    missing : IsBlock zero (Tok.missing ∷ []) []
    braces : {depth : ℕ} {inside : Toks} {body : List Stmt} → IsStmts depth inside body → IsBlock (suc depth) (Tok.sign signs.LeftBrace ∷ (inside ++ Tok.sign signs.RightBrace ∷ [])) body

  pub data IsStmts : ℕ → Toks → List Stmt → Type 0 where
    none : {depth : ℕ} → IsStmts depth [] []
    one_more : {depth : ℕ} {front back : Toks} {first : Stmt} {others : List Stmt} → IsStmt depth front first → IsStmts depth back others → IsStmts depth (front ++ back) (first ∷ others)

-- ---- items

pub data IsItem : Toks → Item → Type 0 where
  array : {name : Name} {size : Number} → IsItem (Tok.key words.Array ∷ (Tok.name name ∷ (Tok.sign signs.LeftBracket ∷ (Tok.number size ∷ (Tok.sign signs.RightBracket ∷ (Tok.sign signs.Semicolon ∷ [])))))) (items.Array name size)
  set : {name : Name} → IsItem (Tok.key words.Set ∷ (Tok.name name ∷ (Tok.sign signs.Semicolon ∷ []))) (items.Set name)
  map : {name : Name} → IsItem (Tok.key words.Map ∷ (Tok.name name ∷ (Tok.sign signs.Semicolon ∷ []))) (items.Map name)
  vector : {name : Name} → IsItem (Tok.key words.Vector ∷ (Tok.name name ∷ (Tok.sign signs.Semicolon ∷ []))) (items.Vector name)
  heap : {at : Place} {size : Number} → IsItem (Tok.heap at ∷ (Tok.number size ∷ (Tok.sign signs.Semicolon ∷ []))) (items.Heap size)
  show : {name : Name} → IsItem (Tok.key words.Show ∷ (Tok.name name ∷ (Tok.sign signs.Semicolon ∷ []))) (items.Show name)
  input : {name : Name} {inside : Toks} {values : List Number} → Separated (Tok.sign signs.Comma) IsNumber inside values
      → IsItem (Tok.key words.Input ∷ (Tok.name name ∷ (Tok.sign signs.Assign ∷ (inside ++ Tok.sign signs.Semicolon ∷ [])))) (items.Input name values)
  task : {name : Name} {front inside : Toks} {params : List Name} {body : List Stmt} → Enclosed (Tok.sign signs.RightParen) (Tok.sign signs.Comma) IsName front params → IsBlock MAX_NESTING inside body
      → IsItem (Tok.key words.Task ∷ (Tok.name name ∷ (Tok.sign signs.LeftParen ∷ (front ++ inside)))) (items.Task name params body)

-- text = { item }
abbrev pub IsProgram : Toks → List Item → Type 0
IsProgram = Repeated IsItem

-- The program that this text spells, which has these tokens: all but the last, which is the end.
pub record IsProgramOf (text : List ℕ) (tokens : List Token) (program : Program) : Type 0 where
  pub front : List Token
  pub end : Token
  pub parts : tokens ≡ front ++ end ∷ []
  pub ended : end.kind ≡ kinds.End
  pub spelled : IsProgram (toks text front) program.items
  pub place : program.end ≡ end.at

-- ---- the first fault

-- What stands before this token of the text begins a program.
pub record Reached (text : List ℕ) (tokens : List Token) (line column : ℕ) : Type 0 where
  pub front : List Token
  pub token : Token
  pub rest : List Token
  pub parts : tokens ≡ front ++ token ∷ rest
  pub place : token.at ≡ record { line = line; column = column }
  pub before : Continues IsProgram (toks text front)

-- What an error says, but for want of memory: no program goes on with the token at this place, or ends at the end that stands there.
abbrev pub Says : ParseError → List ℕ → List Token → Type 0
Says errors.OutOfMemory text tokens = Unit {0}
Says (errors.Unexpected line column) text tokens = (reached : Reached text tokens line column) × (reached.token.kind ≡ kinds.End → ⊥) × (Continues IsProgram (toks text (reached.front ++ reached.token ∷ [])) → ⊥)
Says (errors.UnexpectedEnd line column) text tokens = (reached : Reached text tokens line column) × (reached.token.kind ≡ kinds.End) × ((found : List Item) → IsProgram (toks text reached.front) found → ⊥)

-- The error says where the first fault is, and isn't want of memory.
abbrev pub IsFault : ParseError → List ℕ → List Token → Type 0
IsFault error text tokens = (error ≢ errors.OutOfMemory) × Says error text tokens
