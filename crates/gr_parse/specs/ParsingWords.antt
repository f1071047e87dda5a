-- The parser as a specification, from statements on: what each function of the code reads, from the tokens that are left.
use Rattle.std.specs.Prelude.{ℕ, zero, suc, Bool, true, false, List, [], ◌∷◌, Option, Some, None}
use Rattle.gr_meets.specs.Parsers.{Parser, ◌>>=◌, ◌>>◌, pure, refuse, skip, expect, either, look, run, separated, enclosed}
use Rattle.gr_syntax.specs.declared.syntax.Name.{Name}
use Rattle.gr_syntax.specs.declared.syntax.Expr.{Expr}
use Rattle.gr_syntax.specs.declared.syntax.Expr.TheVariants as e
use Rattle.gr_syntax.specs.declared.syntax.CallText.{CallText}
use Rattle.gr_syntax.specs.declared.syntax.Right.{Right}
use Rattle.gr_syntax.specs.declared.syntax.Right.TheVariants as right
use Rattle.gr_syntax.specs.declared.syntax.HowText.{HowText}
use Rattle.gr_syntax.specs.declared.syntax.HowText.TheVariants as how
use Rattle.gr_syntax.specs.declared.syntax.Stmt.{Stmt}
use Rattle.gr_syntax.specs.declared.syntax.Stmt.TheVariants as st
use Rattle.gr_syntax.specs.declared.syntax.Item.{Item}
use Rattle.gr_syntax.specs.declared.syntax.Item.TheVariants as items
use Rattle.gr_text.specs.declared.token.Keyword.TheVariants as k
use Rattle.gr_text.specs.declared.token.Sign.TheVariants as s
use Rattle.gr_expressions.specs.Tok.{Tok, is_sign}
use Rattle.gr_expressions.specs.TokWords.{is_key, name_of, heap_of, never}
use Rattle.gr_expressions.specs.OperandsWords.{name, number, semicolon, expr, expr_from, no_room, args, operation, method, call}
use Rattle.gr_parse.specs.declared.limits.TheConstants.{MAX_NESTING}
pub use Rattle.gr_expressions.specs.OperandsWords.{plenty}

-- ---- statements

-- A call or an expression that begins with this name.
unfoldable pub named_right : ℕ → ℕ → Name → Parser Tok Right
named_right turns d n = either (is_sign s.Dot) (operation turns d n >>= λ c. pure (right.Result c)) (expr_from d (e.Local n) >>= λ x. pure (right.Value x))

abbrev pub heap_right : ℕ → ℕ → Option Name → Parser Tok Right
heap_right turns d None = expr d >>= λ x. pure (right.Value x)
heap_right turns d (Some n) = skip >> (method turns d n >>= λ c. pure (right.Result c))

abbrev pub right_by : ℕ → ℕ → Option Name → Parser Tok Right
right_by turns d None = look heap_of (heap_right turns d)
right_by turns d (Some n) = skip >> named_right turns d n

-- What stands behind `=`.
unfoldable pub right_side : ℕ → ℕ → Parser Tok Right
right_side turns d = look name_of (right_by turns d)

unfoldable pub one_target : ℕ → ℕ → Bool → Name → Parser Tok Stmt
one_target turns d fresh n = right_side turns d >>= λ r. semicolon >> pure (st.Set1 fresh (n ∷ []) r)

unfoldable pub two_targets : ℕ → ℕ → Bool → Name → Parser Tok Stmt
two_targets turns d fresh n = name >>= λ m. expect (is_sign s.Assign) >> (call turns d >>= λ c. semicolon >> pure (st.Set1 fresh (n ∷ m ∷ []) (right.Result c)))

-- An assignment behind its first target.
unfoldable pub assignment : ℕ → ℕ → Bool → Name → Parser Tok Stmt
assignment turns d fresh n = either (is_sign s.Assign) (one_target turns d fresh n) (expect (is_sign s.Comma) >> two_targets turns d fresh n)

-- A statement behind `let`.
unfoldable pub let_statement : ℕ → ℕ → Parser Tok Stmt
let_statement turns d = name >>= assignment turns d true

abbrev pub done : CallText → Parser Tok Stmt
done c = semicolon >> pure (st.Do c)

-- A statement behind the name that it begins with.
unfoldable pub named_statement : ℕ → ℕ → Name → Parser Tok Stmt
named_statement turns d n = either (is_sign s.Dot) (operation turns d n >>= done) (assignment turns d false n)

-- A statement behind `heap`.
unfoldable pub heap_statement : ℕ → ℕ → Name → Parser Tok Stmt
heap_statement turns d n = method turns d n >>= done

unfoldable pub print : ℕ → Parser Tok Stmt
print d = expr d >>= λ x. semicolon >> pure (st.Print x)

-- The block behind `else`, or an empty one.
unfoldable pub else_block : Parser Tok (List Stmt) → Parser Tok (List Stmt)
else_block inner = either (is_key k.Else) inner (pure [])

unfoldable pub if_statement : ℕ → Parser Tok (List Stmt) → Parser Tok Stmt
if_statement d inner = expr d >>= λ x. inner >>= λ xs. else_block inner >>= λ ys. pure (st.If x xs ys)

unfoldable pub while_statement : ℕ → Parser Tok (List Stmt) → Parser Tok Stmt
while_statement d inner = expr d >>= λ x. inner >>= λ xs. pure (st.While x xs)

unfoldable pub finish : Parser Tok (List Stmt) → Parser Tok Stmt
finish inner = inner >>= λ xs. pure (st.Finish xs)

-- A task's name and its arguments, and what is made of them.
unfoldable pub started : ℕ → ℕ → (Name → List Expr → Stmt) → Parser Tok Stmt
started turns d make = name >>= λ n. args turns d >>= λ xs. semicolon >> pure (make n xs)

-- Where a task is spawned.
unfoldable pub spawned_at : ℕ → Parser Tok HowText
spawned_at d = either (is_key k.At) (expr d >>= λ x. pure (how.At x)) (pure how.Here)

unfoldable pub spawn : ℕ → ℕ → Parser Tok Stmt
spawn turns d = spawned_at d >>= λ h. started turns d (st.Spawn h)

unfoldable pub forall_statement : ℕ → ℕ → Parser Tok Stmt
forall_statement turns d = expr d >>= λ lo. expect (is_sign s.DotDot) >> (expr d >>= λ hi. expect (is_key k.Grain) >> (expr d >>= λ grain. started turns d (st.Forall lo hi grain)))

-- A statement that begins with a keyword and has no block.
unfoldable pub plain_statement : ℕ → ℕ → Parser Tok Stmt
plain_statement turns d = either (is_key k.Let) (let_statement turns d)
    (either (is_key k.Print) (print d)
    (either (is_key k.Spawn) (spawn turns d)
    (either (is_key k.Offer) (started turns d (st.Spawn how.Offer))
    (either (is_key k.Forall) (forall_statement turns d) refuse))))

-- A statement that begins with a keyword.
unfoldable pub key_statement : ℕ → ℕ → Parser Tok (List Stmt) → Parser Tok Stmt
key_statement turns d inner = either (is_key k.If) (if_statement d inner)
    (either (is_key k.While) (while_statement d inner)
    (either (is_key k.Finish) (finish inner) (plain_statement turns d)))

abbrev pub heap_or : ℕ → ℕ → Parser Tok (List Stmt) → Option Name → Parser Tok Stmt
heap_or turns d inner None = key_statement turns d inner
heap_or turns d inner (Some n) = skip >> heap_statement turns d n

abbrev pub name_or : ℕ → ℕ → Parser Tok (List Stmt) → Option Name → Parser Tok Stmt
name_or turns d inner None = look heap_of (heap_or turns d inner)
name_or turns d inner (Some n) = skip >> named_statement turns d n

-- A statement whose blocks are read so.
unfoldable pub statement_with : ℕ → ℕ → Parser Tok (List Stmt) → Parser Tok Stmt
statement_with turns d inner = look name_of (name_or turns d inner)

-- Statements between braces.
unfoldable pub braces : ℕ → Parser Tok Stmt → Parser Tok (List Stmt)
braces turns statement = expect (is_sign s.LeftBrace) >> (run (is_sign s.RightBrace) statement turns [] >>= λ xs. expect (is_sign s.RightBrace) >> pure xs)

-- A statement, with room for so many nestings.
unfoldable pub statement : ℕ → ℕ → Parser Tok Stmt
statement turns zero = statement_with turns zero no_room
statement turns (suc d) = statement_with turns (suc d) (braces turns (statement turns d))

-- A block, with room for so many nestings.
unfoldable pub block : ℕ → ℕ → Parser Tok (List Stmt)
block turns zero = no_room
block turns (suc d) = braces turns (statement turns d)

-- ---- items

unfoldable pub array : Parser Tok Item
array = name >>= λ n. expect (is_sign s.LeftBracket) >> (number >>= λ w. expect (is_sign s.RightBracket) >> (semicolon >> pure (items.Array n w)))

-- A name, and what is made of it.
unfoldable pub named_item : (Name → Item) → Parser Tok Item
named_item make = name >>= λ n. semicolon >> pure (make n)

unfoldable pub heap_item : Parser Tok Item
heap_item = number >>= λ w. semicolon >> pure (items.Heap w)

unfoldable pub input : ℕ → Parser Tok Item
input turns = name >>= λ n. expect (is_sign s.Assign) >> (separated (is_sign s.Comma) number turns >>= λ ws. semicolon >> pure (items.Input n ws))

unfoldable pub params : ℕ → Parser Tok (List Name)
params turns = expect (is_sign s.LeftParen) >> enclosed (is_sign s.RightParen) (is_sign s.Comma) name turns

unfoldable pub task : ℕ → Parser Tok Item
task turns = name >>= λ n. params turns >>= λ ps. block turns MAX_NESTING >>= λ xs. pure (items.Task n ps xs)

unfoldable pub key_item : ℕ → Parser Tok Item
key_item turns = either (is_key k.Array) array
    (either (is_key k.Set) (named_item items.Set)
    (either (is_key k.Map) (named_item items.Map)
    (either (is_key k.Vector) (named_item items.Vector)
    (either (is_key k.Show) (named_item items.Show)
    (either (is_key k.Input) (input turns)
    (either (is_key k.Task) (task turns) refuse))))))

abbrev pub item_by : ℕ → Option Name → Parser Tok Item
item_by turns None = key_item turns
item_by turns (Some n) = skip >> heap_item

unfoldable pub item : ℕ → Parser Tok Item
item turns = look heap_of (item_by turns)

-- Items, to the end of the tokens.
unfoldable pub program : ℕ → Parser Tok (List Item)
program turns = run never (item turns) turns []
