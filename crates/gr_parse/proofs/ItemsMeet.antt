-- Items and programs: what was read is spelled so, and what was refused goes on until there.
use Rattle.std.proofs.Common.{◌≡◌, ℕ, List, [], ◌∷◌, ◌++◌, Option, Some, None, refl, sym, subst}
use Rattle.std.proofs.lemmas.List.{append-nil}
use Rattle.gr_meets.specs.Parsers.{peek}
use Rattle.gr_meets.specs.LanguageWords.{Read, Meets}
use Rattle.gr_meets.specs.Lists.{Separated, Enclosed}
use Rattle.gr_meets.proofs.Meets.{weaken, meets_pure, meets_refuse, look_meets, skip_then, expect_then, either_meets, bind, peek_means}
use Rattle.gr_meets.proofs.Runs.{run_meets}
use Rattle.gr_syntax.specs.declared.syntax.Place.{Place}
use Rattle.gr_syntax.specs.declared.syntax.Name.{Name}
use Rattle.gr_syntax.specs.declared.syntax.Stmt.{Stmt}
use Rattle.gr_syntax.specs.declared.syntax.Item.{Item}
use Rattle.gr_syntax.specs.declared.syntax.Item.TheVariants as items
use Rattle.gr_text.specs.declared.token.Keyword.TheVariants as keys
use Rattle.gr_text.specs.declared.token.Sign.TheVariants as signs
use Rattle.gr_expressions.specs.Tok.{Tok, Toks}
use Rattle.gr_expressions.specs.TokWords.{heap_of, never}
use Rattle.gr_expressions.specs.Expressions.{IsName, IsNumber}
use Rattle.gr_expressions.proofs.TokenTests.{sign_test, key_test}
use Rattle.gr_expressions.proofs.Exprs.{nought}
use Rattle.gr_expressions.proofs.Calls.{nameless, name_then, number_then, semicolon_then, numbers_meets, params_list_meets}
use Rattle.gr_parse.specs.declared.limits.TheConstants.{MAX_NESTING}
use Rattle.gr_parse.specs.ParsingWords.{array, named_item, heap_item, input, params, task, key_item, item_by, item, program}
use Rattle.gr_parse.specs.Grammar.{IsBlock, IsItem, IsProgram}
use Rattle.gr_parse.proofs.Stmts.{some_block, block_meets}

array_meets : Meets array (λ b y. IsItem (Tok.key keys.Array ∷ b) y) (λ b y. IsItem (Tok.key keys.Array ∷ b) y)
unfolding array
array_meets =
    let close : Toks = Tok.sign signs.RightBracket ∷ (Tok.sign signs.Semicolon ∷ []) in
    name_then
    (λ n. expect_then (sign_test signs.LeftBracket)
    (number_then
    (λ w. expect_then (sign_test signs.RightBracket)
    (semicolon_then (meets_pure IsItem.array) [] (items.Array n w) IsItem.array)
    (Tok.sign signs.Semicolon ∷ []) (items.Array n w) IsItem.array)
    (Tok.number nought ∷ close) (items.Array n nought) IsItem.array)
    (Tok.number nought ∷ close) (items.Array n nought) IsItem.array)
    (Tok.name nameless ∷ (Tok.sign signs.LeftBracket ∷ (Tok.number nought ∷ close))) (items.Array nameless nought) IsItem.array

-- A name behind the tokens of K, where such an item makes K.
named_meets : (make : Name → Item) (K : Toks → Item → Type 0) → ((n : Name) → K (Tok.name n ∷ (Tok.sign signs.Semicolon ∷ [])) (make n)) → Meets (named_item make) K K
unfolding named_item
named_meets make K h = name_then (λ n. semicolon_then (meets_pure (h n)) [] (make n) (h n)) (Tok.name nameless ∷ (Tok.sign signs.Semicolon ∷ [])) (make nameless) (h nameless)

-- Only the token of the heap is an object by its own place.
heap_spelled : (t : Tok) (n : Name) → heap_of t ≡ Some n → (at : Place) × (t ≡ Tok.heap at)
heap_spelled (Tok.heap at) n e = (at, refl)
heap_spelled (Tok.name m) n e = absurd cc
heap_spelled (Tok.number m) n e = absurd cc
heap_spelled (Tok.key w) n e = absurd cc
heap_spelled (Tok.sign g) n e = absurd cc
heap_spelled Tok.missing n e = absurd cc

heap_meets : (at : Place) → Meets heap_item (λ b y. IsItem (Tok.heap at ∷ b) y) (λ b y. IsItem (Tok.heap at ∷ b) y)
unfolding heap_item
heap_meets at = number_then (λ w. semicolon_then (meets_pure IsItem.heap) [] (items.Heap w) IsItem.heap) (Tok.number nought ∷ (Tok.sign signs.Semicolon ∷ [])) (items.Heap nought) IsItem.heap

input_meets : (turns : ℕ) → Meets (input turns) (λ b y. IsItem (Tok.key keys.Input ∷ b) y) (λ b y. IsItem (Tok.key keys.Input ∷ b) y)
unfolding input
input_meets turns =
    let one : Separated (Tok.sign signs.Comma) IsNumber (Tok.number nought ∷ []) (nought ∷ []) = Separated.last IsNumber.number in
    name_then
    (λ n. expect_then (sign_test signs.Assign)
    (bind (numbers_meets turns)
    (λ ws. semicolon_then (meets_pure (λ a h. IsItem.input h)) [] (items.Input n ws) (λ a h. IsItem.input h))
    (λ a ws h. (Tok.sign signs.Semicolon ∷ [], items.Input n ws, IsItem.input h)))
    (Tok.number nought ∷ (Tok.sign signs.Semicolon ∷ [])) (items.Input n (nought ∷ [])) (IsItem.input one))
    (Tok.name nameless ∷ (Tok.sign signs.Assign ∷ (Tok.number nought ∷ (Tok.sign signs.Semicolon ∷ [])))) (items.Input nameless (nought ∷ [])) (IsItem.input one)

-- The parameters of a task, with their brackets.
pub data IsParams : Toks → List Name → Type 0 where
  brackets : {ts : Toks} {ps : List Name} → Enclosed (Tok.sign signs.RightParen) (Tok.sign signs.Comma) IsName ts ps → IsParams (Tok.sign signs.LeftParen ∷ ts) ps

pub params_meets : (turns : ℕ) → Meets (params turns) IsParams IsParams
unfolding params
params_meets turns = expect_then (sign_test signs.LeftParen) (weaken (params_list_meets turns) (λ ts ps h. IsParams.brackets h) (λ ts ps h. IsParams.brackets h))
    (Tok.sign signs.RightParen ∷ []) [] (IsParams.brackets Enclosed.empty)

task_made : {n : Name} {ts us : Toks} {ps : List Name} {xs : List Stmt} → IsParams ts ps → IsBlock MAX_NESTING us xs → IsItem (Tok.key keys.Task ∷ (Tok.name n ∷ (ts ++ (us ++ [])))) (items.Task n ps xs)
task_made {n} {us} {ps} {xs} (IsParams.brackets {ts} h) k = subst (λ (v : Toks). IsItem (Tok.key keys.Task ∷ (Tok.name n ∷ (Tok.sign signs.LeftParen ∷ (ts ++ v)))) (items.Task n ps xs)) (sym (append-nil us)) (IsItem.task h k)

task_meets : (turns : ℕ) → Meets (task turns) (λ b y. IsItem (Tok.key keys.Task ∷ b) y) (λ b y. IsItem (Tok.key keys.Task ∷ b) y)
unfolding task
task_meets turns =
    let any = some_block MAX_NESTING in
    let none : IsParams (Tok.sign signs.LeftParen ∷ (Tok.sign signs.RightParen ∷ [])) [] = IsParams.brackets Enclosed.empty in
    name_then
    (λ n. bind (params_meets turns)
    (λ ps. bind (block_meets turns MAX_NESTING)
    (λ xs. meets_pure (λ b k a h. task_made h k))
    (λ b xs k. ([], items.Task n ps xs, λ a h. task_made h k)))
    (λ a ps h. (any.0 ++ [], items.Task n ps [], task_made h any.1)))
    (Tok.name nameless ∷ (Tok.sign signs.LeftParen ∷ (Tok.sign signs.RightParen ∷ (any.0 ++ [])))) (items.Task nameless [] []) (task_made none any.1)

key_item_meets : (turns : ℕ) → Meets (key_item turns) IsItem IsItem
unfolding key_item
key_item_meets turns = either_meets (key_test keys.Array) array_meets
    (either_meets (key_test keys.Set) (named_meets items.Set (λ b y. IsItem (Tok.key keys.Set ∷ b) y) (λ n. IsItem.set))
    (either_meets (key_test keys.Map) (named_meets items.Map (λ b y. IsItem (Tok.key keys.Map ∷ b) y) (λ n. IsItem.map))
    (either_meets (key_test keys.Vector) (named_meets items.Vector (λ b y. IsItem (Tok.key keys.Vector ∷ b) y) (λ n. IsItem.vector))
    (either_meets (key_test keys.Show) (named_meets items.Show (λ b y. IsItem (Tok.key keys.Show ∷ b) y) (λ n. IsItem.show))
    (either_meets (key_test keys.Input) (input_meets turns)
    (either_meets (key_test keys.Task) (task_meets turns)
    (meets_refuse (Tok.key keys.Set ∷ (Tok.name nameless ∷ (Tok.sign signs.Semicolon ∷ []))) (items.Set nameless) IsItem.set)))))))

item_read : (turns : ℕ) (o : Option Name) (ts : Toks) → peek heap_of ts ≡ o → Read (item_by turns o) IsItem IsItem ts (item_by turns o ts)
item_read turns None ts h = (key_item_meets turns).at ts
item_read turns (Some n) ts h =
    let m = peek_means heap_of n ts h in
    let w = heap_spelled m.token n m.means in
    skip_then m.token heap_item IsItem IsItem ts m.heads
    (subst (λ (u : Tok). Meets heap_item (λ b y. IsItem (u ∷ b) y) (λ b y. IsItem (u ∷ b) y)) (sym w.1) (heap_meets w.0))

pub item_meets : (turns : ℕ) → Meets (item turns) IsItem IsItem
unfolding item
item_meets turns = look_meets heap_of (item_by turns) (item_read turns)

pub program_meets : (turns : ℕ) → Meets (program turns) IsProgram IsProgram
unfolding program
program_meets turns = run_meets never turns (item_meets turns)
