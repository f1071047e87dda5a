-- Items and programs: what is spelled is read.
use Rattle.std.proofs.Common.{◌≡◌, ℕ, ◌<◌, true, false, List, [], ◌∷◌, ◌++◌, length, Ok, refl, ap, subst, ◌∙◌, append_assoc, arith}
use Rattle.gr_meets.specs.Parsers.{◌>>=◌, ◌>>◌, pure, next, peek, sees, halts, expect, separated, enclosed}
use Rattle.gr_meets.specs.LanguageWords.{Completes}
use Rattle.gr_meets.specs.Lists.{Separated, Enclosed}
use Rattle.gr_meets.specs.ListsWords.{Begins}
use Rattle.gr_meets.proofs.Completes.{then_reads, expect_reads, reads_then}
use Rattle.gr_meets.proofs.Runs.{run_completes}
use Rattle.gr_syntax.specs.declared.syntax.Place.{Place}
use Rattle.gr_syntax.specs.declared.syntax.Name.{Name}
use Rattle.gr_syntax.specs.declared.syntax.Number.{Number}
use Rattle.gr_syntax.specs.declared.syntax.Stmt.{Stmt}
use Rattle.gr_syntax.specs.declared.syntax.Item.{Item}
use Rattle.gr_syntax.specs.declared.syntax.Item.TheVariants as items
use Rattle.gr_text.specs.declared.token.Keyword.TheVariants as keys
use Rattle.gr_text.specs.declared.token.Sign.TheVariants as signs
use Rattle.gr_expressions.specs.Tok.{Tok, is_sign, same_sign, Toks}
use Rattle.gr_expressions.specs.TokWords.{same_key, never}
use Rattle.gr_expressions.specs.OperandsWords.{name, number, semicolon}
use Rattle.gr_expressions.specs.Expressions.{IsName, IsNumber}
use Rattle.gr_expressions.proofs.TokenTests.{sign_test}
use Rattle.gr_expressions.proofs.Complete.{Any}
use Rattle.gr_expressions.proofs.CallsComplete.{name_reads, number_reads, semicolon_reads, numbers_complete, params_list_completes}
use Rattle.gr_parse.specs.declared.limits.TheConstants.{MAX_NESTING}
use Rattle.gr_parse.specs.ParsingWords.{array, named_item, heap_item, input, params, task, key_item, item, program, block}
use Rattle.gr_parse.specs.Grammar.{IsBlock, IsItem, IsProgram}
use Rattle.gr_parse.proofs.StmtsComplete.{block_completes, behind_few}

module _ (n : ℕ) where
  with_array : (ts : Toks) → item n (Tok.key keys.Array ∷ ts) ≡ array ts
  unfolding item key_item peek next sees same_key
  with_array ts = refl

  with_set : (ts : Toks) → item n (Tok.key keys.Set ∷ ts) ≡ named_item items.Set ts
  unfolding item key_item peek next sees same_key
  with_set ts = refl

  with_map : (ts : Toks) → item n (Tok.key keys.Map ∷ ts) ≡ named_item items.Map ts
  unfolding item key_item peek next sees same_key
  with_map ts = refl

  with_vector : (ts : Toks) → item n (Tok.key keys.Vector ∷ ts) ≡ named_item items.Vector ts
  unfolding item key_item peek next sees same_key
  with_vector ts = refl

  with_show : (ts : Toks) → item n (Tok.key keys.Show ∷ ts) ≡ named_item items.Show ts
  unfolding item key_item peek next sees same_key
  with_show ts = refl

  with_input : (ts : Toks) → item n (Tok.key keys.Input ∷ ts) ≡ input n ts
  unfolding item key_item peek next sees same_key
  with_input ts = refl

  with_task : (ts : Toks) → item n (Tok.key keys.Task ∷ ts) ≡ task n ts
  unfolding item key_item peek next sees same_key
  with_task ts = refl

  with_heap : (at : Place) (ts : Toks) → item n (Tok.heap at ∷ ts) ≡ heap_item ts
  unfolding item peek next
  with_heap at ts = refl

array_reads : (m : Name) (w : Number) (rest : Toks) → array (Tok.name m ∷ (Tok.sign signs.LeftBracket ∷ (Tok.number w ∷ (Tok.sign signs.RightBracket ∷ (Tok.sign signs.Semicolon ∷ rest))))) ≡ Ok (items.Array m w, rest)
unfolding array
array_reads m w rest =
    let close : Toks = Tok.sign signs.RightBracket ∷ (Tok.sign signs.Semicolon ∷ rest) in
    name_reads m (λ n. expect (is_sign signs.LeftBracket) >> (number >>= λ w. expect (is_sign signs.RightBracket) >> (semicolon >> pure (items.Array n w)))) (Tok.sign signs.LeftBracket ∷ (Tok.number w ∷ close))
    (expect_reads (sign_test signs.LeftBracket) (number >>= λ w. expect (is_sign signs.RightBracket) >> (semicolon >> pure (items.Array m w))) (Tok.number w ∷ close)
    (number_reads w (λ w. expect (is_sign signs.RightBracket) >> (semicolon >> pure (items.Array m w))) close
    (expect_reads (sign_test signs.RightBracket) (semicolon >> pure (items.Array m w)) (Tok.sign signs.Semicolon ∷ rest)
    (semicolon_reads (pure (items.Array m w)) rest refl))))

named_reads : (make : Name → Item) (m : Name) (rest : Toks) → named_item make (Tok.name m ∷ (Tok.sign signs.Semicolon ∷ rest)) ≡ Ok (make m, rest)
unfolding named_item
named_reads make m rest = name_reads m (λ n. semicolon >> pure (make n)) (Tok.sign signs.Semicolon ∷ rest) (semicolon_reads (pure (make m)) rest refl)

heap_reads : (w : Number) (rest : Toks) → heap_item (Tok.number w ∷ (Tok.sign signs.Semicolon ∷ rest)) ≡ Ok (items.Heap w, rest)
unfolding heap_item
heap_reads w rest = number_reads w (λ w. semicolon >> pure (items.Heap w)) (Tok.sign signs.Semicolon ∷ rest) (semicolon_reads (pure (items.Heap w)) rest refl)

semicolon_no_comma : (rest : Toks) → sees (is_sign signs.Comma) (Tok.sign signs.Semicolon ∷ rest) ≡ false
unfolding sees same_sign
semicolon_no_comma rest = refl

input_reads : {ts : Toks} {ws : List Number} → Separated (Tok.sign signs.Comma) IsNumber ts ws → (n : ℕ) (m : Name) (rest : Toks) → length ((ts ++ Tok.sign signs.Semicolon ∷ []) ++ rest) < n
    → input n (Tok.name m ∷ (Tok.sign signs.Assign ∷ ((ts ++ Tok.sign signs.Semicolon ∷ []) ++ rest))) ≡ Ok (items.Input m ws, rest)
unfolding input
input_reads {ts} {ws} h n m rest few =
    let all : Toks = (ts ++ Tok.sign signs.Semicolon ∷ []) ++ rest in
    name_reads m (λ o. expect (is_sign signs.Assign) >> (separated (is_sign signs.Comma) number n >>= λ ws. semicolon >> pure (items.Input o ws))) (Tok.sign signs.Assign ∷ all)
    (expect_reads (sign_test signs.Assign) (separated (is_sign signs.Comma) number n >>= λ ws. semicolon >> pure (items.Input m ws)) all
    (reads_then (numbers_complete n) h (Tok.sign signs.Semicolon ∷ []) rest (semicolon_no_comma rest) few (λ ws. semicolon >> pure (items.Input m ws)) (semicolon_reads (pure (items.Input m ws)) rest refl)))

params_read : {ts : Toks} {ps : List Name} → Enclosed (Tok.sign signs.RightParen) (Tok.sign signs.Comma) IsName ts ps → (n : ℕ) (us rest : Toks) → length ((ts ++ us) ++ rest) < n
    → params n (Tok.sign signs.LeftParen ∷ ((ts ++ us) ++ rest)) ≡ Ok (ps, us ++ rest)
unfolding params
params_read {ts} {ps} h n us rest few =
    let cut : (ts ++ us) ++ rest ≡ ts ++ (us ++ rest) = append_assoc ts us rest in
    let list = enclosed (is_sign signs.RightParen) (is_sign signs.Comma) name n in
    expect_reads (sign_test signs.LeftParen) list ((ts ++ us) ++ rest)
    (ap list cut ∙ (params_list_completes n).reads ts ps h (us ++ rest) tt (subst (λ (u : Toks). length u < n) cut few))

task_reads : {ts us : Toks} {ps : List Name} {xs : List Stmt} → Enclosed (Tok.sign signs.RightParen) (Tok.sign signs.Comma) IsName ts ps → IsBlock MAX_NESTING us xs → (n : ℕ) (m : Name) (rest : Toks) → length ((ts ++ us) ++ rest) < n
    → task n (Tok.name m ∷ (Tok.sign signs.LeftParen ∷ ((ts ++ us) ++ rest))) ≡ Ok (items.Task m ps xs, rest)
unfolding task
task_reads {ts} {us} {ps} {xs} h k n m rest few =
    name_reads m (λ o. params n >>= λ ps. block n MAX_NESTING >>= λ xs. pure (items.Task o ps xs)) (Tok.sign signs.LeftParen ∷ ((ts ++ us) ++ rest))
    (then_reads (λ ps. block n MAX_NESTING >>= λ xs. pure (items.Task m ps xs)) (params_read h n us rest few)
    (then_reads (λ xs. pure (items.Task m ps xs)) ((block_completes n MAX_NESTING).reads us xs k rest tt (behind_few n ts us rest few)) refl))

item_reads : {ts : Toks} {x : Item} → IsItem ts x → (n : ℕ) (rest : Toks) → length (ts ++ rest) < n → item n (ts ++ rest) ≡ Ok (x, rest)
item_reads (IsItem.array {name = m} {size = w}) n rest few = with_array n (Tok.name m ∷ (Tok.sign signs.LeftBracket ∷ (Tok.number w ∷ (Tok.sign signs.RightBracket ∷ (Tok.sign signs.Semicolon ∷ rest))))) ∙ array_reads m w rest
item_reads (IsItem.set {name = m}) n rest few = with_set n (Tok.name m ∷ (Tok.sign signs.Semicolon ∷ rest)) ∙ named_reads items.Set m rest
item_reads (IsItem.map {name = m}) n rest few = with_map n (Tok.name m ∷ (Tok.sign signs.Semicolon ∷ rest)) ∙ named_reads items.Map m rest
item_reads (IsItem.vector {name = m}) n rest few = with_vector n (Tok.name m ∷ (Tok.sign signs.Semicolon ∷ rest)) ∙ named_reads items.Vector m rest
item_reads (IsItem.heap {at} {size = w}) n rest few = with_heap n at (Tok.number w ∷ (Tok.sign signs.Semicolon ∷ rest)) ∙ heap_reads w rest
item_reads (IsItem.show {name = m}) n rest few = with_show n (Tok.name m ∷ (Tok.sign signs.Semicolon ∷ rest)) ∙ named_reads items.Show m rest
item_reads (IsItem.input {name = m} {inside = ts} {values = ws} h) n rest few = with_input n (Tok.name m ∷ (Tok.sign signs.Assign ∷ ((ts ++ Tok.sign signs.Semicolon ∷ []) ++ rest))) ∙ input_reads h n m rest (omega (arith, few))
item_reads (IsItem.task {name = m} {front = ts} {inside = us} {params = ps} {body = xs} h k) n rest few = with_task n (Tok.name m ∷ (Tok.sign signs.LeftParen ∷ ((ts ++ us) ++ rest))) ∙ task_reads h k n m rest (omega (arith, few))

pub item_completes : (n : ℕ) → Completes n (item n) IsItem Any
item_completes n = record { reads = λ ts x h rest f few. item_reads h n rest few }

item_goes : {ts : Toks} {x : Item} → IsItem ts x → (rest : Toks) → halts never (ts ++ rest) ≡ false
unfolding halts
item_goes IsItem.array rest = refl
item_goes IsItem.set rest = refl
item_goes IsItem.map rest = refl
item_goes IsItem.vector rest = refl
item_goes IsItem.heap rest = refl
item_goes IsItem.show rest = refl
item_goes (IsItem.input h) rest = refl
item_goes (IsItem.task h k) rest = refl

pub item_long : (ts : Toks) (x : Item) → IsItem ts x → 0 < length ts
unfolding halts
item_long [] x h = absurd (let e = item_goes h [] in cc)
item_long (t ∷ ts) x h = omega arith

items_begin : Begins never IsItem Any
items_begin = record { goes = λ ts x h rest. item_goes h rest; follows = λ ts x h rest. tt }

pub program_completes : (n : ℕ) → Completes n (program n) IsProgram (λ rest. Any rest × (halts never rest ≡ true))
unfolding program
program_completes n = run_completes (item_completes n) items_begin
