-- The tokens that are laid out for items and programs spell them, and each spelling has them.
use Rattle.std.proofs.Common.{◌≡◌, List, [], ◌∷◌, ◌++◌, map, refl, sym, ap, subst, ◌∙◌, append_assoc}
use Rattle.std.proofs.lemmas.List.{map-append}
use Rattle.gr_meets.specs.Lists.{Repeated, Separated, Enclosed}
use Rattle.gr_syntax.specs.declared.syntax.Name.{Name}
use Rattle.gr_syntax.specs.declared.syntax.Number.{Number}
use Rattle.gr_syntax.specs.declared.syntax.Stmt.{Stmt}
use Rattle.gr_syntax.specs.declared.syntax.Item.{Item}
use Rattle.gr_syntax.specs.declared.syntax.Item.TheVariants as items
use Rattle.gr_text.specs.declared.token.Keyword.{Keyword}
use Rattle.gr_text.specs.declared.token.Keyword.TheVariants as k
use Rattle.gr_text.specs.declared.token.Sign.TheVariants as s
use Rattle.gr_expressions.specs.Tok.{Tok, Toks}
use Rattle.gr_expressions.specs.Expressions.{IsName, IsNumber}
use Rattle.gr_parse.specs.declared.limits.TheConstants.{MAX_NESTING}
use Rattle.gr_parse.specs.Grammar.{IsItem, IsProgram}
use Rattle.gr_print.specs.Unplaced.{nowhere, unplaced_name, unplaced_number, unplaced_tok, unplaced_stmt, unplaced_item}
use Rattle.gr_print.specs.Pieces.{Piece, Layout, name, number, key, sign}
use Rattle.gr_print.specs.Layout.{names, numbers, block, stmt, item, input, task, program}
use Rattle.gr_print.specs.Printed.{IsSubsequence, AreWritten}
use Rattle.gr_print.proofs.PrintsExprs.{Written}
use Rattle.gr_print.proofs.PrintsLists.{separated_written, enclosed_written, name_written, number_written}
use Rattle.gr_print.proofs.PrintsStmts.{BlockWritten, block_written, front_written, behind_written, each_then, within_then}
use Rattle.gr_print.proofs.Respelled.{each_nil, each_sign, each_key, each_name, each_number, each_heap, each_part, each_last, Freely}
use Rattle.gr_print.proofs.Seen.{tokens_of, tokens_of-line}
use Rattle.gr_print.proofs.Subsequences as part

-- ---- items

array_case : (n : Name) (w : Number) → let ts = Tok.key k.Array ∷ Tok.name n ∷ Tok.sign s.LeftBracket ∷ Tok.number w ∷ Tok.sign s.RightBracket ∷ Tok.sign s.Semicolon ∷ [] in Written unplaced_item IsItem (item (items.Array n w)) ts (items.Array n w)
array_case n w = record {
  spelled = record {
    each = each_key k.Array (each_name n (λ m same. each_sign s.LeftBracket (each_number w (λ v alike. each_sign s.RightBracket (each_sign s.Semicolon (each_nil (record {
      tree = items.Array m v;
      spelled = IsItem.array;
      same = ap (λ (z : Name). items.Array z (unplaced_number v)) same ∙ ap (λ (z : Number). items.Array (unplaced_name n) z) alike;
    })))))));
  };
  within = part.whole _;
}

heap_case : (w : Number) (ts : Toks) → map unplaced_tok ts ≡ Tok.heap nowhere ∷ Tok.number (unplaced_number w) ∷ Tok.sign s.Semicolon ∷ [] → Written unplaced_item IsItem (item (items.Heap w)) ts (items.Heap w)
heap_case w ts e = record {
  spelled = record { each = each_heap (λ at. each_number w (λ v alike. each_sign s.Semicolon (each_nil (record { tree = items.Heap v; spelled = IsItem.heap; same = ap (λ (z : Number). items.Heap z) alike })))) };
  within = subst (IsSubsequence (tokens_of (item (items.Heap w)))) (sym e) (part.whole _);
}

-- An item that is a keyword and a name.
named_case : (word : Keyword) (make : Name → Item) → ((m : Name) → IsItem (Tok.key word ∷ Tok.name m ∷ Tok.sign s.Semicolon ∷ []) (make m)) → ((m n : Name) → unplaced_name m ≡ unplaced_name n → unplaced_item (make m) ≡ unplaced_item (make n)) → (n : Name)
    → Written unplaced_item IsItem (key word ∷ Piece.blank ∷ name n ∷ sign s.Semicolon ∷ []) (Tok.key word ∷ Tok.name n ∷ Tok.sign s.Semicolon ∷ []) (make n)
named_case word make is same n = record {
  spelled = record { each = each_key word (each_name n (λ m alike. each_sign s.Semicolon (each_nil (record { tree = make m; spelled = is m; same = same m n alike })))) };
  within = part.whole (Tok.key word ∷ Tok.name (unplaced_name n) ∷ Tok.sign s.Semicolon ∷ []);
}

input_case : (n : Name) (ts : Toks) (ws : List Number) → Separated (Tok.sign s.Comma) IsNumber ts ws → Written unplaced_item IsItem (input n ws) (Tok.key k.Input ∷ Tok.name n ∷ Tok.sign s.Assign ∷ (ts ++ Tok.sign s.Semicolon ∷ [])) (items.Input n ws)
input_case n ts ws p =
    let w = separated_written unplaced_number IsNumber (λ v. number v ∷ []) number_written p in
    record {
      spelled = record {
        each = each_key k.Input (each_name n (λ m same. each_sign s.Assign (each_then (numbers ws) (sign s.Semicolon ∷ []) w.spelled (λ f vs q alike. each_sign s.Semicolon (each_nil (record {
          tree = items.Input m vs;
          spelled = IsItem.input q;
          same = ap (λ (z : Name). items.Input z (map unplaced_number vs)) same ∙ ap (λ (zs : List Number). items.Input (unplaced_name n) zs) alike;
        }))))));
      };
      within = IsSubsequence.kept (IsSubsequence.kept (IsSubsequence.kept (within_then (numbers ws) (sign s.Semicolon ∷ []) ts (Tok.sign s.Semicolon ∷ []) w.within (part.whole (Tok.sign s.Semicolon ∷ [])))));
    }

task_case : (n : Name) (ts us : Toks) (ps : List Name) (xs : List Stmt) → Enclosed (Tok.sign s.RightParen) (Tok.sign s.Comma) IsName ts ps → BlockWritten MAX_NESTING us xs
    → Written unplaced_item IsItem (task n ps xs) (Tok.key k.Task ∷ Tok.name n ∷ Tok.sign s.LeftParen ∷ (ts ++ us)) (items.Task n ps xs)
task_case n ts us ps xs p b =
    let w = enclosed_written unplaced_name IsName (λ m. name m ∷ []) name_written p in
    let front = names ps ++ sign s.RightParen ∷ [] in
    let rest = Piece.blank ∷ block (map stmt xs) 0 in
    let laid : front ++ rest ≡ names ps ++ (sign s.RightParen ∷ rest) = append_assoc (names ps) (sign s.RightParen ∷ []) rest in
    subst (λ (qs : Layout). Written unplaced_item IsItem (key k.Task ∷ Piece.blank ∷ name n ∷ sign s.LeftParen ∷ qs) (Tok.key k.Task ∷ Tok.name n ∷ Tok.sign s.LeftParen ∷ (ts ++ us)) (items.Task n ps xs)) laid (record {
      spelled = record {
        each = each_key k.Task (each_name n (λ m same. each_sign s.LeftParen (each_then front rest w.spelled (λ f qs q alike. each_last (b.at 0).spelled (λ g ys r eq. record {
          tree = items.Task m qs ys;
          spelled = IsItem.task q r;
          same = ap (λ (z : Name). items.Task z (map unplaced_name qs) (map unplaced_stmt ys)) same ∙ ap (λ (zs : List Name). items.Task (unplaced_name n) zs (map unplaced_stmt ys)) alike
              ∙ ap (λ (zs : List Stmt). items.Task (unplaced_name n) (map unplaced_name ps) zs) eq;
        })))));
      };
      within = IsSubsequence.kept (IsSubsequence.kept (IsSubsequence.kept (within_then front rest ts us w.within (b.at 0).within)));
    })

item_written : {ts : Toks} {x : Item} → IsItem ts x → AreWritten ts → Written unplaced_item IsItem (item x) ts x
item_written (IsItem.array {name = n} {size = w}) h = array_case n w
item_written (IsItem.set {name = n}) h = named_case k.Set items.Set (λ m. IsItem.set) (λ m o same. ap (λ (z : Name). items.Set z) same) n
item_written (IsItem.map {name = n}) h = named_case k.Map items.Map (λ m. IsItem.map) (λ m o same. ap (λ (z : Name). items.Map z) same) n
item_written (IsItem.vector {name = n}) h = named_case k.Vector items.Vector (λ m. IsItem.vector) (λ m o same. ap (λ (z : Name). items.Vector z) same) n
item_written (IsItem.heap {at} {size = w}) h = heap_case w (Tok.heap at ∷ Tok.number w ∷ Tok.sign s.Semicolon ∷ []) refl
item_written (IsItem.show {name = n}) h = named_case k.Show items.Show (λ m. IsItem.show) (λ m o same. ap (λ (z : Name). items.Show z) same) n
item_written (IsItem.input {name = n} {inside = ts} {values = ws} p) h = input_case n ts ws p
item_written (IsItem.task {name = n} {front = ts} {inside = us} {params = ps} {body = xs} p q) h = task_case n ts us ps xs p (block_written q (behind_written ts us h.1.1.1))

-- ---- programs

more_case : (ts us : Toks) (x : Item) (xs : List Item) → Written unplaced_item IsItem (item x) ts x → Written (map unplaced_item) IsProgram (program xs) us xs → Written (map unplaced_item) IsProgram (program (x ∷ xs)) (ts ++ us) (x ∷ xs)
more_case ts us x xs a b =
    let seen = tokens_of-line 0 (item x) (program xs) in
    record {
      spelled = subst (λ (u : Toks). Freely (map unplaced_item) IsProgram u (x ∷ xs)) (sym seen) (record {
        each = each_part a.spelled (λ f y p same. each_last b.spelled (λ g ys q alike. record {
          tree = y ∷ ys;
          spelled = Repeated.one_more p q;
          same = ap (λ (z : Item). z ∷ map unplaced_item ys) same ∙ ap (λ (zs : List Item). unplaced_item x ∷ zs) alike;
        }));
      });
      within = subst (λ (u : Toks). IsSubsequence u (map unplaced_tok (ts ++ us))) (sym seen)
          (subst (IsSubsequence (tokens_of (item x) ++ tokens_of (program xs))) (sym (map-append unplaced_tok ts us)) (part.joined a.within b.within));
    }

-- The tokens of a program's layout spell it wherever their places are, and are among those of each spelling.
pub program_written : {ts : Toks} {xs : List Item} → IsProgram ts xs → AreWritten ts → Written (map unplaced_item) IsProgram (program xs) ts xs
program_written Repeated.none h = record { spelled = record { each = each_nil (record { tree = []; spelled = Repeated.none; same = refl }) }; within = IsSubsequence.none }
program_written (Repeated.one_more {front = ts} {back = us} {first = x} {others = xs} p q) h = more_case ts us x xs (item_written p (front_written ts us h)) (program_written q (behind_written ts us h))
