-- In a layout, no token runs into the one behind it.
use Rattle.std.proofs.Common.{◌≡◌, ℕ, zero, suc, ◌+◌, Bool, true, false, cond, List, [], ◌∷◌, ◌++◌, map, replicate, Option, Some, None, refl, sym, ap, subst, ◌∙◌, append_assoc}
use Rattle.std.specs.Prelude.{codes}
use Rattle.std.specs.Str.{bytes_eq}
use Rattle.gr_syntax.specs.declared.syntax.Name.{Name}
use Rattle.gr_syntax.specs.declared.syntax.Number.{Number}
use Rattle.gr_syntax.specs.declared.syntax.BinOp.{BinOp}
use Rattle.gr_syntax.specs.declared.syntax.Expr.{Expr}
use Rattle.gr_syntax.specs.declared.syntax.CallText.{CallText}
use Rattle.gr_syntax.specs.declared.syntax.Right.{Right}
use Rattle.gr_syntax.specs.declared.syntax.Right.TheVariants as right
use Rattle.gr_syntax.specs.declared.syntax.HowText.{HowText}
use Rattle.gr_syntax.specs.declared.syntax.HowText.TheVariants as how
use Rattle.gr_syntax.specs.declared.syntax.Stmt.{Stmt}
use Rattle.gr_syntax.specs.declared.syntax.Item.{Item}
use Rattle.gr_syntax.specs.declared.syntax.Item.TheVariants as items
use Rattle.gr_text.specs.declared.token.Keyword.{Keyword}
use Rattle.gr_text.specs.declared.token.Keyword.TheVariants as k
use Rattle.gr_text.specs.declared.token.Sign.{Sign}
use Rattle.gr_text.specs.declared.token.Sign.TheVariants as s
use Rattle.gr_expressions.specs.Tok.{Tok, sign_of, level_of}
use Rattle.gr_print.specs.Unplaced.{nowhere, unplaced_name, unplaced_number}
use Rattle.gr_print.specs.Pieces.{Piece, Layout, name, number, key, sign, object_tok}
use Rattle.gr_print.specs.Layout.{Shown, behind, listed, names, numbers, shown, below, bracketed, left_level, whole, expr, args, reducer, call, right_side, start, started, range, assignment, line, lines, block, else_part, stmt, item, program}
use Rattle.gr_print.proofs.Inductions.{all_exprs, EachOf, all_stmts}
use Rattle.gr_print.proofs.Layouts.{shown_lit, shown_local, shown_not, shown_two, stmt_set, stmt_do, stmt_print, stmt_if, stmt_while, stmt_finish, stmt_spawn, stmt_forall}

-- ---- neighbours

-- A sign that could be the second half of another one.
abbrev pub is_half : Sign → Bool
is_half s.Assign = true
is_half s.EqualEqual = true
is_half s.Dot = true
is_half s.DotDot = true
is_half _ = false

-- The piece doesn't go on with a sign that stands before it.
abbrev pub ends_sign : Piece → Bool
ends_sign (Piece.token (Tok.sign g)) = cond (is_half g) false true
ends_sign _ = true

-- The piece doesn't go on with a name, a number or a keyword that stands before it.
abbrev pub ends_word : Piece → Bool
ends_word (Piece.token (Tok.sign g)) = true
ends_word (Piece.token t) = false
ends_word _ = true

abbrev pub ends_token : Tok → Piece → Bool
ends_token (Tok.sign g) q = ends_sign q
ends_token t q = ends_word q

-- The piece may stand in front of these.
abbrev pub Fits : Piece → Layout → Type 0
Fits (Piece.token t) (q ∷ qs) = ends_token t q ≡ true
Fits p qs = Unit {0}

-- Each piece may stand where it does, with the rest behind them all.
abbrev pub Apart : Layout → Layout → Type 0
Apart [] rest = Unit {0}
Apart (p ∷ ps) rest = Fits p (ps ++ rest) × Apart ps rest

-- These end each token.
abbrev Breaks : Layout → Type 0
Breaks [] = Unit {0}
Breaks (q ∷ qs) = (ends_word q ≡ true) × (ends_sign q ≡ true)

-- These end each sign.
abbrev Opens : Layout → Type 0
Opens [] = Unit {0}
Opens (q ∷ qs) = ends_sign q ≡ true

-- ---- phrases

-- Pieces that stand well behind a blank, in front of what ends a token.
record Loose (ps : Layout) : Type 0 where
  apart : (rest : Layout) → Breaks rest → Apart ps rest

-- Behind a sign too.
pub record Phrase (ps : Layout) : Type 0 where
  apart : (rest : Layout) → Breaks rest → Apart ps rest
  opens : (rest : Layout) → Breaks rest → Opens (ps ++ rest)

-- Behind every token.
record Tail (ps : Layout) : Type 0 where
  apart : (rest : Layout) → Breaks rest → Apart ps rest
  breaks : (rest : Layout) → Breaks rest → Breaks (ps ++ rest)

breaks_open : (ps : Layout) → Breaks ps → Opens ps
breaks_open [] h = tt
breaks_open (p ∷ ps) h = h.1

of_tail : {ps : Layout} → Tail ps → Phrase ps
of_tail {ps} h = record { apart = h.apart; opens = λ rest b. breaks_open (ps ++ rest) (h.breaks rest b) }

of_phrase : {ps : Layout} → Phrase ps → Loose ps
of_phrase h = record { apart = h.apart }

nothing : Tail []
nothing = record { apart = λ rest b. tt; breaks = λ rest b. b }

behind_blank : {ps : Layout} → Loose ps → Tail (Piece.blank ∷ ps)
behind_blank h = record { apart = λ rest b. (tt, h.apart rest b); breaks = λ rest b. (refl, refl) }

behind_newline : {ps : Layout} → Loose ps → Tail (Piece.newline ∷ ps)
behind_newline h = record { apart = λ rest b. (tt, h.apart rest b); breaks = λ rest b. (refl, refl) }

fits_sign : (g : Sign) (qs : Layout) → Opens qs → Fits (sign g) qs
fits_sign g [] h = tt
fits_sign g (q ∷ qs) h = h

behind_sign : {ps : Layout} (g : Sign) → is_half g ≡ false → Phrase ps → Tail (sign g ∷ ps)
behind_sign {ps} g e h = record { apart = λ rest b. (fits_sign g (ps ++ rest) (h.opens rest b), h.apart rest b); breaks = λ rest b. (refl, ap (λ v. cond v false true) e) }

behind_half : {ps : Layout} (g : Sign) → Phrase ps → Loose (sign g ∷ ps)
behind_half {ps} g h = record { apart = λ rest b. (fits_sign g (ps ++ rest) (h.opens rest b), h.apart rest b) }

-- A token that is no sign.
record IsWord (t : Tok) : Type 0 where
  is : (q : Piece) → ends_token t q ≡ ends_word q
  opens : ends_sign (Piece.token t) ≡ true

fits_word : (t : Tok) → IsWord t → (qs : Layout) → Breaks qs → Fits (Piece.token t) qs
fits_word t w [] h = tt
fits_word t w (q ∷ qs) h = w.is q ∙ h.0

behind_word : {ps : Layout} {t : Tok} → IsWord t → Tail ps → Phrase (Piece.token t ∷ ps)
behind_word {ps} {t} w h = record { apart = λ rest b. (fits_word t w (ps ++ rest) (h.breaks rest b), h.apart rest b); opens = λ rest b. w.opens }

-- A dot behind a name or the heap.
behind_dot : {ps : Layout} {t : Tok} → IsWord t → Phrase ps → Phrase (Piece.token t ∷ sign s.Dot ∷ ps)
behind_dot {ps} w h = record { apart = λ rest b. (w.is (sign s.Dot), (fits_sign s.Dot (ps ++ rest) (h.opens rest b), h.apart rest b)); opens = λ rest b. w.opens }

name_word : (n : Name) → IsWord (Tok.name n)
name_word n = record { is = λ q. refl; opens = refl }

number_word : (n : Number) → IsWord (Tok.number n)
number_word n = record { is = λ q. refl; opens = refl }

key_word : (word : Keyword) → IsWord (Tok.key word)
key_word word = record { is = λ q. refl; opens = refl }

heap_word : IsWord (Tok.heap nowhere)
heap_word = record { is = λ q. refl; opens = refl }

object_word : (n : Name) → IsWord (object_tok n)
object_word n = by (bytes_eq n.text (codes "heap"))
  where
    by : (v : Bool) → IsWord (cond v (Tok.heap nowhere) (Tok.name (unplaced_name n)))
    by true = heap_word
    by false = name_word (unplaced_name n)

-- ---- one phrase behind another

apart_both : (ps qs rest : Layout) → Apart ps (qs ++ rest) → Apart qs rest → Apart (ps ++ qs) rest
apart_both [] qs rest h k = k
apart_both (p ∷ ps) qs rest h k = (subst (Fits p) (sym (append_assoc ps qs rest)) h.0, apart_both ps qs rest h.1 k)

loose_then : {ps qs : Layout} → Loose ps → Tail qs → Loose (ps ++ qs)
loose_then {ps} {qs} h k = record { apart = λ rest b. apart_both ps qs rest (h.apart (qs ++ rest) (k.breaks rest b)) (k.apart rest b) }

phrase_then : {ps qs : Layout} → Phrase ps → Tail qs → Phrase (ps ++ qs)
phrase_then {ps} {qs} h k = record {
  apart = λ rest b. apart_both ps qs rest (h.apart (qs ++ rest) (k.breaks rest b)) (k.apart rest b);
  opens = λ rest b. subst Opens (sym (append_assoc ps qs rest)) (h.opens (qs ++ rest) (k.breaks rest b));
}

tail_then : {ps qs : Layout} → Tail ps → Tail qs → Tail (ps ++ qs)
tail_then {ps} {qs} h k = record {
  apart = λ rest b. apart_both ps qs rest (h.apart (qs ++ rest) (k.breaks rest b)) (k.apart rest b);
  breaks = λ rest b. subst Breaks (sym (append_assoc ps qs rest)) (h.breaks (qs ++ rest) (k.breaks rest b));
}

margin_phrase : (m : ℕ) {ps : Layout} → Phrase ps → Phrase (replicate m Piece.blank ++ ps)
margin_phrase zero h = h
margin_phrase (suc m) h = of_tail (behind_blank (of_phrase (margin_phrase m h)))

margin_tail : (m : ℕ) {ps : Layout} → Tail ps → Tail (replicate m Piece.blank ++ ps)
margin_tail zero h = h
margin_tail (suc m) h = behind_blank (of_phrase (of_tail (margin_tail m h)))

semicolon : Tail (sign s.Semicolon ∷ [])
semicolon = behind_sign s.Semicolon refl (of_tail nothing)

closing : Tail (sign s.RightParen ∷ [])
closing = behind_sign s.RightParen refl (of_tail nothing)

-- A line, and then others.
line_then : (m : ℕ) {ps qs : Layout} → Phrase ps → Loose qs → Phrase (line m ps ++ qs)
line_then m {ps} {qs} h k =
    subst Phrase (sym (append_assoc (replicate m Piece.blank) (ps ++ Piece.newline ∷ []) qs ∙ ap (λ (us : Layout). replicate m Piece.blank ++ us) (append_assoc ps (Piece.newline ∷ []) qs)))
    (margin_phrase m (phrase_then h (behind_newline k)))

-- ---- lists

module _ {A : Type 0} (lay : A → Layout) (each : (x : A) → Phrase (lay x)) where
  behind_tail : (xs : List A) → Tail (behind (map lay xs))
  behind_tail [] = nothing
  behind_tail (x ∷ xs) = behind_sign s.Comma refl (of_tail (behind_blank (of_phrase (phrase_then (each x) (behind_tail xs)))))

  listed_phrase : (xs : List A) → Phrase (listed (map lay xs))
  listed_phrase [] = of_tail nothing
  listed_phrase (x ∷ xs) = phrase_then (each x) (behind_tail xs)

names_phrase : (ns : List Name) → Phrase (names ns)
names_phrase = listed_phrase (λ n. name n ∷ []) (λ n. behind_word (name_word (unplaced_name n)) nothing)

numbers_phrase : (ns : List Number) → Phrase (numbers ns)
numbers_phrase = listed_phrase (λ n. number n ∷ []) (λ n. behind_word (number_word (unplaced_number n)) nothing)

-- ---- expressions

bracketed_phrase : {ps : Layout} → Phrase ps → Phrase (bracketed ps)
bracketed_phrase h = of_tail (behind_sign s.LeftParen refl (phrase_then h closing))

below_phrase : (l : ℕ) (x : Shown) → Phrase x.bare → Phrase (below l x)
below_phrase l x h = by _
  where
    by : (v : Bool) → Phrase (cond v x.bare (bracketed x.bare))
    by true = h
    by false = bracketed_phrase h

binary : (o : BinOp) {ps : Layout} → Phrase ps → Tail (Piece.blank ∷ sign (sign_of o) ∷ Piece.blank ∷ ps)
binary o h = behind_blank (behind_half (sign_of o) (of_tail (behind_blank (of_phrase h))))

bare_phrase : (x : Expr) → Phrase (shown x).bare
bare_phrase = all_exprs (λ x. Phrase (shown x).bare) (record {
  lit = λ v. subst (λ (w : Shown). Phrase w.bare) (sym (shown_lit v)) (behind_word (number_word (unplaced_number v)) nothing);
  local = λ v. subst (λ (w : Shown). Phrase w.bare) (sym (shown_local v)) (behind_word (name_word (unplaced_name v)) nothing);
  not = λ x h. subst (λ (w : Shown). Phrase w.bare) (sym (shown_not x)) (of_tail (behind_sign s.Bang refl (below_phrase 0 (shown x) h)));
  two = λ o x y h k. subst (λ (w : Shown). Phrase w.bare) (sym (shown_two o x y)) (phrase_then (below_phrase (left_level (level_of o)) (shown x) h) (binary o (below_phrase (level_of o) (shown y) k)));
})

expr_phrase : (x : Expr) → Phrase (expr x)
expr_phrase x = below_phrase whole (shown x) (bare_phrase x)

-- ---- arguments and calls

args_tail : (xs : List Expr) → Tail (args xs)
args_tail xs = behind_sign s.LeftParen refl (phrase_then (listed_phrase expr expr_phrase xs) closing)

reducer_tail : (r : Option Name) (xs : List Expr) → Tail (reducer r ++ args xs)
reducer_tail None xs = args_tail xs
reducer_tail (Some n) xs = behind_blank (of_phrase (behind_word (name_word (unplaced_name n)) (behind_blank (of_phrase (of_tail (args_tail xs))))))

call_phrase : (c : CallText) → Phrase (call c)
call_phrase c = behind_dot (object_word c.object) (behind_word (name_word (unplaced_name c.op)) (reducer_tail c.reducer c.args))

-- ---- statements

right_phrase : (r : Right) → Phrase (right_side r)
right_phrase (right.Value x) = expr_phrase x
right_phrase (right.Result c) = call_phrase c

start_phrase : (w : HowText) → Phrase (start w)
start_phrase how.Here = behind_word (key_word k.Spawn) nothing
start_phrase (how.At x) = behind_word (key_word k.Spawn) (behind_blank (of_phrase (behind_word (key_word k.At) (behind_blank (of_phrase (expr_phrase x))))))
start_phrase how.Offer = behind_word (key_word k.Offer) nothing

started_tail : (n : Name) (xs : List Expr) → Tail (started n xs)
started_tail n xs = behind_blank (of_phrase (behind_word (name_word (unplaced_name n)) (tail_then (args_tail xs) semicolon)))

assigned_phrase : (ns : List Name) (r : Right) → Phrase (names ns ++ (Piece.blank ∷ sign s.Assign ∷ Piece.blank ∷ (right_side r ++ sign s.Semicolon ∷ [])))
assigned_phrase ns r = phrase_then (names_phrase ns) (behind_blank (behind_half s.Assign (of_tail (behind_blank (of_phrase (phrase_then (right_phrase r) semicolon))))))

assignment_phrase : (fresh : Bool) (ns : List Name) (r : Right) → Phrase (assignment fresh ns r)
assignment_phrase true ns r = behind_word (key_word k.Let) (behind_blank (of_phrase (assigned_phrase ns r)))
assignment_phrase false ns r = assigned_phrase ns r

range_phrase : (lo hi grain : Expr) → Phrase (range lo hi grain)
range_phrase lo hi grain = behind_word (key_word k.Forall) (behind_blank (of_phrase (phrase_then (expr_phrase lo) (behind_blank (behind_half s.DotDot (of_tail (behind_blank (of_phrase
    (phrase_then (expr_phrase hi) (behind_blank (of_phrase (behind_word (key_word k.Grain) (behind_blank (of_phrase (expr_phrase grain)))))))))))))))

-- The statement stands well at each margin.
abbrev Stands : Stmt → Type 0
Stands x = (m : ℕ) → Phrase (stmt x m)

lines_phrase : (xs : List Stmt) → EachOf Stands xs → (m : ℕ) → Phrase (lines (map stmt xs) m)
lines_phrase [] h m = of_tail nothing
lines_phrase (x ∷ xs) h m = line_then m (h.0 m) (of_phrase (lines_phrase xs h.1 m))

block_tail : (xs : List Stmt) → EachOf Stands xs → (m : ℕ) → Tail (block (map stmt xs) m)
block_tail xs h m = behind_sign s.LeftBrace refl (of_tail (behind_newline (of_phrase (phrase_then (lines_phrase xs h (m + 2)) (margin_tail m (behind_sign s.RightBrace refl (of_tail nothing)))))))

else_tail : (xs : List Stmt) → EachOf Stands xs → (m : ℕ) → Tail (else_part (map stmt xs) m)
else_tail [] h m = nothing
else_tail (x ∷ xs) h m = behind_blank (of_phrase (behind_word (key_word k.Else) (behind_blank (of_phrase (of_tail (block_tail (x ∷ xs) h m))))))

stmt_phrase : (x : Stmt) → Stands x
stmt_phrase = all_stmts Stands (record {
  set = λ fresh ns r m. subst Phrase (sym (stmt_set fresh ns r m)) (assignment_phrase fresh ns r);
  call = λ c m. subst Phrase (sym (stmt_do c m)) (phrase_then (call_phrase c) semicolon);
  print = λ x m. subst Phrase (sym (stmt_print x m)) (behind_word (key_word k.Print) (behind_blank (of_phrase (phrase_then (expr_phrase x) semicolon))));
  if_else = λ x xs ys h i m. subst Phrase (sym (stmt_if x xs ys m)) (behind_word (key_word k.If) (behind_blank (of_phrase (phrase_then (expr_phrase x) (behind_blank (of_phrase (of_tail (tail_then (block_tail xs h m) (else_tail ys i m)))))))));
  while_loop = λ x xs h m. subst Phrase (sym (stmt_while x xs m)) (behind_word (key_word k.While) (behind_blank (of_phrase (phrase_then (expr_phrase x) (behind_blank (of_phrase (of_tail (block_tail xs h m))))))));
  finish = λ xs h m. subst Phrase (sym (stmt_finish xs m)) (behind_word (key_word k.Finish) (behind_blank (of_phrase (of_tail (block_tail xs h m)))));
  spawn = λ w n xs m. subst Phrase (sym (stmt_spawn w n xs m)) (phrase_then (start_phrase w) (started_tail n xs));
  forall_loop = λ lo hi grain n xs m. subst Phrase (sym (stmt_forall lo hi grain n xs m)) (phrase_then (range_phrase lo hi grain) (started_tail n xs));
})

each_stands : (xs : List Stmt) → EachOf Stands xs
each_stands [] = tt
each_stands (x ∷ xs) = (stmt_phrase x, each_stands xs)

-- ---- items

-- A keyword and a name.
named_phrase : (word : Keyword) (n : Name) {ps : Layout} → Tail ps → Phrase (key word ∷ Piece.blank ∷ name n ∷ ps)
named_phrase word n h = behind_word (key_word word) (behind_blank (of_phrase (behind_word (name_word (unplaced_name n)) h)))

item_phrase : (x : Item) → Phrase (item x)
item_phrase (items.Array n w) = named_phrase k.Array n (behind_sign s.LeftBracket refl (behind_word (number_word (unplaced_number w)) (behind_sign s.RightBracket refl (of_tail semicolon))))
item_phrase (items.Set n) = named_phrase k.Set n semicolon
item_phrase (items.Map n) = named_phrase k.Map n semicolon
item_phrase (items.Vector n) = named_phrase k.Vector n semicolon
item_phrase (items.Heap w) = behind_word heap_word (behind_blank (of_phrase (behind_word (number_word (unplaced_number w)) semicolon)))
item_phrase (items.Show n) = named_phrase k.Show n semicolon
item_phrase (items.Input n ws) = named_phrase k.Input n (behind_blank (behind_half s.Assign (of_tail (behind_blank (of_phrase (phrase_then (numbers_phrase ws) semicolon))))))
item_phrase (items.Task n ps xs) = named_phrase k.Task n (behind_sign s.LeftParen refl (phrase_then (names_phrase ps) (behind_sign s.RightParen refl (of_tail (behind_blank (of_phrase (of_tail (block_tail xs (each_stands xs) 0))))))))

program_phrase : (xs : List Item) → Phrase (program xs)
program_phrase [] = of_tail nothing
program_phrase (x ∷ xs) = line_then 0 (item_phrase x) (of_phrase (program_phrase xs))

-- In a program's layout no token runs into the one behind it.
pub program_apart : (xs : List Item) → Apart (program xs) []
program_apart xs = (program_phrase xs).apart [] tt
