-- A program's text is read back as the program, and no spelling of the program does with less.
use Rattle.std.proofs.Common.{◌≡◌, ℕ, ◌≤◌, List, [], ◌∷◌, ◌++◌, map, length, refl, sym, ap, subst, ◌∙◌, arith}
use Rattle.gr_syntax.specs.declared.syntax.Place.{Place}
use Rattle.gr_syntax.specs.declared.syntax.Item.{Item}
use Rattle.gr_syntax.specs.declared.syntax.Program.{Program}
use Rattle.gr_text.specs.declared.token.Token.{Token}
use Rattle.gr_text.specs.declared.token.TokenKind.TheVariants as kinds
use Rattle.gr_text.specs.Text.{token_at}
use Rattle.gr_expressions.specs.Tok.{Tok, toks, Toks}
use Rattle.gr_parse.specs.Grammar.{IsProgram}
use Rattle.gr_print.specs.Unplaced.{nowhere, unplaced_tok, unplaced_item, SameButForPlaces}
use Rattle.gr_print.specs.Pieces.{Layout}
use Rattle.gr_print.specs.Layout.{program, program_text}
use Rattle.gr_print.specs.Printed.{IsSubsequence, IsWritten, AreWritten, IsSpelling, IsSpelled, ReadsBack, IsLeast, brackets}
use Rattle.gr_print.proofs.Apart.{program_apart}
use Rattle.gr_print.proofs.Placeless.{program_same}
use Rattle.gr_print.proofs.PrintsExprs.{Written}
use Rattle.gr_print.proofs.PrintsItems.{program_written}
use Rattle.gr_print.proofs.Respelled.{Respelled}
use Rattle.gr_print.proofs.Seen.{tokens_of}
use Rattle.gr_print.proofs.Spellings.{text_spells}
use Rattle.gr_print.proofs.Subsequences.{brackets_le, brackets_unplaced}
use Rattle.gr_print.proofs.TextsRead.{Found, found}

-- ---- parts of written tokens without places

unplaced_twice : (t : Tok) → unplaced_tok (unplaced_tok t) ≡ unplaced_tok t
unplaced_twice (Tok.name n) = refl
unplaced_twice (Tok.number n) = refl
unplaced_twice (Tok.heap at) = refl
unplaced_twice (Tok.key word) = refl
unplaced_twice (Tok.sign g) = refl
unplaced_twice Tok.missing = refl

all_twice : (ts : Toks) → map unplaced_tok (map unplaced_tok ts) ≡ map unplaced_tok ts
all_twice [] = refl
all_twice (t ∷ ts) = ap (λ (u : Tok). u ∷ map unplaced_tok (map unplaced_tok ts)) (unplaced_twice t) ∙ ap (λ (us : Toks). unplaced_tok t ∷ us) (all_twice ts)

part_unplaced : {ws us : Toks} → IsSubsequence ws us → map unplaced_tok us ≡ us → map unplaced_tok ws ≡ ws
part_unplaced IsSubsequence.none e = refl
part_unplaced (IsSubsequence.kept {x} {xs} {ys} h) e =
    let first : unplaced_tok x ≡ x = cc in
    let others : map unplaced_tok ys ≡ ys = cc in
    ap (λ (u : Tok). u ∷ map unplaced_tok xs) first ∙ ap (λ (us : Toks). x ∷ us) (part_unplaced h others)
part_unplaced (IsSubsequence.left_out {y} {xs} {ys} h) e = let others : map unplaced_tok ys ≡ ys = cc in part_unplaced h others

unplaced_written : (t : Tok) → IsWritten t → IsWritten (unplaced_tok t)
unplaced_written (Tok.name n) w = w
unplaced_written (Tok.number n) w = w
unplaced_written (Tok.heap at) w = w
unplaced_written (Tok.key word) w = w
unplaced_written (Tok.sign g) w = w
unplaced_written Tok.missing w = w

all_written : (ts : Toks) → AreWritten ts → AreWritten (map unplaced_tok ts)
all_written [] w = tt
all_written (t ∷ ts) w = (unplaced_written t w.0, all_written ts w.1)

part_written : {ws us : Toks} → IsSubsequence ws us → AreWritten us → AreWritten ws
part_written IsSubsequence.none w = tt
part_written (IsSubsequence.kept h) w = (w.0, part_written h w.1)
part_written (IsSubsequence.left_out h) w = part_written h w.1

-- ---- the text of a program

module _ (p : Program) where
  -- Each program that is the same but for places is laid out so.
  laid_alike : (xs : List Item) → map unplaced_item xs ≡ map unplaced_item p.items → program xs ≡ program p.items
  laid_alike xs same = sym (program_same xs) ∙ ap program same ∙ program_same p.items

  spelling_written : {ts : Toks} (o : IsSpelling ts p) → Written (map unplaced_item) IsProgram (program p.items) ts o.items
  spelling_written {ts} o = subst (λ (ps : Layout). Written (map unplaced_item) IsProgram ps ts o.items) (laid_alike o.items o.same) (program_written o.spelled o.written)

  module _ (h : IsSpelled p) where
    abbrev text : List ℕ
    text = program_text p

    own : Written (map unplaced_item) IsProgram (program p.items) h.tokens h.spelling.items
    own = spelling_written h.spelling

    placeless : map unplaced_tok (tokens_of (program p.items)) ≡ tokens_of (program p.items)
    placeless = part_unplaced own.within (all_twice h.tokens)

    read_as : Found text 0 (program p.items)
    read_as = found text (program p.items) 0 (program_apart p.items) (part_written own.within (all_written h.tokens h.spelling.written)) refl (omega arith)

    seen : map unplaced_tok (toks text read_as.front) ≡ tokens_of (program p.items)
    seen = read_as.seen ∙ placeless

    spelled_again : Respelled (map unplaced_item) IsProgram (toks text read_as.front) h.spelling.items
    spelled_again = own.spelled.each.at (toks text read_as.front) seen

    abbrev end : Token
    end = token_at text kinds.End (length text) 0

    same_program : (xs : List Item) (at : Place) → map unplaced_item xs ≡ map unplaced_item p.items → SameButForPlaces (record { items = xs; end = at }) p
    same_program xs at same = ap (λ (ys : List Item). let q : Program = record { items = ys; end = nowhere } in q) same

    back : ReadsBack text p
    back = record {
      tokens = read_as.front ++ end ∷ [];
      reads = read_as.reads;
      read = record { items = spelled_again.tree; end = end.at };
      spelled = record { front = read_as.front; end = end; parts = refl; ended = refl; spelled = spelled_again.spelled; place = refl };
      same = same_program spelled_again.tree end.at (spelled_again.same ∙ h.spelling.same);
    }

    within : (tokens : Toks) → IsSpelling tokens p → IsSubsequence (map unplaced_tok (toks text read_as.front)) (map unplaced_tok tokens)
    within tokens o = subst (λ (us : Toks). IsSubsequence us (map unplaced_tok tokens)) (sym seen) (spelling_written o).within

    fewest : (other : List ℕ) (o : ReadsBack other p) → brackets (toks text read_as.front) ≤ brackets (toks other o.spelled.front)
    fewest other o =
        let tokens = toks other o.spelled.front in
        omega (arith, brackets_le (within tokens (text_spells other o.tokens o.read p o.reads o.spelled o.same)), brackets_unplaced (toks text read_as.front), brackets_unplaced tokens)

    -- The text of a program is read as it, and each spelling of the program has its tokens.
    pub least : IsLeast text p
    unfolding back
    least = record { back = back; within = within; fewest = fewest }
