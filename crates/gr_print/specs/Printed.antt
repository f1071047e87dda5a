-- Which tokens spell a program, and what it is that a text's tokens do so with none to spare.
use Rattle.std.specs.Prelude.{◌≡◌, ◌≢◌, ℕ, ◌<◌, ◌≤◌, ◌^◌, ◌+◌, if◌then◌else◌, List, [], ◌∷◌, length, map, Ok}
use Rattle.gr_syntax.specs.declared.syntax.Item.{Item}
use Rattle.gr_syntax.specs.declared.syntax.Program.{Program}
use Rattle.gr_text.specs.declared.token.Keyword.TheVariants as keywords
use Rattle.gr_text.specs.declared.token.Sign.TheVariants as signs
use Rattle.gr_text.specs.declared.token.Token.{Token}
use Rattle.gr_text.specs.declared.token.TokenKind.TheVariants as kinds
use Rattle.gr_syntax.specs.declared.limits.TheConstants.{MAX_NAME}
use Rattle.gr_text.specs.Text.{IsToken, Reads}
use Rattle.gr_expressions.specs.Tok.{Tok, is_sign, toks, Toks}
use Rattle.gr_parse.specs.Grammar.{IsProgram, IsProgramOf}
use Rattle.gr_print.specs.Unplaced.{unplaced_item, unplaced_tok, SameButForPlaces}

-- The first list is the second one, maybe with some elements left out.
pub data IsSubsequence {A : Type 0} : List A → List A → Type 0 where
  none : {ys : List A} → IsSubsequence [] ys
  kept : {x : A} {xs ys : List A} → IsSubsequence xs ys → IsSubsequence (x ∷ xs) (x ∷ ys)
  left_out : {y : A} {xs ys : List A} → IsSubsequence xs ys → IsSubsequence xs (y ∷ ys)

-- ---- spellings

-- A token that a text can have.
abbrev pub IsWritten : Tok → Type 0
IsWritten (Tok.name given) = IsToken kinds.Name given.text × (length given.text ≤ MAX_NAME)
IsWritten (Tok.number given) = given.value < 2 ^ 64
IsWritten (Tok.heap at) = Unit {0}
IsWritten (Tok.key word) = word ≢ keywords.Heap
IsWritten (Tok.sign mark) = Unit {0}
IsWritten Tok.missing = ⊥

-- Tokens that a text can have.
abbrev pub AreWritten : Toks → Type 0
AreWritten [] = Unit {0}
AreWritten (first ∷ others) = IsWritten first × AreWritten others

-- The tokens are those of a text, and spell the program, but for places.
pub record IsSpelling (tokens : Toks) (program : Program) : Type 0 where
  pub written : AreWritten tokens
  pub items : List Item
  pub spelled : IsProgram tokens items
  pub same : map unplaced_item items ≡ map unplaced_item program.items

-- The program is, but for places, one that the grammar gives.
pub record IsSpelled (program : Program) : Type 0 where
  pub tokens : Toks
  pub spelling : IsSpelling tokens program

-- ---- texts

-- The text is read as the program, but for places.
pub record ReadsBack (text : List ℕ) (program : Program) : Type 0 where
  pub tokens : List Token
  pub reads : Reads text (Ok tokens)
  pub read : Program
  pub spelled : IsProgramOf text tokens read
  pub same : SameButForPlaces read program

-- How many opening brackets there are among tokens.
abbrev pub brackets : Toks → ℕ
brackets [] = 0
brackets (first ∷ others) = if is_sign signs.LeftParen first then 1 + brackets others else brackets others

-- The text is read as the program, but for places. Each spelling of the program has the tokens of the text in their order, and maybe others between them; and no text that is read as the program has fewer brackets.
pub record IsLeast (text : List ℕ) (program : Program) : Type 0 where
  pub back : ReadsBack text program
  pub within : (tokens : Toks) → IsSpelling tokens program → IsSubsequence (map unplaced_tok (toks text back.spelled.front)) (map unplaced_tok tokens)
  pub fewest : (other : List ℕ) (again : ReadsBack other program) → brackets (toks text back.spelled.front) ≤ brackets (toks other again.spelled.front)
