-- The pieces of a text that is laid out, and the bytes of each.
use Rattle.std.specs.Prelude.{ℕ, if◌then◌else◌, List, [], ◌∷◌, ◌++◌, codes}
use Rattle.std.specs.Fmt.{decimal}
use Rattle.std.specs.Str.{bytes_eq}
use Rattle.gr_syntax.specs.declared.syntax.Name.{Name}
use Rattle.gr_syntax.specs.declared.syntax.Number.{Number}
use Rattle.gr_text.specs.declared.token.Keyword.{Keyword}
use Rattle.gr_text.specs.declared.token.Sign.{Sign}
use Rattle.gr_text.specs.declared.token.Sign.TheVariants as signs
use Rattle.gr_text.specs.Spelling.{keyword_bytes, sign_bytes}
use Rattle.gr_expressions.specs.Tok.{Tok}
use Rattle.gr_print.specs.Unplaced.{nowhere, unplaced_name, unplaced_number}

-- A token without its place, a blank, or the end of a line.
pub data Piece : Type 0 where
  token : Tok → Piece
  blank : Piece
  newline : Piece

-- The pieces of a text from its first to its last.
abbrev pub Layout : Type 0
Layout = List Piece

-- A token as a text writes it. None writes the token that no text has.
abbrev pub token_bytes : Tok → List ℕ
token_bytes (Tok.name given) = given.text
token_bytes (Tok.number given) = decimal given.value
token_bytes (Tok.heap at) = codes "heap"
token_bytes (Tok.key word) = keyword_bytes word
token_bytes (Tok.sign mark) = sign_bytes mark
token_bytes Tok.missing = []

-- A blank is a space.
abbrev pub piece_bytes : Piece → List ℕ
piece_bytes (Piece.token given) = token_bytes given
piece_bytes Piece.blank = codes " "
piece_bytes Piece.newline = codes "\n"

-- The text that is laid out so.
abbrev pub bytes_of : Layout → List ℕ
bytes_of [] = []
bytes_of (first ∷ others) = piece_bytes first ++ bytes_of others

-- ---- tokens as pieces

-- A name.
abbrev pub name : Name → Piece
name given = Piece.token (Tok.name (unplaced_name given))

-- A number.
abbrev pub number : Number → Piece
number given = Piece.token (Tok.number (unplaced_number given))

-- A keyword.
abbrev pub key : Keyword → Piece
key word = Piece.token (Tok.key word)

-- A sign.
abbrev pub sign : Sign → Piece
sign mark = Piece.token (Tok.sign mark)

-- The end of a statement or item that has no block.
abbrev pub semicolon : Layout
semicolon = sign signs.Semicolon ∷ []

-- The keyword `heap`.
abbrev pub heap : Piece
heap = Piece.token (Tok.heap nowhere)

-- The object of a call as a token: the heap is its keyword, any other its name.
abbrev pub object_tok : Name → Tok
object_tok given = if bytes_eq given.text (codes "heap") then Tok.heap nowhere else Tok.name (unplaced_name given)

-- The object of a call.
abbrev pub object : Name → Piece
object given = Piece.token (object_tok given)
