-- The law of the numbers of a program.
use Rattle.std.specs.Prelude.{◌≡◌, ℕ, true, List, Ok}
use Rattle.gr_syntax.specs.declared.syntax.Program.{Program}
use Rattle.gr_text.specs.declared.token.Token.{Token}
use Rattle.gr_text.specs.Text.{Reads}
use Rattle.gr_parse.specs.Grammar.{IsProgramOf}
use Rattle.gr_fits_words.specs.Literals.{items_fit}

-- A text that reads as tokens which spell a program: each number of its inputs and of its tasks' bodies is a word.
abbrev pub SpelledNumbersFit : Type 0
SpelledNumbersFit =
    (text : List ℕ) (tokens : List Token) (program : Program) → Reads text (Ok tokens) → IsProgramOf text tokens program
    → items_fit program.items ≡ true
