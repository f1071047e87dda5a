-- The law of the names of objects.
use Rattle.std.specs.Prelude.{◌≡◌, ℕ, true, All, List, Ok}
use Rattle.gr_syntax.specs.declared.syntax.Program.{Program}
use Rattle.gr_syntax.specs.Items.{object_names}
use Rattle.gr_syntax.specs.Names.{is_name}
use Rattle.gr_text.specs.declared.token.Token.{Token}
use Rattle.gr_text.specs.Text.{Reads}
use Rattle.gr_parse.specs.Grammar.{IsProgramOf}

-- A text that reads as tokens which spell a program: each array, set, map and vector of that has a name of the language, and so none is named by a keyword.
abbrev pub SpelledObjectsHaveNames : Type 0
SpelledObjectsHaveNames =
    (text : List ℕ) (tokens : List Token) (program : Program) → Reads text (Ok tokens) → IsProgramOf text tokens program
    → All (λ name. is_name name ≡ true) (object_names program.items)
