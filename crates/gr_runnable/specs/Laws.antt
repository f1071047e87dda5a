-- The law of the programs that texts give.
use Rattle.std.specs.Prelude.{ℕ, List, Ok}
use Rattle.gr_syntax.specs.declared.syntax.Program.{Program}
use Rattle.gr_text.specs.declared.token.Token.{Token}
use Rattle.gr_text.specs.Text.{Reads}
use Rattle.gr_parse.specs.Grammar.{IsProgramOf}
use Rattle.gr_accept.specs.Accepted.{IsAccepted}
use Rattle.gr_runnable.specs.Runnable.{IsRunnable}

-- A text that reads as tokens which spell a program, where that is accepted: it can be run.
abbrev pub TextsAreRunnable : Type 0
TextsAreRunnable =
    (text : List ℕ) (tokens : List Token) (program : Program) → Reads text (Ok tokens) → IsProgramOf text tokens program
    → IsAccepted program → IsRunnable program
