-- What the functions of the writer add to a text.
use Rattle.std.specs.Prelude.{List, [], ◌∷◌, ◌++◌}
use Rattle.gr_syntax.specs.declared.syntax.Program.{Program}
use Rattle.gr_lang.specs.declared.action.Entry.{Entry}
use Rattle.gr_hist.specs.Names.{Bytes}
use Rattle.gr_hist.specs.Grammar.{HasNumbers}
use Rattle.gr_hist.specs.Naming.{named}

-- Fields behind others: each with a space before it.
abbrev pub trail : List Bytes → Bytes
trail [] = []
trail (field ∷ fields) = 32 ∷ (field ++ trail fields)

-- The numbers of each entry are such as a line can have.
abbrev pub HaveNumbers : Program → List Entry → Type 0
HaveNumbers program [] = Unit {0}
HaveNumbers program (entry ∷ entries) = HasNumbers (named program entry) × HaveNumbers program entries
