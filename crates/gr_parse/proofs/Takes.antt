-- A statement takes a token, and so does an item.
use Rattle.std.proofs.Common.{ℕ}
use Rattle.gr_meets.specs.LanguageWords.{Takes}
use Rattle.gr_meets.proofs.Agrees.{takes}
use Rattle.gr_parse.specs.ParsingWords.{statement, item}
use Rattle.gr_parse.proofs.Stmts.{statement_meets}
use Rattle.gr_parse.proofs.StmtsComplete.{stmt_long}
use Rattle.gr_parse.proofs.ItemsMeet.{item_meets}
use Rattle.gr_parse.proofs.ItemsComplete.{item_long}

pub statement_takes : (turns d : ℕ) → Takes (statement turns d)
statement_takes turns d = takes (statement_meets turns d) (stmt_long d)

pub item_takes : (turns : ℕ) → Takes (item turns)
item_takes turns = takes (item_meets turns) item_long
