use Rattle.gr_print.proofs.Spellings.{text_spells, read_spelled}
use Rattle.gr_print.proofs.laws.texts_are_spellings.Goals as goal

pub returns-clause-spelling : goal.returns-clause-spelling
returns-clause-spelling c = λ text program back. text_spells text back.tokens back.read program back.reads back.spelled back.same

pub returns-clause-spelled : goal.returns-clause-spelled
returns-clause-spelled c = read_spelled
