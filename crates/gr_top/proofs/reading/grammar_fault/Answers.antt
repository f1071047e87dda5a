use Rattle.std.proofs.Common.{sym, subst}
use Rattle.gr_parse.specs.declared.fault.ParseError.{ParseError}
use Rattle.gr_parse.specs.Grammar.{Says}
use Rattle.gr_top.specs.Readings.{ReadsAs}
use Rattle.gr_top.specs.AnswerView.{reading_of}
use Rattle.gr_top.specs.declared.reading.TextRead.{TextRead}
use Rattle.gr_top.proofs.reading.grammar_fault.Goals as goal

pub returns-in-Unexpected-clause-reads : goal.returns-in-Unexpected-clause-reads
returns-in-Unexpected-clause-reads c =
    subst (λ (x : TextRead). ReadsAs c.args.text.now (reading_of x)) (sym c.refused.ensures)
    (ReadsAs.unexpected c.requires.reads (subst (λ (e : ParseError). Says e c.args.text.now c.args.tokens.now) c.in-Unexpected.is c.requires.says))

pub returns-in-UnexpectedEnd-clause-reads : goal.returns-in-UnexpectedEnd-clause-reads
returns-in-UnexpectedEnd-clause-reads c =
    subst (λ (x : TextRead). ReadsAs c.args.text.now (reading_of x)) (sym c.refused-in-UnexpectedEnd.ensures)
    (ReadsAs.unexpected_end c.requires.reads (subst (λ (e : ParseError). Says e c.args.text.now c.args.tokens.now) c.in-UnexpectedEnd.is c.requires.says))
