use Rattle.std.proofs.Common.{rules, ◌∙◌, sym}
use Rattle.gr_cli.proofs.Numerals.{refused}
use Rattle.gr_cli.proofs.numbers.number_in.Goals as goal

pub returns-in_default : goal.returns-in_default
returns-in_default c = refused c.args.bounds c.args.text.now c.in_default.field-0 c.in_default.ensures.value.0
    (sym c.is_numeral.ensures ∙ c.if-not-is_numeral.false) (search rules)
