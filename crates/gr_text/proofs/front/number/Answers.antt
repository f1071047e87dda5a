use Rattle.std.proofs.Common.{arith, rules, refl}
use Rattle.std.specs.Str.Parse.{digits_value}
use Rattle.std.proofs.lemmas.List.Sums.{prefix_len-le-length}
use Rattle.gr_syntax.specs.Names.{is_digit}
use Rattle.gr_text.proofs.Found.{digits_all, number_found}
use Rattle.gr_text.proofs.front.number.Goals as goal

pub upto-requires : goal.upto-requires
upto-requires c = omega (arith, prefix_len-le-length is_digit c.args.text.now, c.digits_len-length.ensures)

pub value-requires : goal.value-requires
value-requires c = digits_all c.args.text.now c.upto.result.now c.digits_len-length.result c.digits_len-length.ensures c.upto.ensures

pub returns-in-Some : goal.returns-in-Some
returns-in-Some c = (number_found c.args.text.now c.upto.result.now c.digits_len-length.result c.in-Some.value c.requires c.digits_len-length.ensures c.upto.ensures c.in-Some.ensures, search rules)

pub returns-in-None : goal.returns-in-None
returns-in-None c = (digits_value 10 c.upto.result.now, c.digits_len-length.result, number_found c.args.text.now c.upto.result.now c.digits_len-length.result (digits_value 10 c.upto.result.now) c.requires c.digits_len-length.ensures c.upto.ensures refl, c.in-None.ensures)
