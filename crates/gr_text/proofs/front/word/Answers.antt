use Rattle.std.proofs.Common.{◌<◌, arith}
use Rattle.std.proofs.lemmas.List.Sums.{prefix_len-le-length}
use Rattle.std.specs.List.{prefix_len}
use Rattle.gr_syntax.specs.declared.limits.TheConstants.{MAX_NAME}
use Rattle.gr_syntax.specs.Names.{is_word}
use Rattle.gr_text.proofs.Found.{keyword_found, name_found}
use Rattle.gr_text.proofs.Longest.{long_front}
use Rattle.gr_text.proofs.front.word.Goals as goal

pub returns-then-length-gt-MAX_NAME : goal.returns-then-length-gt-MAX_NAME
returns-then-length-gt-MAX_NAME c =
    let long : MAX_NAME < prefix_len is_word c.args.text.now = omega (arith, c.word_len-length.ensures) in
    (prefix_len is_word c.args.text.now, long_front c.args.text.now c.requires long, long)

pub upto-requires : goal.upto-requires
upto-requires c = omega (arith, prefix_len-le-length is_word c.args.text.now, c.word_len-length.ensures)

pub returns-in-Some : goal.returns-in-Some
returns-in-Some c = (keyword_found c.args.text.now c.upto.result.now c.word_len-length.result c.in-Some.word c.requires c.word_len-length.ensures c.upto.ensures c.in-Some.ensures, tt)

pub returns-in-None : goal.returns-in-None
returns-in-None c = (name_found c.args.text.now c.upto.result.now c.word_len-length.result c.requires c.word_len-length.ensures c.upto.ensures c.in-None.ensures, omega arith)
