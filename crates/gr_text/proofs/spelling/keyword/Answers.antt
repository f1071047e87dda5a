use Rattle.std.proofs.Common.{◌≡◌, get_or}
use Rattle.gr_text.specs.declared.token.Keyword.TheVariants.{Array}
use Rattle.gr_text.specs.Spelling.{keyword_bytes}
use Rattle.gr_text.proofs.Words.{all, no_more, unequal}
use Rattle.gr_text.proofs.spelling.keyword.Goals as goal

pub each-preserved : goal.each-preserved
each-preserved c =
    let h : c.text.result.now ≡ keyword_bytes (get_or all c.each.keyword-index Array) = c.text.ensures in
    no_more c.args.word.now c.text.result.now c.each.keyword-index Array c.each.invariant h (unequal c.args.word.now c.text.result.now c.as_bytes.result.now c.eq.result c.eq.ensures c.as_bytes.ensures.value c.if-eq.false)
