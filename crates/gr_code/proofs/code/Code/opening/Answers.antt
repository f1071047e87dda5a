use Rattle.std.proofs.Common.{◌∙◌, ap, sym, slice_index}
use Rattle.gr_code.proofs.Words.{opening_is}
use Rattle.gr_code.proofs.code.Code.opening.Goals as goal

pub returns : goal.returns
returns c = c.word_in.ensures ∙ ap (λ l. slice_index l c.args.at) c.arrays.ensures ∙ sym (opening_is c.args.self.now.program c.args.at)
