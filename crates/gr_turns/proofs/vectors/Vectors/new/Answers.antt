use Rattle.std.proofs.Common.{ap, ◌∙◌}
use Rattle.gr_turns.specs.LineWords.{lines_of, masters_from}
use Rattle.gr_turns.proofs.Firsts.{first}
use Rattle.gr_turns.proofs.vectors.Vectors.new.Goals as goal

pub returns : goal.returns
returns c =
    first c.args.shapes.now c.args.cores c.args.me c.in_ok-vectors.vectors.items c.in_ok-masters.masters.items
    (c.in_ok-vectors.ensures ∙ ap lines_of c.as_slice.ensures)
    (c.in_ok-masters.ensures ∙ ap (masters_from c.args.cores c.args.me 0) c.as_slice-2.ensures)
