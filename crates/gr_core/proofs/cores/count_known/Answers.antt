use Rattle.std.proofs.Common.{◌∙◌, length}
use Rattle.gr_view.specs.Places.{at_place}
use Rattle.gr_mail.specs.Rings.{known_from}
use Rattle.gr_core.proofs.Known.{known_more}
use Rattle.gr_core.proofs.cores.count_known.Goals as goal

pub loop-core-preserved : goal.loop-core-preserved
loop-core-preserved c = record {
  len = c.note_known.ensures.len ∙ c.loop-core.invariant.len;
  known = known_more (λ core. length (known_from c.args.mail.now core)) (at_place 0 c.loop-core.left.items) (at_place 0 c.note_known.new.left.items) c.loop-core.core
      c.note_known.ensures.known c.loop-core.invariant.known;
}
