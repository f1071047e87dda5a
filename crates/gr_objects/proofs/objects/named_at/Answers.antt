use Rattle.std.proofs.Common.{◌∙◌, ap, sym}
use Rattle.gr_machine.specs.Requests.{or_heap}
use Rattle.gr_objects.specs.ShapeWords.{array_by}
use Rattle.gr_objects.proofs.Reaching.{array_is}
use Rattle.gr_lang.specs.Openings.{opening}
use Rattle.gr_objects.proofs.objects.named_at.Goals as goal

pub returns-in-Some : goal.returns-in-Some
returns-in-Some c =
    ap (or_heap c.args.at) (sym c.in-Some.is ∙ c.array_in.ensures ∙ ap (array_by 0 c.args.at) (c.as_slice.ensures ∙ c.objects.ensures) ∙ array_is 0 c.args.at (opening c.args.code.now.program).things)

pub returns-in-None : goal.returns-in-None
returns-in-None c =
    ap (or_heap c.args.at) (sym c.in-None.is ∙ c.array_in.ensures ∙ ap (array_by 0 c.args.at) (c.as_slice.ensures ∙ c.objects.ensures) ∙ array_is 0 c.args.at (opening c.args.code.now.program).things)
