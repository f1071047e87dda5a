use Rattle.std.proofs.Common.{not, ap, ◌∙◌}
use Rattle.gr_syntax.specs.declared.refusal.Kind.TheVariants as kind
use Rattle.gr_syntax.specs.Faults.{when}
use Rattle.gr_accept.specs.Accepted.{uses_sites}
use Rattle.gr_accept.specs.Conditions.{has_main}
use Rattle.gr_checker.specs.EarliestWords.{least, seen}
use Rattle.gr_checker.specs.HeadsView.{Kept}
use Rattle.gr_checker.proofs.Bridge.{whole}
use Rattle.gr_checker.proofs.checking.first_fault.Goals as goal

pub returns : goal.returns
returns c =
    let items = c.as_slice-items.result.now in
    let main = when (not (has_main items)) kind.NoMain c.args.program.now.end in
    c.get.ensures
    ∙ c.note_if.ensures
    ∙ rw (c.in_ok-found.ensures, c.finds_main-has_main.ensures) (ap (λ (kept : Kept). least (seen kept.meaning kept.found (uses_sites items)) main) c.in_ok-heads.ensures ∙ rw c.as_slice-items.ensures (whole c.args.program.now))
