use Rattle.std.proofs.Common.{List, subst, sym}
use Rattle.gr_lang.specs.declared.action.WaitingCall.{WaitingCall}
use Rattle.gr_vector.specs.declared.ends.Ends.{Ends}
use Rattle.gr_vector.specs.PlanWords.{Fit}
use Rattle.gr_vector.proofs.Fits.{all_fit}
use Rattle.gr_vector.proofs.planning.plan.Goals as goal

pub follow-requires : goal.follow-requires
follow-requires c =
    let ends : Ends = record { head = c.args.head; tail = c.args.tail } in
    subst (λ (calls : List WaitingCall). Fit calls ends) (sym c.as_slice-calls.ensures) (all_fit c.args.group.now ends c.requires.fits)
