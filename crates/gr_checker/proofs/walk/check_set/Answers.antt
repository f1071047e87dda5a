use Rattle.std.proofs.Common.{◌∙◌, ap, sym}
use Rattle.gr_accept.specs.Walks.{only, targets, right_sites}
use Rattle.gr_checker.specs.WalkView.{after}
use Rattle.gr_checker.proofs.Statements.{after-both}
use Rattle.gr_checker.proofs.walk.check_set.Goals as goal

pub returns : goal.returns
returns c =
    let w = c.args.walk.now in
    let names = c.args.names.now in
    c.in_ok-check_targets.ensures
    ∙ ap (λ x. after (record { found = x; scope = w.scope }) (targets c.args.fresh names)) c.check_right.ensures
    ∙ sym (after-both w (only (right_sites names c.args.right.now)) (targets c.args.fresh names))
