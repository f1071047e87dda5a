use Rattle.std.proofs.Common.{length, ◌∷◌, ◌++◌, ◌+◌}
use Rattle.gr_accept.specs.Sites.{starts}
use Rattle.gr_accept.specs.Walks.{expr_sites, exprs_sites}
use Rattle.gr_checker.specs.EarliestWords.{seen}
use Rattle.gr_checker.specs.MeaningView.{meaning_of}
use Rattle.gr_checker.proofs.Leasts.{seen-append}
use Rattle.gr_checker.proofs.walk.check_forall.Goals as goal

pub returns : goal.returns
returns c =
    let m = meaning_of c.args.scope.now.meanings.now in
    let v = c.args.scope.now.visible in
    let found = c.args.found.now in
    let lo = expr_sites v c.args.lo.now in
    let hi = expr_sites v c.args.hi.now in
    let grain = expr_sites v c.args.grain.now in
    let rest = starts c.args.target.now (length c.args.args.now + 1) ∷ exprs_sites v c.args.args.now in
    cc (
      seen-append m found lo (hi ++ (grain ++ rest)),
      seen-append m (seen m found lo) hi (grain ++ rest),
      seen-append m (seen m (seen m found lo) hi) grain rest,
      c.check_expr.ensures,
      c.check_start.ensures,
      c.check_exprs.ensures,
    )
