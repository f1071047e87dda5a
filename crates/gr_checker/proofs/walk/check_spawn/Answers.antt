use Rattle.std.proofs.Common.{length, ◌∷◌}
use Rattle.gr_accept.specs.Sites.{starts}
use Rattle.gr_accept.specs.Walks.{how_sites, exprs_sites}
use Rattle.gr_checker.specs.MeaningView.{meaning_of}
use Rattle.gr_checker.proofs.Leasts.{seen-append}
use Rattle.gr_checker.proofs.walk.check_spawn.Goals as goal

pub returns : goal.returns
returns c =
    let v = c.args.scope.now.visible in
    cc (
      seen-append (meaning_of c.args.scope.now.meanings.now) c.args.found.now (how_sites c.args.how.now v) (starts c.args.target.now (length c.args.args.now) ∷ exprs_sites v c.args.args.now),
      c.check_how.ensures,
      c.check_start.ensures,
      c.check_exprs.ensures,
    )
