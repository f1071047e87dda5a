use Rattle.std.proofs.Common.{ℕ, List, ap, ◌∙◌}
use Rattle.gr_checker.specs.HeadsView.{Kept, count_object, declare_name, kept_by}
use Rattle.gr_checker.proofs.heads.declare_object.Goals as goal

pub returns : goal.returns
returns c =
    let at = c.args.name.now.at in
    c.in_ok-declare_name.ensures
    ∙ ap (λ (kept : Kept). declare_name c.as_str.result.now at c.args.declared kept) c.count_object.ensures
    ∙ ap (λ (name : List ℕ). declare_name name at c.args.declared (count_object at (kept_by c.args.heads.now))) c.as_str.ensures
