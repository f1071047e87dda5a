use Rattle.std.proofs.Common.{◌≡◌, ℕ, ◌-◌, ◌/◌, ◌^◌, List, length, slice_index, ◌<◌, nat_le, Some, sym, ap, ◌∙◌, arith, rules}
use Rattle.std.specs.Prelude.{position}
use Rattle.std.proofs.Math.Nat.{one-le-pow}
use Rattle.std.proofs.lemmas.List.{get_or_read}
use Rattle.gr_alloc.proofs.Climbs.{pow_double}
use Rattle.gr_alloc.proofs.Positions.{found_at, none_at}
use Rattle.gr_alloc.proofs.peaks.Peaks.first_at_least.Goals as goal

pub returns-then-index-need : goal.returns-then-index-need
returns-then-index-need c =
    let tree = c.self.inside.tree.items in
    let levels = c.self.inside.levels in
    let two : 1 < length tree = omega (arith, c.self.invariant.whole, pow_double levels, one-le-pow levels 2 (omega arith)) in
    let root : c.index.result.now ≡ slice_index tree 1 = get_or_read tree 1 c.index.result.now two c.index.ensures 0 in
    sym (none_at tree levels c.args.need c.self.invariant (omega (arith, root)))
    ∙ ap (λ (xs : List ℕ). position (λ x. nat_le c.args.need x) xs) c.self.view_is

pub returns : goal.returns
returns c =
    let tree = c.self.inside.tree.items in
    let half : c.len.result / 2 ≡ 2 ^ c.self.inside.levels = omega (arith, c.len.ensures, c.self.invariant.whole, pow_double c.self.inside.levels) in
    ap (λ n. Some (c.first_leaf.result - n)) half
    ∙ sym (found_at tree c.self.inside.levels c.args.need c.first_leaf.result c.self.invariant c.first_leaf.ensures.leaf (search rules) (search rules) (search rules))
    ∙ ap (λ (xs : List ℕ). position (λ x. nat_le c.args.need x) xs) c.self.view_is
