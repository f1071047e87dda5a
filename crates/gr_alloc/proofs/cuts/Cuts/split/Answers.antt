use Rattle.std.proofs.Common.{◌≡◌, ℕ, List, ◌+◌, ◌-◌, ◌<◌, slice_index, sym, subst, arith}
use Rattle.std.proofs.lemmas.List.{get_or_read}
use Rattle.gr_alloc.proofs.Pieces.{split_cut, split_ends, two_set}
use Rattle.gr_alloc.proofs.cuts.Cuts.split.Goals as goal

pub invariant_of-self : goal.invariant_of-self
invariant_of-self c =
    let xs = c.self.inside.sizes.items in
    let es = c.self.inside.ends.items in
    let o = c.args.at in
    let f = c.args.first in
    let s = c.index-words.result.now in
    let cut = c.self.invariant.cut in
    let ends = c.self.invariant.ends in
    let fewer : f < slice_index xs o = subst (λ (ys : List ℕ). f < slice_index ys o) (sym c.self.view_is) c.requires.fewer in
    let within = cut.within o (omega arith) in
    let size : slice_index xs o ≡ s = sym (get_or_read xs o s (omega arith) c.index-words.ensures 0) in
    let two = two_set xs o f (o + f) (s - f) (omega arith) (omega arith) (λ e. absurd (omega (arith, e))) in
    let ends_two = two_set es (o + f) f (o + s) (s - f) (omega (arith, ends.whole)) (omega (arith, ends.whole)) (λ e. absurd (omega (arith, e))) in
    record {
      cut = split_cut xs _ o f s cut size c.requires.some (omega arith) two;
      ends = split_ends xs _ es _ o f s cut ends size c.requires.some (omega arith) two ends_two;
    }
