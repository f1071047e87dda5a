use Rattle.std.proofs.Common.{◌≡◌, ℕ, List, ◌+◌, ◌<◌, length, slice_index, sym, ap, subst, arith}
use Rattle.std.proofs.lemmas.List.{get_or_read}
use Rattle.gr_alloc.proofs.Pieces.{join_cut, join_ends, two_set}
use Rattle.gr_alloc.proofs.cuts.Cuts.join.Goals as goal

pub overflow_add-words : goal.overflow_add-words
overflow_add-words c =
    let xs = c.self.inside.sizes.items in
    let o = c.args.at in
    let s = c.index-first.result.now in
    let t = c.index.result.now in
    let cut = c.self.invariant.cut in
    let there : 0 < slice_index xs o = subst (λ (ys : List ℕ). 0 < slice_index ys o) (sym c.self.view_is) c.requires.there in
    let behind : o + slice_index xs o < length xs = subst (λ (ys : List ℕ). o + slice_index ys o < length ys) (sym c.self.view_is) c.requires.behind in
    let size : slice_index xs o ≡ s = sym (get_or_read xs o s (omega arith) c.index-first.ensures 0) in
    let next : slice_index xs (o + s) ≡ t = sym (get_or_read xs (o + s) t (omega arith) c.index.ensures 0) in
    let more = cut.goes_on o there behind in
    let place = ap (λ n. slice_index xs (o + n)) size in
    omega (arith, cut.within (o + s), cut.few)

pub invariant_of-self : goal.invariant_of-self
invariant_of-self c =
    let xs = c.self.inside.sizes.items in
    let es = c.self.inside.ends.items in
    let o = c.args.at in
    let s = c.index-first.result.now in
    let t = c.index.result.now in
    let cut = c.self.invariant.cut in
    let ends = c.self.invariant.ends in
    let there : 0 < slice_index xs o = subst (λ (ys : List ℕ). 0 < slice_index ys o) (sym c.self.view_is) c.requires.there in
    let behind : o + slice_index xs o < length xs = subst (λ (ys : List ℕ). o + slice_index ys o < length ys) (sym c.self.view_is) c.requires.behind in
    let size : slice_index xs o ≡ s = sym (get_or_read xs o s (omega arith) c.index-first.ensures 0) in
    let next : slice_index xs (o + s) ≡ t = sym (get_or_read xs (o + s) t (omega arith) c.index.ensures 0) in
    let more = cut.goes_on o there behind in
    let place = ap (λ n. slice_index xs (o + n)) size in
    let within = cut.within (o + s) (omega arith) in
    let two = two_set xs o (s + t) (o + s) 0 (omega arith) (omega arith) (λ e. absurd (omega (arith, e))) in
    let ends_two = two_set es (o + s) 0 (o + (s + t)) (s + t) (omega (arith, ends.whole)) (omega (arith, ends.whole)) (λ e. absurd (omega (arith, e))) in
    record {
      cut = join_cut xs _ o s t cut size next (omega arith) (omega arith) two;
      ends = join_ends xs _ es _ o s t cut ends size next (omega arith) (omega arith) two ends_two;
    }
