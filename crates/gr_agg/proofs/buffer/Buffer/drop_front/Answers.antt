use Rattle.std.proofs.Common.{◌≡◌, ◌∙◌, ap, arith, drop, min}
use Rattle.std.proofs.lemmas.List.{drop-drop, drop_min}
use Rattle.gr_agg.proofs.buffer.Buffer.drop_front.Goals as goal

pub oldest-preserved : goal.oldest-preserved
oldest-preserved c = c.drop_first.ensures ∙ ap (drop 1) c.oldest.invariant ∙ drop-drop 1 c.oldest.counter c.args.self.now

pub returns : goal.returns
returns c =
    let all : c.oldest.counter ≡ c.min-count.result = omega arith in
    c.oldest.invariant ∙ ap (λ k. drop k c.args.self.now) (all ∙ c.min-count.ensures ∙ ap (min c.args.limit) c.len.ensures) ∙ drop_min c.args.limit c.args.self.now
