use Rattle.std.proofs.Common.{ap, arith, ◌∙◌, ℕ}
use Rattle.gr_lang.specs.Effects.{reduced}
use Rattle.gr_reduce.proofs.Numbers.{numbered}
use Rattle.gr_reduce.proofs.reducers.Reducers.apply.Goals as goal

pub returns-then-number-lt8 : goal.returns-then-number-lt8
returns-then-number-lt8 g c =
    c.apply.ensures
    ∙ ap (λ (number : ℕ). reduced number c.args.one c.args.other)
    (numbered _ c.args.self.now.list c.args.number c.index-self-number.result c.args.self.now.ordered (omega (arith, c.if-number-lt8.true)))
