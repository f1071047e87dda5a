use Rattle.std.proofs.Common.{◌≡◌, ℕ, List, arith}
use Rattle.std.proofs.lemmas.Map.Text.{text_keys}
use Rattle.gr_checker.specs.MeaningView.{meaning_of, with_meaning}
use Rattle.gr_checker.proofs.meanings.Meanings.add.Goals as goal

pub returns-in-Ok : goal.returns-in-Ok
returns-in-Ok c =
    let same : (name : List ℕ) → meaning_of (record { table = c.insert.new.self }) name ≡ with_meaning (meaning_of c.args.self.now) c.args.name.now c.args.declared name = λ name. grind (arith, text_keys) in
    λ i name. same name i
