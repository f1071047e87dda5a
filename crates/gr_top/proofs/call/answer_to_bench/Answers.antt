use Rattle.std.proofs.Common.{◌∙◌, ℕ, List, subst}
use Rattle.gr_top.specs.Readings.{ReadsAs}
use Rattle.gr_top.proofs.Dues.{made_bench}
use Rattle.gr_top.proofs.call.answer_to_bench.Goals as goal

pub returns-clause-due : goal.returns-clause-due
returns-clause-due g c = λ words bytes some.
    let due = c.in_ok-answer.ensures.due in
    made_bench words bytes c.in_ok-answer.answer c.args.options.now some c.requires.bench
    (due.0, subst (λ (text : List ℕ). ReadsAs text due.0) (c.as_slice.ensures.value ∙ c.in_ok-text.ensures) due.1, due.2)
