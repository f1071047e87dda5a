use Rattle.std.proofs.Common.{◌∙◌, ◌++◌, ℕ, List, Some, ap, refl, sym}
use Rattle.gr_engine.specs.Ends.{ended_as}
use Rattle.gr_top.specs.AnswerView.{text_at}
use Rattle.gr_top.specs.Due.{told}
use Rattle.gr_top.specs.Commands.{setup_of}
use Rattle.gr_top.proofs.Endings.{made_ran}
use Rattle.gr_top.proofs.engine.ran.Goals as goal

pub returns-clause-due : goal.returns-clause-due
returns-clause-due c =
    ap Some (sym (made_ran c.args.options.now c.args.program.now c.args.ran.world
    (record { refusal = c.refusal.result; text = c.in_ok-text.text; world = Some c.args.ran.world }) c.args.ran.ending (ended_as (setup_of c.args.options.now) c.args.program.now c.args.ran.world)
    c.extend_from_slice.new.self.items refl c.requires.ends c.refusal.ensures
    (c.in_ok-extend_from_slice.ensures.items ∙ ap (λ (more : List ℕ). more ++ c.as_slice.result.now) c.in_ok-more.ensures.text
    ∙ ap (λ (counts : List ℕ). told c.args.options.now.history c.args.program.now c.args.options.now.cores c.args.options.now.steps c.args.ran.world.history ++ counts) (c.as_slice.ensures.value ∙ c.in_ok-counts.ensures))
    (c.in_ok-text.ensures ∙ ap (λ (more : List ℕ). text_at c.args.program.now c.args.ran.world.history c.args.ran.ending more) c.as_slice-2.ensures.value)))
