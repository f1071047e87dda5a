use Rattle.std.proofs.Common.{ℕ, List, Option, ◌∷◌, ◌∙◌, sym, ap, refl}
use Rattle.gr_lang.specs.declared.action.Action.{Action}
use Rattle.gr_lang.specs.Expressions.{values}
use Rattle.gr_lang.specs.Next.{run, acts, print_action}
use Rattle.gr_steps.specs.RangeWords.{range_words}
use Rattle.gr_steps.specs.TurnWords.{tail_of}
use Rattle.gr_steps.proofs.Looks.{look_print, look_forall, looped}
use Rattle.gr_steps.proofs.running.Running.turn.Goals as goal

pub returns-in-Print : goal.returns-in-Print
returns-in-Print c = (
  look_print c.args.table.now c.args.self.now c.in-Print.value (tail_of c.args.self.now.todo) (c.in-Run.ensures ∙ ap (λ x. run x ∷ tail_of c.args.self.now.todo) c.in-Print.is)
      ∙ ap acts (ap (λ l. print_action l c.in-Print.value) (sym c.locals-in-Print.ensures) ∙ sym c.print_action-action.ensures),
  refl,
)

pub returns-in_ok-action-in-Forall : goal.returns-in_ok-action-in-Forall
returns-in_ok-action-in-Forall c =
    let f = c.in-Forall in
    let made : Option (ℕ × ℕ × ℕ) → Option (List ℕ) → Action = looped c.args.table.now f.target in (
      look_forall c.args.table.now c.args.self.now f.lo f.hi f.grain f.target f.args (tail_of c.args.self.now.todo) (c.in-Run.ensures ∙ ap (λ x. run x ∷ tail_of c.args.self.now.todo) f.is)
          ∙ ap acts (
          ap (λ l. made (range_words l f.lo f.hi f.grain) (values c.args.self.now.locals f.args)) (sym c.locals-in-Forall.ensures)
          ∙ ap (λ r. made r (values c.args.self.now.locals f.args)) (sym c.range_of-range.ensures)
          ∙ ap (λ l. made c.range_of-range.result (values l f.args)) (sym c.locals-in-Forall-2.ensures)
          ∙ sym c.in_ok-action-in-Forall.ensures),
      refl,
    )
