use Rattle.std.proofs.Common.{◌∙◌, ap, sym, refl, length}
use Rattle.gr_lang.specs.Next.{look}
use Rattle.gr_code.specs.Terms.{term_value}
use Rattle.gr_code.specs.Points.{point_at}
use Rattle.gr_task.specs.States.{state_of}
use Rattle.gr_task.proofs.Run.{none_looks, set_moves, set_words, branch_moves, branch_words}
use Rattle.gr_task.proofs.task.TaskState.turn.Goals as goal

pub returns-in-None-clause-turns : goal.returns-in-None-clause-turns
returns-in-None-clause-turns c = (ap (λ t. look c.args.code.now.program (state_of c.args.code.now t)) (sym c.self.view_is) ∙ none_looks c.args.code.now c.self.inside.at c.self.inside.locals.items c.in-None.ensures, refl)

pub returns-in-Some-value_of-clause-turns : goal.returns-in-Some-value_of-clause-turns
returns-in-Some-value_of-clause-turns c = (
  c.if-not-may_move.false,
  ap (λ t. look c.args.code.now.program (state_of c.args.code.now t)) (sym c.self.view_is)
      ∙ set_moves c.args.code.now _ _ _ _ _ _ _ _ c.in-Some.ensures (ap (λ t. length t.words) c.self.view_is ∙ c.requires ∙ ap (λ t. length (point_at c.args.code.now.points t.at).names) (sym c.self.view_is)) c.in-Set.is
      (ap (λ ws. term_value ws c.in-Set.value) (sym c.deref.ensures.value) ∙ sym c.value_of.ensures ∙ c.in-Some-value_of.is) c.put_word.ensures,
)

pub returns-in-Some-value_of-clause-words : goal.returns-in-Some-value_of-clause-words
returns-in-Some-value_of-clause-words c =
    set_words c.args.code.now _ _ _ _ _ _ _ c.in-Some-value_of.word c.in-Some.ensures (ap (λ t. length t.words) c.self.view_is ∙ c.requires ∙ ap (λ t. length (point_at c.args.code.now.points t.at).names) (sym c.self.view_is)) c.in-Set.is c.put_word.ensures

pub returns-in-Some-value_of-2-clause-turns : goal.returns-in-Some-value_of-2-clause-turns
returns-in-Some-value_of-2-clause-turns c = (
  c.if-not-may_move-2.false,
  ap (λ t. look c.args.code.now.program (state_of c.args.code.now t)) (sym c.self.view_is)
      ∙ branch_moves c.args.code.now _ _ _ _ _ _ _ _ c.in-Some-value_of-2.word c.in-Some.ensures (ap (λ t. length t.words) c.self.view_is ∙ c.requires ∙ ap (λ t. length (point_at c.args.code.now.points t.at).names) (sym c.self.view_is)) c.in-Branch.is
      (ap (λ ws. term_value ws c.in-Branch.test) (sym c.deref-in-Branch.ensures.value) ∙ sym c.value_of-in-Branch.ensures ∙ c.in-Some-value_of-2.is) c.chosen-self-inside.ensures,
)

pub returns-in-Some-value_of-2-clause-words : goal.returns-in-Some-value_of-2-clause-words
returns-in-Some-value_of-2-clause-words c =
    branch_words c.args.code.now _ _ _ _ _ _ _ _ c.in-Some-value_of-2.word c.in-Some.ensures (ap (λ t. length t.words) c.self.view_is ∙ c.requires ∙ ap (λ t. length (point_at c.args.code.now.points t.at).names) (sym c.self.view_is)) c.in-Branch.is c.chosen-self-inside.ensures
