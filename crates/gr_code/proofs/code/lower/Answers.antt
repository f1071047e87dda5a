use Rattle.std.proofs.Common.{◌∙◌, ap, subst, length, map, codes}
use Rattle.gr_syntax.specs.Items.{tasks_of}
use Rattle.gr_lang.specs.Openings.{array_words, heap_words, objects_from, target_of}
use Rattle.gr_code.specs.declared.shapes.Shape.TheVariants.{Words}
use Rattle.gr_code.specs.EmitWords.{AllAgree, AreEntries}
use Rattle.gr_code.specs.OpeningWords.{all_words}
use Rattle.gr_code.specs.Shapes.{shape_of}
use Rattle.gr_code.proofs.Words.{shapes_are}
use Rattle.gr_code.proofs.code.lower.Goals as goal

pub invariant_of-result : goal.invariant_of-result
invariant_of-result c =
    let same = c.as_slice-items.ensures ∙ ap (λ p. p.items) c.program.ensures.same in
    let named = c.in_ok-names.ensures ∙ c.program-2.ensures.same in
    let words = c.in_ok-arrays.ensures ∙ ap (λ items. array_words items items) same in
    record {
      agree = subst (λ p. AllAgree p c.in_ok-points.points) named c.in_ok-points.ensures.agree;
      tasks = subst (λ items. AreEntries c.in_ok-points.points.points c.in_ok-points.tasks.items (tasks_of items)) same c.in_ok-points.ensures.tasks;
      shapes = c.in_ok-shapes.ensures ∙ ap (λ items. map shape_of (objects_from 0 items)) same ∙ shapes_are c.args.program.now;
      words = words;
      heap = ap (λ n. Words n c.heap_words_of.result) (c.in_ok-from.ensures ∙ ap (λ l. length (all_words l)) c.as_slice.ensures.value ∙ ap length words)
          ∙ ap (λ n. Words (length (array_words c.args.program.now.items c.args.program.now.items)) n) (c.heap_words_of.ensures ∙ ap heap_words same);
      main = c.in_ok-main.ensures ∙ ap (λ p. target_of p (codes "main")) named;
    }
