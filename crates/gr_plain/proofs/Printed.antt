-- The worked row holds, by computation.
use Rattle.std.proofs.Common.{◌≡◌, ℕ, rules, []}
use Rattle.gr_syntax.specs.declared.syntax.Stmt.{the_lemmas}
use Rattle.gr_syntax.specs.declared.syntax.Expr.{the_lemmas as expr_lemmas}
use Rattle.gr_accept.specs.AcceptedRows.{prints}
use Rattle.gr_lang.specs.declared.action.Action.TheVariants as action
use Rattle.gr_lang.specs.declared.action.Op.TheVariants as op
use Rattle.gr_lang.specs.Effects.{nothing}
use Rattle.gr_lang.specs.Next.{Running, acts, next, start, look, go_on}
use Rattle.gr_lang.proofs.Nexts.{next-acts}
use Rattle.gr_lang.proofs.TaskIds.{by_ids}
use Rattle.gr_plain.specs.PrintRows.{SevenIsPrinted}

abbrev begun : Running
begun = start prints 0 []

looks_at_print : look prints begun ≡ acts (action.Call (op.Print 7))
unfolding look start
looks_at_print = search (rules, the_lemmas, expr_lemmas)

looks_at_end : look prints (go_on begun nothing) ≡ acts action.End
unfolding look start go_on
looks_at_end = search (rules, the_lemmas, expr_lemmas)

print_first : (steps : ℕ) → next prints steps begun ≡ (action.Call (op.Print 7), begun)
print_first steps = next-acts prints steps begun _ looks_at_print

then_end : (steps : ℕ) → next prints steps (go_on begun nothing) ≡ (action.End, go_on begun nothing)
then_end steps = next-acts prints steps (go_on begun nothing) _ looks_at_end

pub seven_printed : SevenIsPrinted
seven_printed = record {
  first = search (rules, by_ids, print_first);
  second = search (rules, by_ids, print_first, then_end);
  third = search (rules, by_ids, print_first, then_end);
}
