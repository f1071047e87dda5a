-- The worked rows hold, by computation.
use Rattle.std.proofs.Common.{◌≡◌, refl, sym, ◌∙◌, rules, arith}
use Rattle.std.specs.Prelude.{ℕ, List, [], ◌∷◌, length}
use Rattle.std.specs.FinMap.{gets, entries, empty, insert, entries-insert, len-entries, len-empty}
use Rattle.std.specs.Cmp.{nat_cmp_total}
use Rattle.std.specs.Ordering.{nat_cmp}
use Rattle.std.specs.FinSet as set
use Rattle.std.specs.FinSet.{members}
use Rattle.std.specs.Prelude.{false}
use Rattle.gr_syntax.specs.declared.syntax.Stmt.{the_lemmas}
use Rattle.gr_syntax.specs.declared.syntax.Expr.{the_lemmas as expr_lemmas}
use Rattle.gr_lang.specs.Objects.{least_start}
use Rattle.gr_lang.specs.Openings.{opening}
use Rattle.gr_lang.specs.Next.{next, start, look, go_on}
use Rattle.gr_lang.specs.States.{left}
use Rattle.gr_lang.specs.StepRows as rows
use Rattle.gr_lang.proofs.TaskIds.{by_ids}

pub seven_next : rows.SevenIsNext
unfolding next look start
seven_next = search (rules, the_lemmas, expr_lemmas)

pub seven_complete : rows.SevenIsComplete
unfolding next look start go_on opening left
seven_complete = search (rules, the_lemmas, expr_lemmas, by_ids)

pub eight_not_legal : rows.EightIsNotLegal
unfolding next look start go_on opening left
eight_not_legal = search (rules, the_lemmas, expr_lemmas, by_ids)

pub over_not_legal : rows.OverIsNotLegal
unfolding next look start go_on opening left
over_not_legal = search (rules, the_lemmas, expr_lemmas, by_ids)

pub counter_complete : rows.CounterIsComplete
unfolding next look start go_on opening left
counter_complete = search (rules, the_lemmas, expr_lemmas, by_ids)

pub divided_trapped : rows.DividedIsTrapped
unfolding next look start go_on opening left
divided_trapped = search (rules, the_lemmas, expr_lemmas, by_ids)

pub forever_trapped : rows.ForeverIsTrapped
unfolding next look start go_on opening left
forever_trapped = search (rules, the_lemmas, expr_lemmas, by_ids)

pub word_calls : rows.WordCalls
word_calls = record {
  read = search rules;
  write = search rules;
  write_gives_none = search rules;
  add = search rules;
  add_gives = search rules;
  cas = search rules;
  cas_other = search rules;
  reduce = search rules;
}

pub set_calls : rows.SetCalls
set_calls = record { insert_there = search (rules, members); insert_new = search (rules, members); remove = search (rules, members); has = search (rules, members) }

pub map_calls : rows.MapCalls
map_calls = record { put = search (rules, gets); merge = search (rules, gets); get = search (rules, gets); get_absent = search (rules, gets); erase = search (rules, gets) }

pub vector_calls : rows.VectorCalls
vector_calls = record { push = search rules; pop = search rules; dequeue = search rules }

nothing_in : {A : Type 0} (xs : List A) → length xs ≡ 0 → xs ≡ []
nothing_in [] none = refl
nothing_in (x ∷ xs) none = absurd (omega arith)

no_block : entries (empty {X = ℕ} {R = nat_cmp}) ≡ []
no_block = nothing_in _ (sym (len-entries _) ∙ len-empty nat_cmp ℕ)

one_block : entries (insert (empty {X = ℕ} {R = nat_cmp}) 2 2) ≡ (2, 2) ∷ []
one_block = search (rules, entries-insert, nat_cmp_total, no_block)

pub heap_calls : rows.HeapCalls
unfolding least_start
heap_calls = record {
  alloc = search (rules, one_block);
  alloc_none = search (rules, one_block);
  alloc_zero = search rules;
  free = search (rules, gets);
  free_none = search (rules, gets);
}

pub finish_complete : rows.FinishIsComplete
unfolding next look start go_on opening left
finish_complete = search (rules, the_lemmas, expr_lemmas, by_ids)

pub pass_not_legal : rows.PassIsNotLegal
unfolding next look start go_on opening left
pass_not_legal = search (rules, the_lemmas, expr_lemmas, by_ids)

three_is_new : set.contains (set.empty {R = nat_cmp}) 3 ≡ false
three_is_new = search (rules, members)

none_has_begun : set.len (set.empty {R = nat_cmp}) ≡ 0
none_has_begun = search (rules, members)

one_has_begun : set.len (set.insert (set.empty {R = nat_cmp}) 3) ≡ 1
one_has_begun = search (rules, members)

pub loop_complete : rows.LoopIsComplete
unfolding next look start go_on opening left
loop_complete = search (rules, the_lemmas, expr_lemmas, by_ids, three_is_new, none_has_begun, one_has_begun)

pub loop_not_passed : rows.LoopIsNotPassed
unfolding next look start go_on opening left
loop_not_passed = search (rules, the_lemmas, expr_lemmas, by_ids, three_is_new, none_has_begun, one_has_begun)
