-- The worked rows of programs hold, by the equations of their trees.
use Rattle.std.proofs.Common.{rules}
use Rattle.std.specs.FinSet.{members}
use Rattle.gr_syntax.specs.declared.syntax.Stmt.{the_lemmas}
use Rattle.gr_syntax.specs.declared.syntax.Expr.{the_lemmas as expr_lemmas}
use Rattle.gr_lang.specs.Openings.{opening}
use Rattle.gr_lang.specs.Next.{next, start, look, go_on}
use Rattle.gr_lang.specs.States.{left}
use Rattle.gr_lang.proofs.TaskIds.{by_ids}
use Rattle.gr_machine.specs.ProgramRows as rows

pub counter_complete : rows.CounterIsComplete
unfolding next look start go_on opening left
counter_complete = search (rules, the_lemmas, expr_lemmas, by_ids)

pub remote_complete : rows.RemoteIsComplete
unfolding next look start go_on opening left
remote_complete = search (rules, the_lemmas, expr_lemmas, by_ids)

pub trapped_legal : rows.TrappedIsLegal
unfolding next look start go_on opening left
trapped_legal = search (rules, the_lemmas, expr_lemmas, by_ids)

pub counter_plays : rows.CounterPlays
unfolding next look start go_on opening
counter_plays = search (rules, the_lemmas, expr_lemmas)

pub remote_plays : rows.RemotePlays
unfolding next look start go_on opening
remote_plays = search (rules, the_lemmas, expr_lemmas)

pub trapped_plays : rows.TrappedPlays
unfolding next look start go_on opening
trapped_plays = search (rules, the_lemmas, expr_lemmas)

pub waits_play : rows.WaitsPlay
unfolding next look start go_on opening
waits_play = search (rules, the_lemmas, expr_lemmas)

pub batch_plays : rows.BatchPlays
unfolding next look start go_on opening
batch_plays = search (rules, the_lemmas, expr_lemmas)

pub turn_plays : rows.TurnPlays
unfolding next look start go_on opening
turn_plays = search (rules, the_lemmas, expr_lemmas)

pub waits_complete : rows.WaitsIsComplete
unfolding next look start go_on opening left
waits_complete = search (rules, the_lemmas, expr_lemmas, by_ids)

pub batch_complete : rows.BatchIsComplete
unfolding next look start go_on opening left
batch_complete = search (rules, the_lemmas, expr_lemmas, by_ids, members)

pub turn_complete : rows.TurnIsComplete
unfolding next look start go_on opening left
turn_complete = search (rules, the_lemmas, expr_lemmas, by_ids)

pub looped_plays : rows.LoopedPlays
unfolding next look start go_on opening
looped_plays = search (rules, the_lemmas, expr_lemmas)

pub nested_plays : rows.NestedPlays
unfolding next look start go_on opening
nested_plays = search (rules, the_lemmas, expr_lemmas)

pub nested_complete : rows.NestedIsComplete
unfolding next look start go_on opening left
nested_complete = search (rules, the_lemmas, expr_lemmas, by_ids)

pub enrolled_plays : rows.EnrolledPlays
unfolding next look start go_on opening
enrolled_plays = search (rules, the_lemmas, expr_lemmas)

pub enrolled_complete : rows.EnrolledIsComplete
unfolding next look start go_on opening left
enrolled_complete = search (rules, the_lemmas, expr_lemmas, by_ids)

pub reduced_plays : rows.ReducedPlays
unfolding next look start go_on opening
reduced_plays = search (rules, the_lemmas, expr_lemmas)

pub reduced_complete : rows.ReducedIsComplete
unfolding next look start go_on opening left
reduced_complete = search (rules, the_lemmas, expr_lemmas, by_ids)
