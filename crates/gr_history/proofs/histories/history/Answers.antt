use Rattle.std.proofs.Common.{◌∙◌, ap, sym, subst}
use Rattle.gr_merge.specs.Merges.{merge}
use Rattle.gr_machine.specs.declared.journal.StampedMark.{StampedMark}
use Rattle.gr_machine.specs.Histories.{history_of}
use Rattle.gr_machine.specs.Machines.{machine_of}
use Rattle.gr_world.specs.Worlds.{IsHistoryOf, slot_of_main, steps_of}
use Rattle.gr_history.proofs.histories.history.Goals as goal

pub returns-clause-run : goal.returns-clause-run
returns-clause-run g c = λ machine are. subst (IsHistoryOf machine c.args.ends.now)
    (sym (c.in_ok-history.ensures ∙ ap history_of c.in_ok-marks.ensures ∙ ap (λ lists. history_of (merge (λ (mark : StampedMark). mark.clock) lists)) c.in_ok-lists.ensures))
    (c.ends_are_runs.ensures machine c.args.ends.now are)

pub returns-clause-legal : goal.returns-clause-legal
returns-clause-legal g c = λ setup program is runnable are.
    c.runs_are_legal.ensures.legal setup program is runnable (slot_of_main c.args.ends.now) (steps_of c.args.ends.now) c.in_ok-history.history
    (returns-clause-run g c (machine_of setup program) are)
