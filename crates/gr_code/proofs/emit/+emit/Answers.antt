use Rattle.std.proofs.Common.{arith}
use Rattle.gr_code.proofs.Agree.{right_agrees, do_agrees, print_agrees, spawn_agrees, loop_agrees}
use Rattle.gr_code.proofs.Emits.{one_more, if_emits, while_emits, finish_emits, block_emits, none_emits}
use Rattle.gr_code.proofs.emit.+emit.Goals as goal

pub emit_block-loop-i-init : goal.emit_block-loop-i-init
emit_block-loop-i-init t c = record {
  within = omega arith;
  place = omega arith;
  more = omega arith;
  names = c.requires.names;
  emitted = none_emits _ _ _ c.args.block.now c.args.next (omega arith) c.requires.names;
}

pub emit_block-loop-i-preserved : goal.emit_block-loop-i-preserved
emit_block-loop-i-preserved t c = record {
  within = omega arith;
  place = c.in_ok-at.ensures.within.0;
  more = omega (arith, c.loop-i.invariant.more, c.in_ok-at.ensures.within.1);
  names = c.in_ok-at.ensures.names;
  emitted = block_emits _ _ _ _ _ c.args.block.now _ c.loop-i.i _ _ _ (omega arith) (omega arith) c.index-block-i.is c.loop-i.invariant.emitted.grown c.loop-i.invariant.emitted.stands c.in_ok-at.ensures.emitted;
}

pub emit_step-returns-in_ok-at-in-Set1-clause-emitted :
    goal.emit_step-returns-in_ok-at-in-Set1-clause-emitted
emit_step-returns-in_ok-at-in-Set1-clause-emitted t c =
    let e = c.in_ok-at-in-Set1.ensures in
    one_more _ _ _ _ _ _ _ _ e.place e.ok (omega arith) c.requires.names
    (λ g to. right_agrees _ _ _ _ _ _ g _ to _ _ _ _ _ c.in-Set1.is c.targets_of-targets.ensures c.in_ok-set-in-Set1.ensures)

pub emit_step-returns-in_ok-at-in-Do-clause-emitted :
    goal.emit_step-returns-in_ok-at-in-Do-clause-emitted
emit_step-returns-in_ok-at-in-Do-clause-emitted t c =
    let e = c.in_ok-at-in-Do.ensures in
    one_more _ _ _ _ _ _ _ _ e.place e.ok (omega arith) c.requires.names (λ g to. do_agrees _ _ _ _ _ _ g _ to _ _ c.in-Do.is c.in_ok-call-in-Do.ensures)

pub emit_step-returns-in_ok-at-in-Print-clause-emitted :
    goal.emit_step-returns-in_ok-at-in-Print-clause-emitted
emit_step-returns-in_ok-at-in-Print-clause-emitted t c =
    let e = c.in_ok-at-in-Print.ensures in
    one_more _ _ _ _ _ _ _ _ e.place e.ok (omega arith) c.requires.names (λ g to. print_agrees _ _ _ _ _ _ g _ to _ _ c.in-Print.is c.in_ok-print-in-Print.ensures)

pub emit_step-returns-in_ok-at-in-Spawn-clause-emitted :
    goal.emit_step-returns-in_ok-at-in-Spawn-clause-emitted
emit_step-returns-in_ok-at-in-Spawn-clause-emitted t c =
    let e = c.in_ok-at-in-Spawn.ensures in
    one_more _ _ _ _ _ _ _ _ e.place e.ok (omega arith) c.requires.names (λ g to. spawn_agrees _ _ _ _ _ _ g _ to _ _ _ _ c.in-Spawn.is c.in_ok-spawn-in-Spawn.ensures)

pub emit_step-returns-in_ok-at-in-Forall-clause-emitted :
    goal.emit_step-returns-in_ok-at-in-Forall-clause-emitted
emit_step-returns-in_ok-at-in-Forall-clause-emitted t c =
    let e = c.in_ok-at-in-Forall.ensures in
    one_more _ _ _ _ _ _ _ _ e.place e.ok (omega arith) c.requires.names (λ g to. loop_agrees _ _ _ _ _ _ g _ to _ _ _ _ _ _ _ c.in-Forall.is c.in_ok-args-in-Forall.ensures c.loop_instruction.ensures)

pub emit_if-returns-clause-emitted : goal.emit_if-returns-clause-emitted
emit_if-returns-clause-emitted t c =
    let e = c.in_ok-at.ensures in
    if_emits _ _ _ _ _ _ _ _ _ _ _ _ _ _ _ _ _ c.requires.is c.in_ok-test.ensures (omega arith) c.requires.names c.in_ok-other.ensures.emitted c.as_slice.ensures c.in_ok-one.ensures.emitted c.as_slice-2.ensures e.place e.ok

pub emit_while-returns-clause-emitted : goal.emit_while-returns-clause-emitted
emit_while-returns-clause-emitted t c =
    let e = c.in_ok-at.ensures in
    while_emits _ _ _ _ _ _ _ _ _ _ _ _ _ _ c.requires.is c.in_ok-test.ensures (omega arith) c.requires.names e.place e.ok c.in_ok-one.ensures.emitted c.as_slice.ensures c.patch.ensures

pub emit_finish-returns-clause-emitted : goal.emit_finish-returns-clause-emitted
emit_finish-returns-clause-emitted t c =
    let e = c.in_ok-arrive.ensures in
    let f = c.in_ok-at.ensures in
    finish_emits _ _ _ _ _ _ _ _ _ _ _ _ _ c.requires.is (omega arith) c.requires.names e.place e.ok c.in_ok-body.ensures.emitted c.as_slice.ensures f.place f.ok
