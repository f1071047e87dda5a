use Rattle.std.proofs.Common.{◌∙◌, false, true}
use Rattle.gr_replay.proofs.Dividing.{line_at, program_here, history_here, program_whole, history_none, further, at_start}
use Rattle.gr_replay.proofs.division.divide.Goals as goal

pub loop-rest-init : goal.loop-rest-init
loop-rest-init c = at_start c.args.source.now

pub returns-then-divides-clause-program : goal.returns-then-divides-clause-program
returns-then-divides-clause-program c =
    program_here c.args.source.now c.loop-rest.start c.line_len-len.result
    (line_at c.args.source.now c.loop-rest.start c.line_len-len.result c.is_line-divides.result true c.line_len-len.ensures c.is_line-divides.ensures c.if-divides.true)
    c.loop-rest.invariant.program

pub returns-then-divides-clause-history : goal.returns-then-divides-clause-history
returns-then-divides-clause-history c =
    c.behind.ensures
    ∙ history_here c.args.source.now c.loop-rest.start c.line_len-len.result
    (line_at c.args.source.now c.loop-rest.start c.line_len-len.result c.is_line-divides.result true c.line_len-len.ensures c.is_line-divides.ensures c.if-divides.true)
    c.loop-rest.invariant.history

pub returns-then-len-rest-clause-program : goal.returns-then-len-rest-clause-program
returns-then-len-rest-clause-program c =
    program_whole c.args.source.now c.loop-rest.start c.line_len-len.result
    (line_at c.args.source.now c.loop-rest.start c.line_len-len.result c.is_line-divides.result false c.line_len-len.ensures c.is_line-divides.ensures c.if-divides.false)
    c.if-len-rest.true c.loop-rest.invariant.program

pub returns-then-len-rest-clause-history : goal.returns-then-len-rest-clause-history
returns-then-len-rest-clause-history c =
    history_none c.args.source.now c.loop-rest.start c.line_len-len.result
    (line_at c.args.source.now c.loop-rest.start c.line_len-len.result c.is_line-divides.result false c.line_len-len.ensures c.is_line-divides.ensures c.if-divides.false)
    c.if-len-rest.true c.loop-rest.invariant.history

pub loop-rest-preserved : goal.loop-rest-preserved
loop-rest-preserved c =
    further c.args.source.now c.loop-rest.start c.line_len-len.result
    (line_at c.args.source.now c.loop-rest.start c.line_len-len.result c.is_line-divides.result false c.line_len-len.ensures c.is_line-divides.ensures c.if-divides.false)
    c.if-len-rest.false c.loop-rest.invariant
