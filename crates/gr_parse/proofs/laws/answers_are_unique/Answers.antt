use Rattle.gr_parse.proofs.Unique.{one_program, one_fault, no_program}
use Rattle.gr_parse.proofs.laws.answers_are_unique.Goals as goal

pub returns-clause-program : goal.returns-clause-program
returns-clause-program c = one_program

pub returns-clause-fault : goal.returns-clause-fault
returns-clause-fault c = λ text tokens one two are h k. one_fault text tokens are one two h.0 k.0 h.1 k.1

pub returns-clause-apart : goal.returns-clause-apart
returns-clause-apart c = λ text tokens error program are h k. no_program text tokens are error h.0 h.1 program k
