-- What is written from here on is what is left to write.
use Rattle.std.proofs.Common.{◌≡◌, ◌++◌, drop}
use Rattle.gr_format.specs.Writing.{spelled}
use Rattle.gr_format.proofs.field.put.Given as goal

abbrev pub invariant-loop-field : goal.invariant-loop-field
invariant-loop-field l = l.out.items ++ spelled (drop l.field-index l.fields) ≡ l.fn.out.items ++ spelled l.fields
