-- What is written from here on is what is left to write.
use Rattle.std.proofs.Common.{◌≡◌, ◌++◌, drop}
use Rattle.std.specs.List.{flat_map}
use Rattle.gr_format.specs.Writing.{spelled}
use Rattle.gr_msg.specs.FieldWords.{fields}
use Rattle.gr_msg.proofs.writing.put_messages.Given as goal

abbrev pub invariant-loop-message : goal.invariant-loop-message
invariant-loop-message l = l.out.items ++ spelled (flat_map fields (drop l.message-index l.messages)) ≡ l.fn.out.items ++ spelled (flat_map fields l.messages)
