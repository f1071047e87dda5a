use Rattle.std.proofs.Common.{◌≡◌, ◌++◌}
use Rattle.gr_machine.specs.Events.{letters_from}
use Rattle.gr_posts.proofs.posts.deliver_all.Given as goal

abbrev pub invariant-loop-message : goal.invariant-loop-message
invariant-loop-message l = l.inbox.items ++ letters_from l.from l.message-iterator.rest.items ≡ l.fn.inbox.items ++ letters_from l.from l.fn.messages
