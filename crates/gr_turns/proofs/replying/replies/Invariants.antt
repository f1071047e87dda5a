use Rattle.std.proofs.Common.{◌≡◌, ◌++◌, drop}
use Rattle.std.specs.List.{zip}
use Rattle.gr_vector.specs.Laws.{replies_from}
use Rattle.gr_vector.specs.Parts.{part_of}
use Rattle.gr_vector.specs.Plans.{taken_by}
use Rattle.gr_turns.proofs.replying.replies.Given as goal

abbrev pub invariant-loop-call : goal.invariant-loop-call
invariant-loop-call l = l.answers ++ zip (drop l.call-index l.calls) (replies_from (part_of l.words.entries) (taken_by (drop l.call-index l.calls) l.ends))
    ≡ zip l.calls (replies_from (part_of l.words.entries) (taken_by l.calls l.fn.first))
