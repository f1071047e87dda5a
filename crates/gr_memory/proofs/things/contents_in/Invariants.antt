use Rattle.std.proofs.Common.{◌≡◌, ◌++◌, drop}
use Rattle.std.specs.Prelude.{map}
use Rattle.gr_memory.specs.Contents.{content_of}
use Rattle.gr_memory.proofs.things.contents_in.Given as goal

abbrev pub invariant-loop-thing : goal.invariant-loop-thing
invariant-loop-thing l = l.contents ++ map (content_of l.words) (drop l.thing-index l.things) ≡ map (content_of l.words) l.things
