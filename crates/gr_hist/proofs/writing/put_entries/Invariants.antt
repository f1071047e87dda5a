use Rattle.std.proofs.Common.{◌≡◌, ◌++◌, drop, map}
use Rattle.gr_hist.specs.Naming.{lines_of, named}
use Rattle.gr_hist.specs.WritingWords.{HaveNumbers}
use Rattle.gr_hist.proofs.writing.put_entries.Given as goal

abbrev pub invariant-loop-entry : goal.invariant-loop-entry
invariant-loop-entry l = record {
  text : l.out.items ++ lines_of (map (named l.names) (drop l.entry-index l.entries)) ≡ l.fn.out.items ++ lines_of (map (named l.names) l.entries);
  fits : HaveNumbers l.names (drop l.entry-index l.entries) → HaveNumbers l.names l.entries;
}
