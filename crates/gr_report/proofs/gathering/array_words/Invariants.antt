use Rattle.std.proofs.Common.{◌≡◌, ℕ, ◌+◌, ◌<◌, length, Some}
use Rattle.std.specs.Prelude.{slice_index}
use Rattle.gr_report.specs.Gathered.{word_by}
use Rattle.gr_report.proofs.gathering.array_words.Given as goal

abbrev pub invariant-loop-place : goal.invariant-loop-place
invariant-loop-place l = record {
  len : length l.words.items ≡ l.place;
  each : (place : ℕ) → place < l.place → word_by l.cores (l.from + place) ≡ Some (slice_index l.words.items place);
}
