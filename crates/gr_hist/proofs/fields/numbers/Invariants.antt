use Rattle.std.proofs.Common.{◌≡◌, ◌++◌, drop, map, option_map}
use Rattle.gr_hist.specs.FieldWords.{numbers_of}
use Rattle.gr_hist.proofs.fields.numbers.Given as goal

abbrev pub invariant-loop-field : goal.invariant-loop-field
invariant-loop-field l =
    option_map (λ numbers. l.words ++ numbers) (numbers_of (map (λ field. field.now) (drop l.field-index l.fields))) ≡ numbers_of (map (λ field. field.now) l.fields)
